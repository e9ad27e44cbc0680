-- A table says exactly one thing.
use Rattle.std.proofs.Common.{◌+◌, ◌<◌, ◌^◌}
use Rattle.cbor_data.specs.Value.{Value}
use Rattle.cddl_meaning.specs.Size.{size}
use Rattle.cddl_meaning.specs.Ranks.Decided.{IsDecided}
use Rattle.cddl_meaning.proofs.OfRanks.Lemmas.{is_decided}
use Rattle.table_nodes.specs.Language.{language_of, rank_of, root_form}
use Rattle.table_nodes.specs.declared.table.Table.{Table}

pub decides : (table : Table) (x : Value) → 0 + size x < 2 ^ 64 → IsDecided (language_of table) (root_form table) 0 x
decides table x room = is_decided (language_of table) (rank_of table) table.ranks table.ranked (root_form table) 0 x room
