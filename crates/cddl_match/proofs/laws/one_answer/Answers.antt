use Rattle.std.proofs.Common.{◌+◌, ◌<◌, ◌^◌, arith}
use Rattle.cddl_meaning.specs.Size.{size}
use Rattle.table_nodes.specs.Language.{language_of}
use Rattle.cddl_meaning.proofs.Lemmas.{one_saying}
use Rattle.cddl_match.proofs.laws.one_answer.Goals as goal

pub returns-clause-node : goal.returns-clause-node
returns-clause-node c = λ l n p v w x a b h d e. one_saying l h d e

pub returns-clause-table : goal.returns-clause-table
returns-clause-table c = λ table x a b v w h d e.
    let room : 0 + size x < 2 ^ 64 = omega (arith, h) in
    one_saying (language_of table) room d e
