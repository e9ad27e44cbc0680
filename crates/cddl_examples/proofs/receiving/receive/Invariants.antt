use Rattle.std.proofs.Common.{None, take, flat_map}
use Rattle.cddl_table.specs.Text.{IsTabledText}
use Rattle.table_nodes.specs.declared.table.Table.{Table}
use Rattle.seq_run.specs.Judge.{judge_of}
use Rattle.cddl_examples.proofs.SoFar.{IsSoFar}
use Rattle.cddl_examples.proofs.receiving.receive.Given as goal

abbrev pub invariant-loop-piece : goal.invariant-loop-piece
invariant-loop-piece l = (table : Table) × IsTabledText l.text None table × IsSoFar (judge_of table l.steps) l.fn.limits l.session (flat_map (λ v. v.items) (take l.piece-index l.pieces)) l.items.items
