use Rattle.std.proofs.Common.{take, flat_map}
use Rattle.seq_run.specs.Judge.{judge_of}
use Rattle.seq_run.proofs.Cutting.{IsCut}
use Rattle.seq_run.proofs.pieces.validate_pieces.Given as goal

abbrev pub invariant-loop-piece : goal.invariant-loop-piece
invariant-loop-piece l = IsCut (judge_of l.table l.fn.steps) l.fn.limits l.session (flat_map (λ v. v.items) (take l.piece-index l.pieces)) l.items.items
