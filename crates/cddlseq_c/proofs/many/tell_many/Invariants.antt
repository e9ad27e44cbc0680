use Rattle.std.proofs.Common.{◌≡◌}
use Rattle.seq_run.specs.Judge.{judge_of}
use Rattle.cddlseq_c.specs.Answers.{AreTold}
use Rattle.cddlseq_c.proofs.many.tell_many.Given as goal

abbrev pub invariant-loop-k : goal.invariant-loop-k
invariant-loop-k l = record { told : AreTold (judge_of l.ready.table l.ready.steps) l.ready.limits l.bytes l.offsets l.fn.ends l.ends l.k; done : l.done ≡ l.k }
