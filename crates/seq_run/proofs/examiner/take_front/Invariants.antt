use Rattle.std.proofs.Common.{take}
use Rattle.seq_run.specs.Smalls.{AreSmallsTaken, IsMarked}
use Rattle.seq_run.proofs.examiner.take_front.Given as goal

abbrev pub invariant-loop-count : goal.invariant-loop-count
invariant-loop-count l = AreSmallsTaken (IsMarked l.marks) l.initial.reader (take l.count l.piece) l.reader
