use Rattle.std.proofs.Common.{take}
use Rattle.near_words.specs.Near.{texts, IsNear}
use Rattle.near_words.proofs.nearest.Given as goal

abbrev pub invariant-loop-candidate : goal.invariant-loop-candidate
invariant-loop-candidate l = IsNear l.word (texts (take l.candidate-index l.words)) l.best
