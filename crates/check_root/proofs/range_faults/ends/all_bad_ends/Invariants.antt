use Rattle.std.proofs.Common.{List}
use Rattle.cddl_language.specs.Literals.{Values}
use Rattle.cddl_language.specs.Terms as L
use Rattle.cddl_language.specs.Terms.{Text}
use Rattle.check_literals.specs.Literals.{AreLiterals}
use Rattle.all_offsets.proofs.Lemmas.{Gathers}
use Rattle.check_root.specs.RangeFaults.Ends.{AreEnds, IsBadEnd}
use Rattle.check_root.proofs.range_faults.ends.all_bad_ends.Given as goal

abbrev pub invariant-loop-question : goal.invariant-loop-question
invariant-loop-question l = (xs : List L.Definition) (root : Text) (worth : Values) → AreLiterals xs root worth l.terms l.literals → AreEnds xs root worth l.terms l.asked → Gathers (λ k. IsBadEnd xs worth l.terms) l.asked l.question-index l.offsets.items
