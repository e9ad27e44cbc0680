use Rattle.std.proofs.Common.{List, drop}
use Rattle.cddl_language.specs.Literals.{Values}
use Rattle.cddl_language.specs.Terms as L
use Rattle.cddl_language.specs.Terms.{Text}
use Rattle.check_literals.specs.Literals.{AreLiterals}
use Rattle.all_offsets.proofs.Lemmas.{Goes}
use Rattle.check_root.specs.ControlFaults.Controllers.{AreFlags, AreThere, IsWrong}
use Rattle.check_root.proofs.control_faults.controllers.least_wrong.Given as goal

abbrev pub invariant-loop-question : goal.invariant-loop-question
invariant-loop-question l = (xs : List L.Definition) (root : Text) (worth : Values) → AreLiterals xs root worth l.terms l.literals → AreFlags xs root worth l.terms l.wrong → AreThere xs root worth l.terms l.asked → Goes (IsWrong xs worth l.terms l.wrong) l.asked (drop l.question-index l.asked) l.least
