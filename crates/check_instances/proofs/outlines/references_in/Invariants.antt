use Rattle.std.proofs.Common.{List}
use Rattle.cddl_language.specs.Terms as L
use Rattle.cddl_language.specs.Terms.{Text}
use Rattle.check_terms.specs.Definitions.{IsBody}
use Rattle.check_instances.proofs.OfOutlines.Parts.{AreTaken}
use Rattle.check_instances.proofs.OfOutlines.Taking.{bound}
use Rattle.check_instances.proofs.outlines.references_in.Given as goal

abbrev pub invariant-loop-number : goal.invariant-loop-number
invariant-loop-number l = (x : L.Body) (ps : List Text) → IsBody l.terms l.fn.body x → AreTaken l.terms x ps l.parts.keys l.references.items

abbrev pub decreases-loop-number : goal.decreases-loop-number
decreases-loop-number l = bound l.parts.keys
