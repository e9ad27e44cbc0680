use Rattle.std.proofs.Common.{List, nat_eq, vec_len}
use Rattle.std.specs.HashMap.{get}
use Rattle.cddl_language.specs.Terms.{Text}
use Rattle.check_terms.specs.Fill.Making.{AreSlots}
use Rattle.check_terms.specs.Fill.Rows.{IsUnfolded}
use Rattle.check_terms.proofs.OfFill.Placing.{IsMade}
use Rattle.check_terms.proofs.fill.making.template_of.Given as goal

abbrev pub invariant-loop-number : goal.invariant-loop-number
invariant-loop-number l = (ps : List Text) → AreSlots l.terms ps (get nat_eq l.slots) → IsUnfolded l.terms l.body l.fn.rows.items → IsMade l.terms ps l.body (get nat_eq l.places) l.steps.items l.rows.items

abbrev pub decreases-loop-number : goal.decreases-loop-number
decreases-loop-number l = vec_len l.rows
