use Rattle.std.proofs.Common.{◌≡◌, List, IfSome}
use Rattle.cddl_language.specs.Terms as L
use Rattle.cddl_language.specs.Terms.{Text}
use Rattle.check_terms.specs.Definitions.{IsBody}
use Rattle.check_terms.specs.Table.{Grows}
use Rattle.check_instances.specs.Outlines.{IsTermOf}
use Rattle.check_instances.proofs.outlines.outline_body.Given as goal

abbrev pub invariant-loop-row : goal.invariant-loop-row
invariant-loop-row l = record {
  grown : Grows l.fn.terms l.terms;
  texts : l.terms.texts ≡ l.fn.terms.texts;
  stand : (x : L.Body) (ps : List Text) → IsBody l.fn.terms l.body x → IfSome l.choices.same (IsTermOf l.terms x ps) × IfSome l.choices.other (IsTermOf l.terms x ps);
}
