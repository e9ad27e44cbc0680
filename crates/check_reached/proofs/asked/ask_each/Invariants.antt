use Rattle.std.proofs.Common.{◌≡◌, List, drop}
use Rattle.cddl_language.specs.Terms.{Ref, Text}
use Rattle.check_terms.specs.Table.{Grows, Tree, nothing}
use Rattle.check_terms.specs.Fill.Templates.{IsTemplate}
use Rattle.check_reached.specs.Asked.{AreAnswers}
use Rattle.check_reading.specs.Parts.{Wanted}
use Rattle.check_reached.specs.Runs.{AreCalls}
use Rattle.check_reached.proofs.Asking.{IsFilling}
use Rattle.check_reached.proofs.asked.ask_each.Given as goal

abbrev pub invariant-loop-call : goal.invariant-loop-call
invariant-loop-call l = record {
  grown : Grows l.fn.terms l.terms;
  texts : l.terms.texts ≡ l.fn.terms.texts;
  done : (ps : List Text) (x : Tree) (refs : List Ref) (ws : List Wanted) → IsTemplate l.fn.terms ps l.template x → AreCalls l.fn.terms l.calls refs → AreAnswers l.fn.terms l.fn.asked.items ws → IsFilling l.terms ps (record { at = l.at; question = l.question; tree = x; call = nothing }) refs ws (drop l.call-index l.calls) l.asked.items;
}
