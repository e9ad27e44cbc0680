use Rattle.std.proofs.Common.{◌≡◌, List, drop, slice_get}
use Rattle.tree_nodes.specs.Syntax.Syntax.{Rule}
use Rattle.cddl_language.specs.Terms.{Ref}
use Rattle.check_names.specs.Environment.Places.{lists}
use Rattle.check_terms.specs.Table.{Grows}
use Rattle.check_reading.specs.Parts.{AreParts, Placed}
use Rattle.check_reached.specs.Asked.{AreReady, wanted_placed}
use Rattle.check_reached.specs.Runs.{IsRunFor}
use Rattle.check_reached.proofs.Asking.{IsGoing}
use Rattle.check_reached.proofs.asked.ask_all.Given as goal

abbrev pub invariant-loop-part : goal.invariant-loop-part
invariant-loop-part l = record {
  grown : Grows l.fn.terms l.terms;
  texts : l.terms.texts ≡ l.fn.terms.texts;
  serves : (rs : List Rule) (refs : List Ref) → AreReady l.fn.terms rs refs (lists l.calls) l.definitions → IsRunFor l.terms refs (slice_get rs l.run.rule) l.run;
  done : (rs : List Rule) (refs : List Ref) (ws : List Placed) → AreReady l.fn.terms rs refs (lists l.calls) l.definitions → AreParts l.fn.terms l.parts ws → IsGoing Placed (wanted_placed rs refs) ws l.terms (drop l.part-index ws) l.asked.items;
}
