use Rattle.std.proofs.Common.{◌≡◌, true, List, drop}
use Rattle.check_instances.specs.Closed.Closed.{AreAlternatives}
use Rattle.cddl_language.specs.Choices.{can_choose}
use Rattle.cddl_language.specs.Language.{chosen_names}
use Rattle.cddl_language.specs.Terms.{Entries}
use Rattle.table_making.specs.Basis.{IsSource, Sense}
use Rattle.table_making.specs.Origins.{AreKnown}
use Rattle.table_making.proofs.Forming.{EntriesWalk}
use Rattle.table_making.proofs.chosen.chosen.Given as goal

abbrev pub invariant-loop-row : goal.invariant-loop-row
invariant-loop-row l = (s : Sense) (ess : List Entries) → IsSource s l.terms l.source → AreAlternatives l.terms ess l.fn.group → AreKnown s ess → can_choose s.definitions ess ≡ true → EntriesWalk s l.terms (chosen_names s.worth s.definitions ess) (drop l.row-index l.row-items) l.chosen.items
