use Rattle.std.proofs.Common.{◌++◌, List, drop}
use Rattle.cddl_meaning.specs.Alike.{AlikeAll}
use Rattle.cddl_language.specs.Language.{TypeName}
use Rattle.cddl_language.specs.Terms.{Entries}
use Rattle.check_groups.specs.Choosing.Nesting.{AreChosenEntries}
use Rattle.check_terms.specs.Trees.{IsEntries}
use Rattle.table_making.specs.Basis.{IsSource, Sense}
use Rattle.table_making.specs.Origins.{AreKnownEntries, IsTypeOrigin}
use Rattle.table_making.proofs.Forming.{EntryWalk, names_of_entries}
use Rattle.table_making.proofs.chosen.add_chosen.Given as goal

abbrev pub invariant-loop-entry : goal.invariant-loop-entry
invariant-loop-entry l = (s : Sense) (es : Entries) → IsSource s l.terms l.source → IsEntries l.terms l.row es → AreKnownEntries s es → AreChosenEntries s.definitions es → (ns : List TypeName) → AlikeAll (IsTypeOrigin s l.terms) ns l.fn.chosen.items → EntryWalk s l.terms (ns ++ names_of_entries s l.terms es) (drop l.entry-index l.entry-items) l.chosen.items
