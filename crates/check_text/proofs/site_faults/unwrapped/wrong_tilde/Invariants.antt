use Rattle.std.proofs.Common.{drop}
use Rattle.cddl_language.specs.Reading.{rules_of}
use Rattle.check_reading.specs.Survey.Survey.{IsSurvey, defined_in}
use Rattle.check_terms.specs.Table.{Table}
use Rattle.tree_nodes.specs.View.{view}
use Rattle.tree_nodes.specs.declared.tree.Tree.{Tree}
use Rattle.all_offsets.proofs.Lemmas.{Goes}
use Rattle.check_text.specs.SiteFaults.Told.{AreSpoken, IsToldAt}
use Rattle.check_text.specs.SiteFaults.Unwrapped.{IsWrongTilde}
use Rattle.check_text.proofs.site_faults.unwrapped.wrong_tilde.Given as goal

abbrev pub invariant-loop-word : goal.invariant-loop-word
invariant-loop-word l = (t : Table) (tree : Tree) → IsSurvey t tree l.survey → AreSpoken t (rules_of (view tree)) l.words → Goes (IsToldAt t (rules_of (view tree)) (IsWrongTilde (defined_in tree))) l.words (drop l.word-index l.words) l.least
