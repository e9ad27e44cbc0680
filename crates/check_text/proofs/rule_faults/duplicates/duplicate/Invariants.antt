use Rattle.cddl_language.specs.Reading.{rules_of}
use Rattle.tree_nodes.specs.declared.tree.Tree.{Tree}
use Rattle.tree_nodes.specs.View.{view}
use Rattle.check_text.specs.RuleFaults.Duplicates.{IsDuplicateAt}
use Rattle.check_reading.specs.Survey.Survey.{IsSurvey}
use Rattle.check_text.proofs.OfRuleFaults.Telling.{Goes}
use Rattle.check_text.proofs.rule_faults.duplicates.duplicate.Given as goal

abbrev pub invariant-loop-place : goal.invariant-loop-place
invariant-loop-place l = (tree : Tree) → IsSurvey l.terms tree l.survey → Goes (IsDuplicateAt (rules_of (view tree))) (rules_of (view tree)) l.place l.least
