use Rattle.cddl_language.specs.Reading.{rules_of}
use Rattle.check_reading.specs.Survey.Survey.{IsSurvey}
use Rattle.tree_nodes.specs.declared.tree.Tree.{Tree}
use Rattle.tree_nodes.specs.View.{view}
use Rattle.check_text.specs.Everywhere.Rules.{IsToldAtRule}
use Rattle.check_text.proofs.OfEverywhere.Gathering.{GathersRules}
use Rattle.check_text.proofs.everywhere.rules.at_rules.Given as goal

abbrev pub invariant-loop-place : goal.invariant-loop-place
invariant-loop-place l = (tree : Tree) → IsSurvey l.terms tree l.survey → GathersRules (IsToldAtRule l.code (rules_of (view tree))) (rules_of (view tree)) l.place l.offsets.items
