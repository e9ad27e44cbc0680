use Rattle.cddl_language.specs.Reading.{rules_of}
use Rattle.check_reading.specs.Survey.Survey.{IsSurvey, defined_in}
use Rattle.tree_nodes.specs.View.{view}
use Rattle.tree_nodes.specs.declared.tree.Tree.{Tree}
use Rattle.all_offsets.proofs.Lemmas.{Gathers}
use Rattle.check_text.specs.SiteFaults.Told.{AreSpoken, IsToldAt}
use Rattle.check_text.specs.SiteFaults.Words.{IsToldAtWord}
use Rattle.check_text.proofs.everywhere.sites.at_sites.Given as goal

abbrev pub invariant-loop-word : goal.invariant-loop-word
invariant-loop-word l = (tree : Tree) → IsSurvey l.terms tree l.survey → AreSpoken l.terms (rules_of (view tree)) l.word-items → Gathers (λ k. IsToldAt l.terms (rules_of (view tree)) (IsToldAtWord l.code (defined_in tree))) l.word-items l.word-index l.offsets.items
