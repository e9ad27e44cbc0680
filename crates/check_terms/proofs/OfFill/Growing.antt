-- What stays when a table grows.
use Rattle.std.proofs.Common.{ℕ, List, Option}
use Rattle.cddl_language.specs.Terms.{Text}
use Rattle.check_terms.specs.Table.{Table, Tree, Holds}
use Rattle.check_terms.specs.declared.fill.template.Step.{Step}
use Rattle.check_terms.specs.declared.fill.template.Template.{Template}
use Rattle.check_terms.specs.Fill.Templates.{AreTrees, no_trees, further_tree, IsStep, step, AreSteps, no_steps, further_step, IsTemplate}

module _ (old new : Table) (still : (n : Option ℕ) (x : Tree) → Holds old n x → Holds new n x) where
  pub still_trees : (ns : List ℕ) (xs : List Tree) → AreTrees old ns xs → AreTrees new ns xs
  still_trees ns xs no_trees = no_trees
  still_trees ns xs (further_tree h hs) = further_tree (still _ _ h) (still_trees _ _ hs)

  pub still_step : (ps : List Text) (before : List Tree) (s : Step) (x : Tree) → IsStep old ps before s x → IsStep new ps before s x
  still_step ps before s x (step h r p q) = step (still _ _ h) r p q

  still_steps : (ps : List Text) (before : List Tree) (ss : List Step) (all : List Tree) → AreSteps old ps before ss all → AreSteps new ps before ss all
  still_steps ps before ss all no_steps = no_steps
  still_steps ps before ss all (further_step h hs) = further_step (still_step ps before _ _ h) (still_steps ps _ _ all hs)

  pub still_template : (ps : List Text) (m : Template) (x : Tree) → IsTemplate old ps m x → IsTemplate new ps m x
  still_template ps m x h = record {
    trees = h.trees;
    are_steps = still_steps ps _ _ _ h.are_steps;
    holds = still _ _ h.holds;
    is_placed = h.is_placed;
  }
