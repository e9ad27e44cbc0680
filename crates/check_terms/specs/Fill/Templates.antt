-- Templates: the rows of a body that hold parameters, and the trees that they stand for.
use Rattle.std.specs.Prelude.{◌≡◌, ℕ, List, [], ◌∷◌, ◌++◌, Option, Some, None, slice_get}
use Rattle.cddl_language.specs.Terms.{Text}
use Rattle.check_terms.specs.declared.row.Form.{Form}
use Rattle.check_terms.specs.Filled.{filled, replaced}
use Rattle.check_terms.specs.Table.{Table, Tree, node, Holds}
use Rattle.check_terms.specs.declared.fill.template.Step.{Step}
use Rattle.check_terms.specs.declared.fill.template.Template.{Template}

-- the numbers stand for these trees, one for one
pub data AreTrees (t : Table) : List ℕ → List Tree → Type 0 where
  no_trees : AreTrees t [] []
  further_tree : {n : ℕ} {x : Tree} {ns : List ℕ} {xs : List Tree} → Holds t (Some n) x → AreTrees t ns xs → AreTrees t (n ∷ ns) (x ∷ xs)

abbrev pub at_place : {A : Type 0} → List A → Option ℕ → Option A
at_place xs None = None
at_place xs (Some i) = slice_get xs i

-- no arguments change it
abbrev pub Stays : List Text → Tree → Type 0
Stays ps x = (ys : List Tree) → filled ps ys x ≡ x

-- a part: the tree of the step at this place, or without a place a tree that stays
abbrev pub IsPlaced : List Text → List Tree → Option ℕ → Tree → Type 0
IsPlaced ps before None x = Stays ps x
IsPlaced ps before (Some i) x = slice_get before i ≡ Some x

-- the step is that of the tree, where the steps before it are those of these trees
pub data IsStep (t : Table) (ps : List Text) (before : List Tree) (s : Step) : Tree → Type 0 where
  step : {f : Form} {w : Option Text} {a b : Tree} → Holds t (Some s.row) (node f w a b) → ((ys : List Tree) → replaced ps ys f a ≡ at_place ys s.argument) → IsPlaced ps before s.first a → IsPlaced ps before s.second b → IsStep t ps before s (node f w a b)

-- further steps, and the trees of all
pub data AreSteps (t : Table) (ps : List Text) : List Tree → List Step → List Tree → Type 0 where
  no_steps : {before : List Tree} → AreSteps t ps before [] before
  further_step : {before : List Tree} {s : Step} {x : Tree} {ss : List Step} {all : List Tree} → IsStep t ps before s x → AreSteps t ps (before ++ x ∷ []) ss all → AreSteps t ps before (s ∷ ss) all

-- the template is of the tree, with these parameters
pub record IsTemplate (t : Table) (ps : List Text) (m : Template) (x : Tree) : Type 0 where
  pub trees : List Tree
  pub are_steps : AreSteps t ps [] m.steps.items trees
  pub holds : Holds t (Some m.body) x
  pub is_placed : IsPlaced ps trees m.place x
