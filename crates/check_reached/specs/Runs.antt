-- What serves the sites of one rule.
use Rattle.std.specs.Prelude.{ℕ, List, [], ◌∷◌, Option, Some, None}
use Rattle.tree_nodes.specs.Syntax.Syntax as S
use Rattle.cddl_language.specs.Reading.{name_in, parameters_in}
use Rattle.cddl_language.specs.Terms.{Ref, Text, arguments_of}
use Rattle.check_terms.specs.Definitions.{AreTexts}
use Rattle.check_terms.specs.Filled.{term_trees}
use Rattle.check_terms.specs.Table.{Table}
use Rattle.check_terms.specs.Trees.{IsRef}
use Rattle.check_terms.specs.Fill.Slots.{ArePlacesOf}
use Rattle.check_terms.specs.Fill.Templates.{AreTrees}
use Rattle.check_reached.specs.Calls.{refs_named}
use Rattle.check_reached.specs.declared.runs.Call.{Call}
use Rattle.check_reached.specs.declared.runs.Run.{Run}

-- the rows of a reference and of its arguments
pub record IsCall (t : Table) (c : Call) (r : Ref) : Type 0 where
  pub row : IsRef t c.row r
  pub arguments : AreTrees t c.arguments.items (term_trees (arguments_of r))

-- one for one
pub data AreCalls (t : Table) : List Call → List Ref → Type 0 where
  no_calls : AreCalls t [] []
  further_call : {c : Call} {r : Ref} {cs : List Call} {rs : List Ref} → IsCall t c r → AreCalls t cs rs → AreCalls t (c ∷ cs) (r ∷ rs)

-- the places of these parameters, and these references
pub record IsRunOf (t : Table) (ps : List Text) (refs : List Ref) (run : Run) : Type 0 where
  pub numbers : List ℕ
  pub parameters : AreTexts t.texts numbers ps
  pub places : ArePlacesOf run.slots numbers
  pub calls : AreCalls t run.calls.items refs

-- those of a rule, and of the instances of its name among these references
abbrev pub IsRunFor : Table → List Ref → Option S.Rule → Run → Type 0
IsRunFor t refs None run = IsRunOf t [] [] run
IsRunFor t refs (Some r) run = IsRunOf t (parameters_in r) (refs_named (name_in r) refs) run
