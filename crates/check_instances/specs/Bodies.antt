-- Definitions that are ready to be filled.
use Rattle.std.specs.Prelude.{◌≡◌, ℕ, List, [], ◌∷◌, map, Some, slice_get}
use Rattle.cddl_language.specs.Terms as L
use Rattle.cddl_language.specs.Terms.{Text, Term}
use Rattle.cddl_language.specs.Prelude.{prelude}
use Rattle.cddl_language.specs.Substitution.{fill_body}
use Rattle.check_terms.specs.declared.definition.Body.{Body}
use Rattle.check_terms.specs.Definitions.{IsBody}
use Rattle.check_terms.specs.Table.{Grows, IsTable, Table}
use Rattle.check_names.specs.declared.environment.environment.Name.{Name}
use Rattle.check_names.specs.Environment.Environment.{IsStanding}
use Rattle.check_names.specs.Environment.Names.{standing}
use Rattle.check_terms.specs.Fill.Templates.{IsTemplate}
use Rattle.check_instances.specs.declared.patterns.Pattern.{Pattern}
use Rattle.check_instances.specs.Calls.{body_tree}

-- the bodies by numbers, one for one
pub data AreBodies (t : Table) : List Body → List L.Body → Type 0 where
  no_bodies : AreBodies t [] []
  further_body : {b : Body} {x : L.Body} {bs : List Body} {xs : List L.Body} → IsBody t b x → AreBodies t bs xs → AreBodies t (b ∷ bs) (x ∷ xs)

-- what the definitions mean with these arguments
abbrev pub filled_bodies : List Term → List L.Definition → List L.Body
filled_bodies ts ds = map (λ (d : L.Definition). fill_body d.parameters ts d.body) ds

pub record IsPattern (t : Table) (p : Pattern) (d : L.Definition) : Type 0 where
  pub body : IsBody t p.body d.body
  pub template : IsTemplate t d.parameters p.template (body_tree d.body)

-- one for one, in order
pub data ArePatterns (t : Table) : List Pattern → List L.Definition → Type 0 where
  no_patterns : ArePatterns t [] []
  further_pattern : {p : Pattern} {d : L.Definition} {ps : List Pattern} {ds : List L.Definition} → IsPattern t p d → ArePatterns t ps ds → ArePatterns t (p ∷ ps) (d ∷ ds)

-- All that is asked to fill what names mean, where the text has the definitions xs: also when the table has grown.
pub record AreMeanings (xs : List L.Definition) (t : Table) (names : List Name) (known own : List Pattern) : Type 0 where
  pub stand : (new : Table) → Grows t new → IsTable new → (k : ℕ) (n : Text) (name : Name) → slice_get new.texts k ≡ Some n → slice_get names k ≡ Some name → IsStanding xs n (standing name)
  pub of_prelude : ArePatterns t known prelude
  pub of_text : ArePatterns t own xs
