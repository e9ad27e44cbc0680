-- Outlines: definitions with the references of their bodies alone.
use Rattle.std.specs.Prelude.{◌≡◌, ℕ, Bool, true, false, if◌then◌else◌, List, [], ◌∷◌, ◌++◌, Option, Some, None}
use Rattle.cddl_language.specs.Reach.{Point, body_points, points}
use Rattle.cddl_language.specs.Substitution.{fill, fill_body}
use Rattle.cddl_language.specs.Terms as L
use Rattle.cddl_language.specs.Terms.{Text, Term}
use Rattle.check_terms.specs.declared.definition.Body.{Body}
use Rattle.check_terms.specs.declared.definition.Body.TheVariants as BodyV
use Rattle.check_terms.specs.declared.definition.Definition.{Definition}
use Rattle.check_terms.specs.declared.row.Form.{Form}
use Rattle.check_terms.specs.declared.row.Form.TheVariants as F
use Rattle.check_terms.specs.declared.row.Row.{Row}
use Rattle.check_terms.specs.Definitions.{AreDefinitions, IsBody, IsDefinition}
use Rattle.check_terms.specs.Fill.Rows.{with_part}
use Rattle.check_terms.specs.Table.{Table}
use Rattle.check_terms.specs.Trees.{IsTerm}
use Rattle.check_instances.specs.Lists.{IsIn}

-- The same name, parameters and sign; and with any arguments, what stands in its body stands in that of the other.
pub record IsOutline (y x : L.Definition) : Type 0 where
  pub name : y.name ≡ x.name
  pub parameters : y.parameters ≡ x.parameters
  pub sign : y.sign ≡ x.sign
  pub among : (ts : List Term) (p : Point) → IsIn p (body_points (fill_body y.parameters ts y.body)) → IsIn p (body_points (fill_body x.parameters ts x.body))

-- one for one, in order
pub data AreOutlines : List L.Definition → List L.Definition → Type 0 where
  no_outlines : AreOutlines [] []
  further_outline : {y x : L.Definition} {ys xs : List L.Definition} → IsOutline y x → AreOutlines ys xs → AreOutlines (y ∷ ys) (x ∷ xs)

-- the definition by numbers is of an outline
pub record HasOutline (t : Table) (d : Definition) (x : L.Definition) : Type 0 where
  pub outline : L.Definition
  pub holds : IsDefinition t d outline
  pub is_outline : IsOutline outline x

pub record HasOutlines (t : Table) (ds : List Definition) (xs : List L.Definition) : Type 0 where
  pub outlines : List L.Definition
  pub hold : AreDefinitions t ds outlines
  pub are_outlines : AreOutlines outlines xs

-- the row is of a term, and with any arguments for these parameters, what stands in it stands in the body
pub record IsTermOf (t : Table) (x : L.Body) (ps : List Text) (n : ℕ) : Type 0 where
  pub term : Term
  pub holds : IsTerm t n term
  pub among : (ts : List Term) (p : Point) → IsIn p (points (fill ps ts term)) → IsIn p (body_points (fill_body ps ts x))

-- the same of a body
pub record IsBodyOf (t : Table) (x : L.Body) (ps : List Text) (b : Body) : Type 0 where
  pub body : L.Body
  pub holds : IsBody t b body
  pub among : (ts : List Term) (p : Point) → IsIn p (body_points (fill_body ps ts body)) → IsIn p (body_points (fill_body ps ts x))

abbrev pub body_of : Option ℕ → Body → Body
body_of None b = b
body_of (Some n) b = BodyV.Types n

-- a term that is a reference
abbrev pub is_reference : Form → Bool
is_reference F.Named = true
is_reference F.Unwrapped = true
is_reference F.ChoiceOfName = true
is_reference f = false

-- what is to be taken, and the references, after a row was taken

abbrev pub parts_after : Option Row → List ℕ → List ℕ
parts_after None ns = ns
parts_after (Some r) ns = if is_reference r.form then ns else with_part (with_part ns r.first) r.second

abbrev pub references_after : Option Row → ℕ → List ℕ → List ℕ
references_after None n ns = ns
references_after (Some r) n ns = if is_reference r.form then ns ++ n ∷ [] else ns
