-- The definitions of `cddl_language` that definitions by numbers stand for.
use Rattle.std.specs.Prelude.{◌≡◌, ℕ, List, [], ◌∷◌, Some, slice_get}
use Rattle.cddl_language.specs.Terms as L
use Rattle.cddl_language.specs.Terms.{Text, Term, Entry}
use Rattle.check_terms.specs.declared.definition.Sign.{Sign}
use Rattle.check_terms.specs.declared.definition.Sign.TheVariants as SignV
use Rattle.check_terms.specs.declared.definition.Body.{Body}
use Rattle.check_terms.specs.declared.definition.Body.TheVariants as BodyV
use Rattle.check_terms.specs.declared.definition.Definition.{Definition}
use Rattle.check_terms.specs.Table.{Table}
use Rattle.check_terms.specs.Trees.{IsTerm, IsEntry}

abbrev pub sign_of : Sign → L.Sign
sign_of SignV.Is = L.is
sign_of SignV.TypeOr = L.type_or
sign_of SignV.GroupOr = L.group_or

-- the numbers are of these texts, one for one
pub data AreTexts (texts : List Text) : List ℕ → List Text → Type 0 where
  no_texts : AreTexts texts [] []
  further_text : {n : ℕ} {x : Text} {ns : List ℕ} {xs : List Text} → slice_get texts n ≡ Some x → AreTexts texts ns xs → AreTexts texts (n ∷ ns) (x ∷ xs)

pub data IsBody (t : Table) : Body → L.Body → Type 0 where
  types : {n : ℕ} {x : Term} → IsTerm t n x → IsBody t (BodyV.Types n) (L.of_types x)
  entry : {n : ℕ} {x : Entry} → IsEntry t n x → IsBody t (BodyV.Entry n) (L.of_entry x)

pub record IsDefinition (t : Table) (d : Definition) (x : L.Definition) : Type 0 where
  pub name : slice_get t.texts d.name ≡ Some x.name
  pub parameters : AreTexts t.texts d.parameters.items x.parameters
  pub sign : sign_of d.sign ≡ x.sign
  pub body : IsBody t d.body x.body

-- one for one, in order
pub data AreDefinitions (t : Table) : List Definition → List L.Definition → Type 0 where
  no_definitions : AreDefinitions t [] []
  further_definition : {d : Definition} {x : L.Definition} {ds : List Definition} {xs : List L.Definition} → IsDefinition t d x → AreDefinitions t ds xs → AreDefinitions t (d ∷ ds) (x ∷ xs)

-- all their numbers are equal, and their signs
pub record AreSame (d e : Definition) : Type 0 where
  pub name : d.name ≡ e.name
  pub parameters : d.parameters.items ≡ e.parameters.items
  pub sign : d.sign ≡ e.sign
  pub body : d.body ≡ e.body
