-- Where the way of `~` from an instance ends.
use Rattle.std.specs.Prelude.{◌≡◌, ℕ, Bool, true, false, List, [], ◌∷◌, Option, Some, slice_get}
use Rattle.cddl_language.specs.Environment.{definitions_of, is_in}
use Rattle.cddl_language.specs.Kinds.{Opened, opened}
use Rattle.cddl_language.specs.Substitution.{fill_ref}
use Rattle.cddl_language.specs.Terms.{Term, named, Ref, Definition, of_types, stripped, name_of, arguments_of}
use Rattle.check_terms.specs.Table.{Table}
use Rattle.check_terms.specs.Trees.{IsRef}

-- A reference has one definition, a type; out of its parentheses it is this one.
pub record IsOneType (ds : List Definition) (r : Ref) (t : Term) : Type 0 where
  pub definition : Definition
  pub type : Term
  pub sole : definitions_of ds (name_of r) ≡ definition ∷ []
  pub body : definition.body ≡ of_types type
  pub same : stripped type ≡ t

-- The way of `~` from one reference to another: through names that are no parameters.
pub data LeadsOn (ds : List Definition) : Ref → Ref → Type 0 where
  at_once : {r : Ref} → LeadsOn ds r r
  through : {r e h : Ref} → (o : IsOneType ds r (named h)) → is_in o.definition.parameters (name_of h) ≡ false → LeadsOn ds (fill_ref o.definition.parameters (arguments_of r) h) e → LeadsOn ds r e

abbrev pub is_name : Term → Bool
is_name (named r) = true
is_name _ = false

-- the way from the reference ends at this instance, which is not a name itself
pub record EndsAt (ds : List Definition) (t : Table) (refs : List Ref) (r : Ref) (o : Option (Option ℕ)) : Type 0 where
  pub end : Ref
  pub place : ℕ
  pub there : slice_get refs place ≡ Some end
  pub number : ℕ
  pub told : o ≡ Some (Some number)
  pub ref : IsRef t number end
  pub way : LeadsOn ds r end
  pub type : Term
  pub itself : IsOneType ds end type
  pub no_name : is_name type ≡ false

-- for each instance of which `~` unwraps anything
abbrev pub AreEndings : List Definition → Table → List Ref → List (Option ℕ) → Type 0
AreEndings xs t refs ends = (k : ℕ) (r : Ref) (o : Opened) → slice_get refs k ≡ Some r → opened xs r ≡ Some o → EndsAt xs t refs r (slice_get ends k)
