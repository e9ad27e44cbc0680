-- The sites of a text that are live: the text alone says which.
use Rattle.std.specs.Prelude.{◌≡◌, ℕ, List, Contains, Option, Some, None, slice_get, false, true}
use Rattle.tree_nodes.specs.Syntax.Syntax as S
use Rattle.cddl_language.specs.Terms.{Text, Ref}
use Rattle.cddl_language.specs.Reading.{name_in, parameters_in, sign_of, definition_of}
use Rattle.cddl_language.specs.Environment.{is_equals}
use Rattle.cddl_language.specs.Faults.{Specification, rules, first_equals, IsDuplicate, HasWrongArity, HasGroupAsType}
use Rattle.cddl_language.specs.Reach.{Point, at_name, at_unwrapping, at_choice}
use Rattle.cddl_language.specs.Sites.{Site, a_name, an_unwrapping, a_choice_of_name, arguments, ref_name, in_type1, outer_sites, ref_at_site, is_parameter}

module _ (rs : List S.Rule) where
  mutual
    -- A site of the rule outside of arguments; or one in an argument that a rule of the called name uses.
    pub data IsLive : S.Rule → Site → Type 0 where
      outer : {r : S.Rule} {p : Site} → Contains (outer_sites r) p → IsLive r p
      inner : {r : S.Rule} {q p : Site} {f : S.Ref} {x : S.Type1} → (k : ℕ) → IsLive r q → ref_at_site q ≡ Some f → is_parameter r (ref_name f) ≡ false → slice_get (arguments f) k ≡ Some x → IsLiveSlot (ref_name f) k → Contains (in_type1 false true x) p → IsLive r p

    -- A rule of the name refers, at a live site, to its parameter of this number.
    pub data IsLiveSlot : Text → ℕ → Type 0 where
      slot : {s : S.Rule} {u : Site} {g : S.Ref} {n : Text} → (k : ℕ) → Contains rs s → name_in s ≡ n → IsLive s u → ref_at_site u ≡ Some g → slice_get (parameters_in s) k ≡ Some (ref_name g) → IsLiveSlot n k

-- What the text has to keep for a live site to be reached: each further `=` of a name says what its first one says, and no
-- duplicate, wrong number of arguments or group in the place of a type is found.
pub record IsClear (s : Specification) : Type 0 where
  pub one_equals : {q r : S.Rule} → Contains (rules s) r → is_equals (sign_of r) ≡ true → first_equals (rules s) (name_in r) ≡ Some q → definition_of r ≡ definition_of q
  pub no_duplicate : (at : ℕ) → IsDuplicate s at → ⊥
  pub no_wrong_arity : (at : ℕ) → HasWrongArity s at → ⊥
  pub no_group_as_type : (at : ℕ) → HasGroupAsType s at → ⊥

-- the closed reference that stands at a site: a name by itself, after `~` or after `&`
abbrev pub point_at : Site → Ref → Option Point
point_at (a_name b f) r = Some (at_name r)
point_at (an_unwrapping b t f) r = Some (at_unwrapping r)
point_at (a_choice_of_name t f) r = Some (at_choice r)
point_at _ r = None
