-- Rules, their definitions, and what is asked of one after the other.
use Rattle.std.proofs.Common.{◌≡◌, ◌⊎◌, inl, inr, ℕ, zero, suc, ◌+◌, ◌<◌, ◌≤◌, min, List, [], ◌∷◌, length, map, get_or, Option, Some, None, refl, sym, ap, subst, ◌∙◌, slice_get, drop, arith}
use Rattle.std.proofs.Math.ListN.{drop_of_length-le}
use Rattle.std.proofs.lemmas.List.{length-map}
use Rattle.std.proofs.lemmas.Option.{get_or_from_slice_get, slice_get_within}
use Rattle.std.specs.Global.{Vec}
use Rattle.std.specs.List.{Contains}
use Rattle.lists.proofs.Lemmas.{next_drop, same_some}
use Rattle.tree_nodes.specs.Syntax.Syntax as S
use Rattle.cddl_language.specs.Terms as L
use Rattle.cddl_language.specs.Reading.{definition_of, definitions_in, name_at}
use Rattle.check_terms.specs.declared.definition.Definition.{Definition}
use Rattle.check_terms.specs.Definitions.{AreDefinitions, no_definitions, further_definition, AreTexts, no_texts, further_text, IsDefinition}
use Rattle.check_terms.specs.Table.{Table}
use Rattle.check_names.specs.Environment.Places.{lists}
use Rattle.check_reading.specs.Survey.Survey.{parameters_at}
use Rattle.lists.specs.Least.{lesser_of}

-- the rule at a place, by where it begins
pub rule_at : (rs : List S.Rule) (starts : List ℕ) (i at : ℕ) → starts ≡ map name_at rs → slice_get starts i ≡ Some at → (r : S.Rule) × (slice_get rs i ≡ Some r) × (at ≡ name_at r)
rule_at rs starts i at e h = by rs i (subst (λ ks. slice_get ks i ≡ Some at) e h)
  where
    by : (rs : List S.Rule) (i : ℕ) → slice_get (map name_at rs) i ≡ Some at → (r : S.Rule) × (slice_get rs i ≡ Some r) × (at ≡ name_at r)
    by [] i h = cc
    by (r ∷ rs) zero h = (r, refl, same_some (sym h))
    by (r ∷ rs) (suc i) h = by rs i h

-- what is left of the rules from its place on
pub rest_of : (rs : List S.Rule) (i : ℕ) (r : S.Rule) → slice_get rs i ≡ Some r → drop i rs ≡ r ∷ drop (i + 1) rs
rest_of rs i r e = next_drop rs i r (slice_get_within rs i r e) (sym (get_or_from_slice_get rs i r r e))

pub none_left : (rs : List S.Rule) (starts : List ℕ) (i : ℕ) → starts ≡ map name_at rs → length starts ≤ i → drop i rs ≡ []
none_left rs starts i e h = drop_of_length-le rs (subst (λ n. n ≤ i) (ap length e ∙ length-map rs name_at) h)

-- the definition of the rule at a place
pub rule_there : (rs : List S.Rule) (p : ℕ) (r : S.Rule) → slice_get rs p ≡ Some r → slice_get (definitions_in rs) p ≡ Some (definition_of r)
rule_there [] p r e = cc
rule_there (q ∷ rs) zero r e = ap definition_there e
  where
    definition_there : Option S.Rule → Option L.Definition
    definition_there (Some x) = Some (definition_of x)
    definition_there None = None
rule_there (q ∷ rs) (suc p) r e = rule_there rs p r e

-- the offsets of its parameters

heads : {A : Type 0} {x y : A} {xs ys : List A} → x ∷ xs ≡ y ∷ ys → x ≡ y
heads e = cc

tails : {A : Type 0} {x y : A} {xs ys : List A} → x ∷ xs ≡ y ∷ ys → xs ≡ ys
tails e = cc

pub parameters_there : (rs : List S.Rule) (vs : List (Vec ℕ)) (p : ℕ) (r : S.Rule) → lists vs ≡ map parameters_at rs → slice_get rs p ≡ Some r → (v : Vec ℕ) × (slice_get vs p ≡ Some v) × (v.items ≡ parameters_at r)
parameters_there [] vs p r e f = cc
parameters_there (q ∷ rs) [] p r e f = cc
parameters_there (q ∷ rs) (v ∷ vs) zero r e f = (v, refl, heads e ∙ ap parameters_at (same_some f))
parameters_there (q ∷ rs) (v ∷ vs) (suc p) r e f = parameters_there rs vs p r (tails e) f

-- What a list contains.

module _ {X : Type 0} where
  pub none_in : (y : X) → Contains [] y → ⊥
  none_in y h = let lt : h.0 < 0 = h.1 in omega arith

  pub at_first : (x : X) (xs : List X) → Contains (x ∷ xs) x
  at_first x xs = (0, omega arith, refl)

  pub later : (x y : X) (xs : List X) → Contains xs y → Contains (x ∷ xs) y
  later x y xs h = let lt : h.0 < length xs = h.1 in (suc h.0, omega arith, h.2)

  first_or_later_at : (x : X) (xs : List X) (y : X) (n : ℕ) → n < length (x ∷ xs) → get_or (x ∷ xs) n y ≡ y → (x ≡ y) ⊎ Contains xs y
  first_or_later_at x xs y zero lt e = inl e
  first_or_later_at x xs y (suc n) lt e = inr (n, omega arith, e)

  pub first_or_later : (x : X) (xs : List X) (y : X) → Contains (x ∷ xs) y → (x ≡ y) ⊎ Contains xs y
  first_or_later x xs y h = first_or_later_at x xs y h.0 h.1 h.2

-- The rest of a list, from the place i on.
abbrev pub IsRest : {A : Type 0} → List A → ℕ → List A → Type 0
IsRest {A = A} all i xs = (j : ℕ) → slice_get all (i + j) ≡ slice_get xs j

pub whole : {A : Type 0} (xs : List A) → IsRest xs 0 xs
whole xs j = ap (slice_get xs) (omega arith)

pub rest_first : {A : Type 0} (all : List A) (i : ℕ) (x : A) (xs : List A) → IsRest all i (x ∷ xs) → slice_get all i ≡ Some x
rest_first all i x xs h = ap (slice_get all) (omega arith) ∙ h 0

pub rest_further : {A : Type 0} (all : List A) (i : ℕ) (x : A) (xs : List A) → IsRest all i (x ∷ xs) → IsRest all (i + 1) xs
rest_further all i x xs h j = ap (slice_get all) (omega arith) ∙ h (suc j)

-- Offsets that are kept as the lesser of two.

pub lesser_last : (a b c : Option ℕ) → lesser_of (lesser_of a b) c ≡ lesser_of a (lesser_of b c)
lesser_last None b c = refl
lesser_last (Some a) None c = refl
lesser_last (Some a) (Some b) None = refl
lesser_last (Some a) (Some b) (Some c) = ap Some (step a b c)
  where
    step : (a b c : ℕ) → min (min a b) c ≡ min a (min b c)
    step a b c = omega arith

pub lesser_none : (a : Option ℕ) → lesser_of a None ≡ a
lesser_none None = refl
lesser_none (Some a) = refl

-- A definition has as many parameters by number as by text.
pub as_many : (texts : List L.Text) (ns : List ℕ) (xs : List L.Text) → AreTexts texts ns xs → length ns ≡ length xs
as_many texts [] [] no_texts = refl
as_many texts [] (x ∷ xs) h = elim h [ ]
as_many texts (n ∷ ns) [] h = elim h [ ]
as_many texts (n ∷ ns) (x ∷ xs) (further_text e h) = ap suc (as_many texts ns xs h)

pub definition_at : (t : Table) (ds : List Definition) (ys : List L.Definition) (p : ℕ) (x : L.Definition) → AreDefinitions t ds ys → slice_get ys p ≡ Some x → (d : Definition) × (slice_get ds p ≡ Some d) × IsDefinition t d x
definition_at t [] [] p x no_definitions e = cc
definition_at t [] (y ∷ ys) p x h e = elim h [ ]
definition_at t (d ∷ ds) [] p x h e = elim h [ ]
definition_at t (d ∷ ds) (y ∷ ys) zero x (further_definition h hs) e = (d, refl, subst (IsDefinition t d) (one y x e) h)
  where
    one : (y x : L.Definition) → Some y ≡ Some x → y ≡ x
    one y x e = cc
definition_at t (d ∷ ds) (y ∷ ys) (suc p) x (further_definition h hs) e = definition_at t ds ys p x hs e
