-- What lists of sites contain.
use Rattle.std.proofs.Common.{◌≡◌, ℕ, zero, suc, ◌+◌, ◌<◌, ◌⊎◌, inl, inr, Bool, true, false, if◌then◌else◌, List, [], ◌∷◌, length, map, get_or, Some, slice_get, refl, sym, ap, subst, arith}
use Rattle.std.specs.List.{Contains}
use Rattle.std.proofs.lemmas.List.Elements.{Contains-append_left, Contains-append_right, Contains-append_cases}
use Rattle.cddl_token.specs.declared.Token.{Token}
use Rattle.tree_nodes.specs.Syntax.Syntax as S
use Rattle.tree_nodes.specs.declared.tree.Leaf.{Leaf}
use Rattle.cddl_language.specs.Sites.{Site}
use Rattle.check_sites.specs.declared.sites.site.Found.{Found}
use Rattle.check_sites.specs.Sites.Listed.{StandsIn, WasFound}
use Rattle.check_sites.specs.Sites.View.{outside, view_found, view_site}
use Rattle.check_sites.specs.Sites.Walk.{placed, rule_by_rule}

module _ {X : Type 0} where
  none_in : (y : X) → Contains [] y → ⊥
  none_in y h = let lt : h.0 < 0 = h.1 in omega arith

  at_first : (x y : X) (xs : List X) → x ≡ y → Contains (x ∷ xs) y
  at_first x y xs e = (0, omega arith, e)

  later : (x y : X) (xs : List X) → Contains xs y → Contains (x ∷ xs) y
  later x y xs h = let lt : h.0 < length xs = h.1 in (suc h.0, omega arith, h.2)

  first_or_later_at : (x : X) (xs : List X) (y : X) (n : ℕ) → n < length (x ∷ xs) → get_or (x ∷ xs) n y ≡ y → (x ≡ y) ⊎ Contains xs y
  first_or_later_at x xs y zero lt e = inl e
  first_or_later_at x xs y (suc n) lt e = inr (n, omega arith, e)

  first_or_later : (x : X) (xs : List X) (y : X) → Contains (x ∷ xs) y → (x ≡ y) ⊎ Contains xs y
  first_or_later x xs y h = first_or_later_at x xs y h.0 h.1 h.2

module _ {X Y : Type 0} (f : X → Y) where
  in_map : (xs : List X) (x : X) → Contains xs x → Contains (map f xs) (f x)
  in_map [] x h = absurd (none_in x h)
  in_map (z ∷ xs) x h = elim (first_or_later z xs x h) [ inl e ↦ at_first (f z) (f x) (map f xs) (ap f e) | inr g ↦ later (f z) (f x) (map f xs) (in_map xs x g) ]

  from_map : (xs : List X) (y : Y) → Contains (map f xs) y → (x : X) × (Contains xs x × (f x ≡ y))
  from_map [] y h = absurd (none_in y h)
  from_map (z ∷ xs) y h =
      elim (first_or_later (f z) (map f xs) y h) [
        | inl e ↦ (z, (at_first z z xs refl, e))
        | inr g ↦ let w = from_map xs y g in (w.0, (later z w.0 xs w.1.0, w.1.1))
      ]

-- the sites of rule after rule
module _ (of : S.Rule → List Site) where
  in_rules : (rs : List S.Rule) (i j k : ℕ) (r : S.Rule) (p : Site) → k ≡ i + j → slice_get rs j ≡ Some r → Contains (of r) p → Contains (rule_by_rule of i rs) (k, p)
  in_rules [] i j k r p e g h = cc
  in_rules (x ∷ rs) i zero k r p e g h =
      let is_first : i ≡ k = omega arith in
      let is : x ≡ r = cc in
      Contains-append_left (placed i (of x)) (rule_by_rule of (i + 1) rs) (k, p)
      (subst (λ (n : ℕ). Contains (placed i (of x)) (n, p)) is_first (in_map (λ (q : Site). (i, q)) (of x) p (subst (λ (y : S.Rule). Contains (of y) p) (sym is) h)))
  in_rules (x ∷ rs) i (suc j) k r p e g h = Contains-append_right (placed i (of x)) (rule_by_rule of (i + 1) rs) (k, p) (in_rules rs (i + 1) j k r p (omega arith) g h)

  from_rules : (rs : List S.Rule) (i k : ℕ) (p : Site) → Contains (rule_by_rule of i rs) (k, p) → (j : ℕ) × ((k ≡ i + j) × ((r : S.Rule) × ((slice_get rs j ≡ Some r) × Contains (of r) p)))
  from_rules [] i k p h = absurd (none_in (k, p) h)
  from_rules (x ∷ rs) i k p h =
      elim (Contains-append_cases (placed i (of x)) (rule_by_rule of (i + 1) rs) (k, p) h) [
        | inl g ↦
            let w = from_map (λ (q : Site). (i, q)) (of x) (k, p) g in
            let here : k ≡ i = sym (ap (λ (y : ℕ × Site). y.0) w.1.1) in
            (0, (omega arith, (x, (refl, subst (Contains (of x)) (ap (λ (y : ℕ × Site). y.1) w.1.1) w.1.0))))
        | inr g ↦
            let w = from_rules rs (i + 1) k p g in
            let there : k ≡ i + 1 + w.0 = w.1.0 in
            (suc w.0, (omega arith, w.1.1))
      ]

  pub stands : (read : Leaf → Token) (rs : List S.Rule) (fs : List Found) → map (view_found read) fs ≡ rule_by_rule of 0 rs → (f : Found) → Contains fs f → StandsIn of read rs f
  stands read rs fs e f h =
      let w = from_rules rs 0 f.rule (view_site read f.site) (subst (λ (xs : List (ℕ × Site)). Contains xs (view_found read f)) e (in_map (view_found read) fs f h)) in
      let at : f.rule ≡ 0 + w.0 = w.1.0 in
      let same : w.0 ≡ f.rule = omega arith in
      record {
        rule = w.1.1.0;
        place = subst (λ (n : ℕ). slice_get rs n ≡ Some w.1.1.0) same w.1.1.1.0;
        contained = w.1.1.1.1;
      }

  pub was_found : (read : Leaf → Token) (rs : List S.Rule) (fs : List Found) → map (view_found read) fs ≡ rule_by_rule of 0 rs → (k : ℕ) (r : S.Rule) (p : Site) → slice_get rs k ≡ Some r → Contains (of r) p → WasFound read fs k p
  was_found read rs fs e k r p g h =
      let w = from_map (view_found read) fs (k, p) (subst (λ (xs : List (ℕ × Site)). Contains xs (k, p)) (sym e) (in_rules rs 0 k k r p (omega arith) g h)) in
      record {
        found = w.0;
        contained = w.1.0;
        place = ap (λ (y : ℕ × Site). y.0) w.1.1;
        same = ap (λ (y : ℕ × Site). y.1) w.1.1;
      }

-- what is outside of arguments
module _ (x f : Found) (fs : List Found) where
  from_outside_by : (b : Bool) → b ≡ x.in_argument → (Contains (outside fs) f → Contains fs f × (f.in_argument ≡ false)) → Contains (if b then outside fs else x ∷ outside fs) f → Contains (x ∷ fs) f × (f.in_argument ≡ false)
  from_outside_by true e rest g = let w = rest g in (later x f fs w.0, w.1)
  from_outside_by false e rest g =
      elim (first_or_later x (outside fs) f g) [
        | inl is ↦ (at_first x f fs is, subst (λ (y : Found). y.in_argument ≡ false) is (sym e))
        | inr more ↦ let w = rest more in (later x f fs w.0, w.1)
      ]

  in_outside_by : (b : Bool) → b ≡ x.in_argument → f.in_argument ≡ false → (Contains fs f → Contains (outside fs) f) → (x ≡ f) ⊎ Contains fs f → Contains (if b then outside fs else x ∷ outside fs) f
  in_outside_by true e is rest (inl same) = let flag = ap (λ (y : Found). y.in_argument) same in cc
  in_outside_by true e is rest (inr more) = rest more
  in_outside_by false e is rest (inl same) = at_first x f (outside fs) same
  in_outside_by false e is rest (inr more) = later x f (outside fs) (rest more)

pub from_outside : (fs : List Found) (f : Found) → Contains (outside fs) f → Contains fs f × (f.in_argument ≡ false)
from_outside [] f h = absurd (none_in f h)
from_outside (x ∷ fs) f h = from_outside_by x f fs x.in_argument refl (from_outside fs f) h

pub in_outside : (fs : List Found) (f : Found) → f.in_argument ≡ false → Contains fs f → Contains (outside fs) f
in_outside [] f is h = h
in_outside (x ∷ fs) f is h = in_outside_by x f fs x.in_argument refl is (in_outside fs f is) (first_or_later x fs f h)
