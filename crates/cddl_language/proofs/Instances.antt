-- What holds of all instances.
use Rattle.std.specs.Prelude.{◌≡◌, List, Contains, Bool, true}
use Rattle.std.proofs.Common.{refl, sym, ap, ◌∙◌, subst}
use Rattle.cddl_language.specs.Terms.{Text, Ref, call, no_terms, Definition, name_of}
use Rattle.cddl_language.specs.Reach.{Point, ref_at, points_in, Reaches, at_root, onward}

-- what names mean refers to names alone
pub names_alone : (ds : List Definition) (root : Text) → ((n : Text) (p : Point) → Contains (points_in ds (call n no_terms)) p → ref_at p ≡ call (name_of (ref_at p)) no_terms) → (r : Ref) → Reaches ds root r → r ≡ call (name_of r) no_terms
names_alone ds root only r h = go r h
  where
    step : (r s : Ref) (p : Point) → r ≡ call (name_of r) no_terms → Contains (points_in ds r) p → s ≡ ref_at p → s ≡ call (name_of s) no_terms
    step r s p e c f = let d : Contains (points_in ds (call (name_of r) no_terms)) p = subst (λ x. Contains (points_in ds x) p) e c in subst (λ x. x ≡ call (name_of x) no_terms) (sym f) (only (name_of r) p d)

    go : (r : Ref) → Reaches ds root r → r ≡ call (name_of r) no_terms
    go r at_root = refl
    go s (onward {r = r} {p = p} h c f) = step r s p (go r h) c f

-- what holds of the root, and with a closed reference of the references in what it means, holds of all instances
pub least : (ds : List Definition) (root : Text) (holds : Ref → Bool) → holds (call root no_terms) ≡ true → ((r : Ref) (p : Point) → holds r ≡ true → Contains (points_in ds r) p → holds (ref_at p) ≡ true) → (r : Ref) → Reaches ds root r → holds r ≡ true
least ds root holds base step r h = go r h
  where
    go : (r : Ref) → Reaches ds root r → holds r ≡ true
    go r at_root = base
    go s (onward {r = r} {p = p} h c f) = ap holds f ∙ step r p (go r h) c
