-- Without parameters nothing is put into a tree.
use Rattle.std.proofs.Common.{◌≡◌, ℕ, suc, List, [], ◌∷◌, Some, None, refl, sym, ap, subst, ◌∙◌, length, nat_eq}
use Rattle.std.specs.Prelude.{if◌then◌else◌, option_map}
use Rattle.std.specs.Map.{lookup}
use Rattle.std.proofs.lemmas.Cmp.{nat_eq_equiv}
use Rattle.cddl_language.specs.Terms.{Text}
use Rattle.check_terms.specs.declared.row.Form.{Form}
use Rattle.check_terms.specs.declared.row.Form.TheVariants as F
use Rattle.check_terms.specs.declared.fill.slots.Slots.{Slots}
use Rattle.check_terms.specs.Definitions.{AreTexts, no_texts}
use Rattle.check_terms.specs.Filled.{parameter, replaced, tree_or}
use Rattle.check_terms.specs.Table.{Tree, nothing, node}
use Rattle.check_terms.specs.Fill.Making.{place_in}
use Rattle.check_terms.specs.Fill.Slots.{ArePlacesOf}
use Rattle.check_terms.specs.Fill.Templates.{Stays}
use Rattle.check_terms.proofs.OfFill.Placing.{no_elements}

no_parameter : (ys : List Tree) (r : Tree) → parameter [] ys r ≡ None
no_parameter ys (node F.Call (Some n) (node F.NoTerms x a b) c) = refl
no_parameter ys r = refl

none_replaced : (ys : List Tree) (f : Form) (a : Tree) → replaced [] ys f a ≡ None
none_replaced ys F.Named a = no_parameter ys a
none_replaced ys F.Unwrapped a = no_parameter ys a
none_replaced ys f a = refl

pub all_stay : (x : Tree) → Stays [] x
all_stay nothing ys = refl
all_stay (node f w a b) ys =
    let none = none_replaced ys f a in
    let first = all_stay a ys in
    let second = all_stay b ys in
    λ i. tree_or (none i) (node f w (first i) (second i))

-- no place, no parameter
pub no_parameters : (s : Slots) (texts : List Text) (ks : List ℕ) (ps : List Text) → length s.places.entries ≡ 0 → ArePlacesOf s ks → AreTexts texts ks ps → [] ≡ ps
no_parameters s texts [] [] none places no_texts = refl
no_parameters s texts [] (p ∷ ps) none places h = elim h [ ]
no_parameters s texts (k ∷ ks) ps none places h = absurd (by (sym (places k) ∙ ap (lookup (nat_eq k)) (no_elements s.places.entries none)))
  where
    by : (if nat_eq k k then Some 0 else option_map suc (place_in ks k)) ≡ None → ⊥
    by e = let g = subst (λ b. (if b then Some 0 else option_map suc (place_in ks k)) ≡ None) (nat_eq_equiv.refl k) e in cc
