-- What is left of a list of items or of pairs, seen as values.
use Rattle.std.proofs.Common.{◌≡◌, ◌≢◌, false, ◌&&◌, ℕ, suc, ◌+◌, ◌<◌, ◌≤◌, max, subst, List, [], ◌∷◌, length, get_or, drop, refl, ap, sym, ◌∙◌}
use Rattle.std.proofs.lemmas.List.{drop_more, drop_all}
use Rattle.lists.proofs.Lemmas.{and_false as and-false}
use Rattle.cbor_data.specs.Value.{no_values, value, no_pairs, pair, values_len, pairs_len}
use Rattle.cbor_data.specs.Same.{same_value, same_values, same_pairs}
use Rattle.item_nodes.specs.View.{view, values_view, pairs_view}
use Rattle.item_nodes.specs.declared.item.Item.{Item}
use Rattle.item_nodes.proofs.item.Item.TheLaws.{the_size}
use denote.Param.Weighed.{most, at_most}

pub values_view-drop : (xs : List Item) (i : ℕ) (x : Item) → i < length xs → x ≡ get_or xs i x → values_view (drop i xs) ≡ value (view x) (values_view (drop (i + 1) xs))
values_view-drop xs i x h is = ap values_view (drop_more xs i x h ∙ ap (λ y. y ∷ drop (i + 1) xs) (sym is))

pub pairs_view-drop : (ps : List (Item × Item)) (i : ℕ) (p : Item × Item) → i < length ps → p ≡ get_or ps i p → pairs_view (drop i ps) ≡ pair (view p.0) (view p.1) (pairs_view (drop (i + 1) ps))
pairs_view-drop ps i p h is = ap pairs_view (drop_more ps i p h ∙ ap (λ y. y ∷ drop (i + 1) ps) (sym is))

pub values_view-end : (xs : List Item) (i : ℕ) → length xs ≤ i → values_view (drop i xs) ≡ no_values
values_view-end xs i h = ap values_view (drop_all i xs h)

pub pairs_view-end : (ps : List (Item × Item)) (i : ℕ) → length ps ≤ i → pairs_view (drop i ps) ≡ no_pairs
pairs_view-end ps i h = ap pairs_view (drop_all i ps h)

pub values_len-view : (xs : List Item) → values_len (values_view xs) ≡ length xs
values_len-view [] = refl
values_len-view (x ∷ xs) = ap suc (values_len-view xs)

pub pairs_len-view : (ps : List (Item × Item)) → pairs_len (pairs_view ps) ≡ length ps
pairs_len-view [] = refl
pairs_len-view (p ∷ ps) = ap suc (pairs_len-view ps)

-- the larger depth of a pair, as Rattle weighs it
abbrev pub pair_size : Item × Item → ℕ
pair_size p = max (the_size p.0) (max (the_size p.1) 0)

-- a pair of a list is no deeper than the list
pub pair_size-within : (ps qs : List (Item × Item)) (i : ℕ) (p : Item × Item) → i < length qs → p ≡ get_or qs i p → qs ≡ ps → pair_size p ≤ most pair_size ps
pair_size-within ps qs i p h is same =
    let there : pair_size (get_or qs i p) ≤ most pair_size qs = at_most pair_size qs i p h in
    subst (λ rs. pair_size p ≤ most pair_size rs) same (subst (λ q. pair_size q ≤ most pair_size qs) (sym is) there)

-- an item of a list is no deeper than the list
pub size-within : (xs ys : List Item) (i : ℕ) (x : Item) → i < length ys → x ≡ get_or ys i x → ys ≡ xs → the_size x ≤ most the_size xs
size-within xs ys i x h is same =
    let there : the_size (get_or ys i x) ≤ most the_size ys = at_most the_size ys i x h in
    subst (λ zs. the_size x ≤ most the_size zs) same (subst (λ y. the_size y ≤ most the_size ys) (sym is) there)

pub same_values-len : (xs ys : List Item) → length xs ≢ length ys → same_values (values_view xs) (values_view ys) ≡ false
same_values-len [] [] h = absurd (h refl)
same_values-len [] (y ∷ ys) h = refl
same_values-len (x ∷ xs) [] h = refl
same_values-len (x ∷ xs) (y ∷ ys) h = ap (λ b. same_value (view x) (view y) && b) (same_values-len xs ys (λ e. h (ap suc e))) ∙ and-false (same_value (view x) (view y))

pub same_pairs-len : (ps qs : List (Item × Item)) → length ps ≢ length qs → same_pairs (pairs_view ps) (pairs_view qs) ≡ false
same_pairs-len [] [] h = absurd (h refl)
same_pairs-len [] (q ∷ qs) h = refl
same_pairs-len (p ∷ ps) [] h = refl
same_pairs-len (p ∷ ps) (q ∷ qs) h =
    ap (λ b. same_value (view p.0) (view q.0) && (same_value (view p.1) (view q.1) && b)) (same_pairs-len ps qs (λ e. h (ap suc e)))
    ∙ ap (λ b. same_value (view p.0) (view q.0) && b) (and-false (same_value (view p.1) (view q.1))) ∙ and-false (same_value (view p.0) (view q.0))
