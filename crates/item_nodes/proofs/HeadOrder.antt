-- Heads with what comes after them, in bytewise order.
use Rattle.std.proofs.Common.{◌≡◌, ℕ, ◌+◌, ◌-◌, ◌<◌, ◌≤◌, List, [], ◌∷◌, ◌++◌, length, get_or, refl, sym, ap, ◌∙◌, subst, arith}
use Rattle.std.specs.Cmp.Lexicographic.{slice_cmp}
use Rattle.std.specs.Ordering.{nat_cmp, ordering_then}
use Rattle.std.specs.declared.cmp.Ordering.{Ordering}
use Rattle.std.specs.declared.cmp.Ordering.TheVariants.{Less, Equal, Greater}
use Rattle.std.proofs.lemmas.List.{get_or-map}
use Rattle.std.proofs.lemmas.List.Sorted.{all_adjacent_more}
use Rattle.cbor_data.specs.Deterministic.{deterministic}
use Rattle.item_nodes.specs.Apart.{RisesBelow}
use Rattle.item_nodes.specs.InOrder.{keys_det}
use Rattle.item_nodes.specs.View.{view}
use Rattle.item_nodes.specs.declared.item.Item.{Item}

then_assoc : (a b c : Ordering) → ordering_then a (ordering_then b c) ≡ ordering_then (ordering_then a b) c
then_assoc Less b c = refl
then_assoc Equal b c = refl
then_assoc Greater b c = refl

-- of two lists whose first parts are as long as each other, these decide first
pub cmp-append : (s t p q : List ℕ) → length s ≡ length t → slice_cmp nat_cmp (s ++ p) (t ++ q) ≡ ordering_then (slice_cmp nat_cmp s t) (slice_cmp nat_cmp p q)
cmp-append [] [] p q e = refl
cmp-append [] (y ∷ t) p q e = absurd (cc)
cmp-append (x ∷ s) [] p q e = absurd (cc)
cmp-append (x ∷ s) (y ∷ t) p q e =
    let tails : length s ≡ length t = omega (arith, e) in
    ap (ordering_then (nat_cmp x y)) (cmp-append s t p q tails) ∙ then_assoc (nat_cmp x y) (slice_cmp nat_cmp s t) (slice_cmp nat_cmp p q)

-- a key more is before the next
pub keys_more : (ps : List (Item × Item)) (i : ℕ) (p q : Item × Item) → 1 ≤ i → i < length ps → slice_cmp nat_cmp (deterministic (view (get_or ps (i - 1) p).0)) (deterministic (view (get_or ps i q).0)) ≡ Less →
    RisesBelow (keys_det ps) i → RisesBelow (keys_det ps) (i + 1)
keys_more ps i p q some h less up =
    let key : Item × Item → List ℕ = λ r. deterministic (view r.0) in
    all_adjacent_more (keys_det ps) (λ s t. slice_cmp nat_cmp s t ≡ Less) i (omega arith) up (λ e.
    let one : get_or (keys_det ps) (i - 1) e ≡ key (get_or ps (i - 1) p) = get_or-map key ps (i - 1) p e (omega arith) in
    let two : get_or (keys_det ps) i e ≡ key (get_or ps i q) = get_or-map key ps i q e h in
    subst (λ (t : List ℕ). slice_cmp nat_cmp t (get_or (keys_det ps) i e) ≡ Less) (sym one) (subst (λ (t : List ℕ). slice_cmp nat_cmp (key (get_or ps (i - 1) p)) t ≡ Less) (sym two) less))
