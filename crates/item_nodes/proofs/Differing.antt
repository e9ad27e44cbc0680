-- Keys that differ, and what that says of their map.
use Rattle.std.proofs.Common.{◌≡◌, ℕ, ◌+◌, ◌-◌, ◌<◌, ◌≤◌, List, [], ◌∷◌, length, get_or, drop, Bool, true, false, inl, inr, map, refl, sym, ap, ◌∙◌, subst, arith}
use Rattle.std.specs.Borrow.{Bor}
use Rattle.std.specs.Cmp.{eq_by_cmp_equiv, IsTotalOrder}
use Rattle.std.specs.Cmp.Lexicographic.{slice_cmp}
use Rattle.std.specs.List.{AllByRecursion, IsDistinct}
use Rattle.std.specs.List.Sorted.{IsPermutation, IsStrictlyIncreasing, IsStrictlySortedBy}
use Rattle.std.specs.Ordering.{eq_by_cmp, nat_cmp}
use Rattle.std.specs.declared.cmp.Ordering.{Ordering}
use Rattle.std.specs.declared.cmp.Ordering.TheVariants.{Less}
use Rattle.std.proofs.lemmas.Cmp.{nat_cmp_total, nat_list_cmp_total}
use Rattle.std.proofs.lemmas.List.{drop_more, drop_all, get_or-map, length-map}
use Rattle.std.proofs.lemmas.List.Sorted.{all_adjacent_more, IsPermutation-map, IsPermutation-sym}
use Rattle.std.proofs.lemmas.Map.Keys.{sorted_from_all_adjacent, sorted_from_strictly_increasing, IsDistinct-cons, IsDistinct-from_apart, IsDistinct-from_sorted, IsDistinct-head, IsDistinct-tail, IsDistinct-IsPermutation}
use Rattle.std.specs.Prelude.{◌&&◌, ◌||◌}
use Rattle.lists.proofs.Lemmas.{or_true}
use Rattle.cbor_data.specs.Equivalence.{IsSame, same_uint, same_nint, same_bytes, same_text, same_array, same_map, same_tag, same_simple, same_float}
use Rattle.cbor_data.specs.Validity.{IsOneOf, IsValid, IsRepeatedKeyAmong, IsRepeatedKeyAfter}
use Rattle.cbor_data.specs.Value.{Value, array, pairs, tag, Values, no_values, value, Pairs, no_pairs, pair}
use Rattle.cbor_data.proofs.Lemmas.{back, same_value-laws}
use Rattle.item_nodes.specs.Apart.{has_parts, may_be_same, keys_view, number_of, numbers_view, string_of, strings_view, AreKeysApart, ArePartsValid, AreValuesValid, RisesBelow}
use Rattle.item_nodes.specs.View.{view, pairs_view}
use Rattle.item_nodes.specs.declared.item.Item.{Item}

members_valid : (xs : Values) → AreValuesValid xs → (i : ℕ) → IsRepeatedKeyAmong xs i → ⊥
members_valid no_values v i h = h
members_valid (value x xs) v i (inl h) = v.0 i h
members_valid (value x xs) v i (inr h) = members_valid xs v.1 h.0 h.2

pub array_valid : (xs : Values) → AreValuesValid xs → IsValid (array xs)
array_valid xs v i h = members_valid xs v h.0 h.2

after_valid : (earlier : List Value) (ps : Pairs) → AreKeysApart earlier ps → ArePartsValid ps → (i : ℕ) → IsRepeatedKeyAfter earlier ps i → ⊥
after_valid earlier no_pairs a v i h = h
after_valid earlier (pair k w ps) a v i (inl h) = a.0 h.1
after_valid earlier (pair k w ps) a v i (inr (inl h)) = v.0 i h
after_valid earlier (pair k w ps) a v i (inr (inr (inl h))) = v.1.0 h.0 h.2
after_valid earlier (pair k w ps) a v i (inr (inr (inr h))) = after_valid (k ∷ earlier) ps a.1 v.1.1 h.0 h.2

pub pairs_valid : (ps : Pairs) → AreKeysApart [] ps → ArePartsValid ps → IsValid (pairs ps)
pairs_valid ps a v i h = after_valid [] ps a v h.0 h.2

-- where no mark of a key equals another, no key is the same as another, nor as one of those before, whose marks differ from all
marks_apart : {A : Type 0} (e : A → A → Bool) (alike : (a : A) → e a a ≡ true) (mark : Value → A) → ((k l : Value) (a : A) → IsSame k l → e (mark k) a ≡ e (mark l) a) → (earlier : List Value) (ps : List (Item × Item)) →
    ((l : Value) → IsOneOf earlier l → AllByRecursion (λ a. e (mark l) a ≡ false) (map (λ p. mark (view p.0)) ps)) → IsDistinct e (map (λ p. mark (view p.0)) ps) → AreKeysApart earlier (pairs_view ps)
marks_apart e alike mark same earlier [] before d = tt
marks_apart e alike mark same earlier (p ∷ ps) before d = (
  λ o. let no : e (mark (view p.0)) (mark (view p.0)) ≡ false = (before (view p.0) o).0 in let yes : true ≡ false = sym (alike (mark (view p.0))) ∙ no in cc,
  marks_apart e alike mark same (view p.0 ∷ earlier) ps
      (λ l o. elim o [
        | inl is ↦
            let turned : e (mark (view p.0)) ≡ e (mark l) = λ i a. same (view p.0) l a (back is) i in
            subst (λ f. AllByRecursion (λ a. f a ≡ false) (map (λ q. mark (view q.0)) ps)) turned (IsDistinct-head e (mark (view p.0)) (map (λ q. mark (view q.0)) ps) d)
        | inr there ↦ (before l there).1
      ])
      (IsDistinct-tail e (mark (view p.0)) (map (λ q. mark (view q.0)) ps) d),
)

-- a mark of two items that are the same is one
number_same : (k l : Value) → IsSame k l → number_of k ≡ number_of l
number_same _ _ same_uint = refl
number_same _ _ same_nint = refl
number_same _ _ same_bytes = refl
number_same _ _ same_text = refl
number_same _ _ (same_array d) = refl
number_same _ _ (same_map d) = refl
number_same _ _ (same_tag d) = refl
number_same _ _ same_simple = refl
number_same _ _ same_float = refl

string_same : (k l : Value) → IsSame k l → string_of k ≡ string_of l
string_same _ _ same_uint = refl
string_same _ _ same_nint = refl
string_same _ _ same_bytes = refl
string_same _ _ same_text = refl
string_same _ _ (same_array d) = refl
string_same _ _ (same_map d) = refl
string_same _ _ (same_tag d) = refl
string_same _ _ same_simple = refl
string_same _ _ same_float = refl

maybe_same : (k l a : Value) → IsSame k l → may_be_same k a ≡ may_be_same l a
maybe_same _ _ a same_uint = refl
maybe_same _ _ a same_nint = refl
maybe_same _ _ a same_bytes = refl
maybe_same _ _ a same_text = refl
maybe_same _ _ a same_simple = refl
maybe_same _ _ a same_float = refl
maybe_same _ _ (array zs) (same_array d) = refl
maybe_same _ _ (pairs zs) (same_array d) = refl
maybe_same _ _ (tag n z) (same_array d) = refl
maybe_same _ _ _ (same_array d) = refl
maybe_same _ _ (array zs) (same_map d) = refl
maybe_same _ _ (pairs zs) (same_map d) = refl
maybe_same _ _ (tag n z) (same_map d) = refl
maybe_same _ _ _ (same_map d) = refl
maybe_same _ _ (array zs) (same_tag d) = refl
maybe_same _ _ (pairs zs) (same_tag d) = refl
maybe_same _ _ (tag n z) (same_tag d) = refl
maybe_same _ _ _ (same_tag d) = refl

maybe_itself : (x : Value) → may_be_same x x ≡ true
maybe_itself x = ap (λ b. (has_parts x && has_parts x) || b) ((same_value-laws (λ (y : Value). y)).refl x) ∙ or_true (has_parts x && has_parts x)

pub few_apart : (ps : List (Item × Item)) → IsDistinct may_be_same (keys_view ps) → AreKeysApart [] (pairs_view ps)
few_apart ps d = marks_apart may_be_same maybe_itself (λ x. x) maybe_same [] ps (λ l o. absurd o) d

pub few_more : (ps : List (Item × Item)) (i : ℕ) (p : Item × Item) → i < length ps → p ≡ get_or ps i p → AllByRecursion (λ k. may_be_same (view p.0) k ≡ false) (keys_view (drop (i + 1) ps)) →
    IsDistinct may_be_same (keys_view (drop (i + 1) ps)) → IsDistinct may_be_same (keys_view (drop i ps))
few_more ps i p h is all d =
    let seen : keys_view (drop i ps) ≡ view p.0 ∷ keys_view (drop (i + 1) ps) = ap keys_view (drop_more ps i p h ∙ ap (λ q. q ∷ drop (i + 1) ps) (sym is)) in
    subst (IsDistinct may_be_same) (sym seen) (IsDistinct-cons may_be_same (view p.0) (keys_view (drop (i + 1) ps)) all d)

pub few_end : (ps : List (Item × Item)) (i : ℕ) → length ps ≤ i → IsDistinct may_be_same (keys_view (drop i ps))
few_end ps i h = subst (IsDistinct may_be_same) (sym (ap keys_view (drop_all i ps h))) (IsDistinct-from_apart may_be_same [] (λ j k d lt below. absurd (omega arith)))

-- marks that rise in another order are apart
rising_apart : {A : Type 0} {R : A → A → Ordering} (o : IsTotalOrder R) (mark : Value → A) → ((k l : Value) → IsSame k l → mark k ≡ mark l) → (ps : List (Item × Item)) (marks : List A) → IsPermutation (map (λ p. mark (view p.0)) ps) marks →
    IsStrictlySortedBy R marks → AreKeysApart [] (pairs_view ps)
rising_apart {R = R} o mark same ps marks moved s =
    let laws = eq_by_cmp_equiv o in
    let given = map (λ p. mark (view p.0)) ps in
    marks_apart (eq_by_cmp R) laws.refl mark (λ k l a d. ap (λ m. eq_by_cmp R m a) (same k l d)) [] ps (λ l h. absurd h)
    (IsDistinct-IsPermutation (eq_by_cmp R) laws.symm marks given (IsPermutation-sym given marks moved) (IsDistinct-from_sorted R marks s))

pub numbers_apart : (ps : List (Item × Item)) (given sorted : List ℕ) → given ≡ numbers_view ps → IsPermutation given sorted → IsStrictlyIncreasing sorted → AreKeysApart [] (pairs_view ps)
numbers_apart ps given sorted e moved up =
    rising_apart nat_cmp_total number_of number_same ps sorted (subst (λ ns. IsPermutation ns sorted) e moved) (sorted_from_strictly_increasing sorted up)

pub strings_apart : (ps : List (Item × Item)) (given sorted : List (Bor (List ℕ))) → map (λ s. s.now) given ≡ strings_view ps → IsPermutation given sorted →
    RisesBelow (map (λ s. s.now) sorted) (length sorted) → AreKeysApart [] (pairs_view ps)
strings_apart ps given sorted e moved up =
    let strings : List (List ℕ) = map (λ (s : Bor (List ℕ)). s.now) sorted in
    let len : length strings ≡ length sorted = length-map sorted (λ (s : Bor (List ℕ)). s.now) in
    rising_apart nat_list_cmp_total string_of string_same ps strings
    (subst (λ ss. IsPermutation ss strings) e (IsPermutation-map (λ (s : Bor (List ℕ)). s.now) given sorted moved))
    (sorted_from_all_adjacent nat_list_cmp_total strings [] (λ k h. up k [] (omega arith)))

-- a string more is before the next
pub rises_more : (ss : List (Bor (List ℕ))) (i : ℕ) (d : Bor (List ℕ)) → 1 ≤ i → i < length ss → slice_cmp nat_cmp (get_or ss (i - 1) d).now (get_or ss i d).now ≡ Less →
    RisesBelow (map (λ s. s.now) ss) i → RisesBelow (map (λ s. s.now) ss) (i + 1)
rises_more ss i d some h less up =
    let now : Bor (List ℕ) → List ℕ = λ s. s.now in
    all_adjacent_more (map now ss) (λ s t. slice_cmp nat_cmp s t ≡ Less) i (omega arith) up (λ e. rw (get_or-map now ss (i - 1) d e (omega arith), get_or-map now ss i d e h) less)
