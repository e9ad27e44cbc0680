-- Pairs as bytes that were sorted by their keys, or whose keys rise as they come.
use Rattle.std.proofs.Common.{◌≡◌, ℕ, ◌+◌, ◌<◌, List, [], ◌∷◌, ◌++◌, length, take, drop, get_or, map, Bool, true, false, refl, sym, ap, ap₂, ◌∙◌, subst, arith, length-append}
use Rattle.std.specs.Borrow.{Bor}
use Rattle.std.specs.Cmp.Lexicographic.{slice_cmp}
use Rattle.std.specs.List.{AllByRecursion, IsDistinct}
use Rattle.std.specs.List.Sorted.{IsPermutation, IsSorted, IsStrictlySortedBy}
use Rattle.std.specs.Ordering.{nat_cmp, is_eq, is_lt, ordering_then, ordering_reverse}
use Rattle.std.specs.Str.{bytes_eq}
use Rattle.std.specs.declared.cmp.Ordering.{Ordering}
use Rattle.std.specs.declared.cmp.Ordering.TheVariants.{Less, Equal, Greater}
use Rattle.std.proofs.lemmas.Cmp.{nat_list_cmp_total}
use Rattle.std.proofs.lemmas.List.{get_or-map, length-map}
use Rattle.std.proofs.lemmas.List.Sorted.{IsPermutation-map, list_any-IsPermutation}
use Rattle.std.proofs.lemmas.Map.Keys.{apart_from_distinct, sorted_from_all_adjacent, IsDistinct-IsPermutation}
use Rattle.std.proofs.lemmas.Map.Text.{is_eq-slice_cmp}
use Rattle.std.proofs.lemmas.Slice.Eq.{bytes_eq-Decides}
use Rattle.cbor_data.specs.Deterministic.{pairs_ordered, deterministic}
use Rattle.cbor_data.specs.Preferred.{pairs_preferred}
use Rattle.cbor_data.specs.Value.{Value, pairs, Pairs, no_pairs, pair}
use Rattle.cbor_data.proofs.Lemmas.{HasKeysApart, same_by_deterministic}
use Rattle.item_nodes.specs.Apart.{RisesBelow}
use Rattle.item_nodes.specs.InOrder.{laid, keys_det, lengths_of, total, cut, seen_slices}
use Rattle.cbor_item.specs.Laying.{joined}
use Rattle.item_nodes.specs.View.{view, pairs_view}
use Rattle.cbor_item.specs.Walk.{IsPlain, ArePairsPlain}
use Rattle.item_nodes.specs.declared.item.Item.{Item}
use Rattle.cbor_item.proofs.InOrder.{firsts, joined_in_order}
use Rattle.cbor_item.proofs.Laying.{writable}
use Rattle.cbor_item.proofs.Plain.{plain_pair, plain_pairs}

-- ---- keys that rise as they come

firsts_laid : (ps : List (Item × Item)) → firsts (laid (pairs_view ps)) ≡ keys_det ps
firsts_laid [] = refl
firsts_laid (p ∷ ps) = ap (λ ks. deterministic (view p.0) ∷ ks) (firsts_laid ps)

pub rising_joined : (ps : List (Item × Item)) → IsPlain (pairs (pairs_view ps)) → HasKeysApart (pairs (pairs_view ps)) → RisesBelow (keys_det ps) (length ps) → joined (laid (pairs_view ps)) ≡ pairs_preferred (pairs_ordered (pairs_view ps))
rising_joined ps w a up =
    let len : length (keys_det ps) ≡ length ps = length-map ps (λ (p : Item × Item). deterministic (view p.0)) in
    let s : IsStrictlySortedBy (slice_cmp nat_cmp) (keys_det ps) = sorted_from_all_adjacent nat_list_cmp_total (keys_det ps) [] (λ k h. up k [] (omega arith)) in
    joined_in_order (pairs_view ps) (laid (pairs_view ps)) w a (subst (IsStrictlySortedBy (slice_cmp nat_cmp)) (sym (firsts_laid ps)) s) (λ p. refl)

-- ---- keys that were sorted

eq_flips : (s t : List ℕ) → bytes_eq s t ≡ bytes_eq t s
eq_flips s t = both_ways (bytes_eq s t) (bytes_eq t s) (λ h. (bytes_eq-Decides t s).1 (sym ((bytes_eq-Decides s t).0 h))) (λ h. (bytes_eq-Decides s t).1 (sym ((bytes_eq-Decides t s).0 h)))
  where
    both_ways : (a b : Bool) → (a ≡ true → b ≡ true) → (b ≡ true → a ≡ true) → a ≡ b
    both_ways true b f g = sym (f refl)
    both_ways false true f g = g refl
    both_ways false false f g = refl

not_true : (b : Bool) → (b ≡ true → ⊥) → b ≡ false
not_true true f = absurd (f refl)
not_true false f = refl

-- of the keys of a map whose keys are apart none has the bytes of another
key_apart : (k v : Value) (ps : Pairs) → IsPlain k → ArePairsPlain ps → HasKeysApart (pairs (pair k v ps)) → AllByRecursion (λ l. bytes_eq (deterministic k) l ≡ false) (firsts (laid ps))
key_apart k v no_pairs w ws a = tt
key_apart k v (pair l u ps) w ws a = (
  not_true (bytes_eq (deterministic k) (deterministic l)) (λ h. a.0.0 (same_by_deterministic l k (writable l (plain_pair l u ps ws).0) (writable k w) (sym ((bytes_eq-Decides (deterministic k) (deterministic l)).0 h)))),
  key_apart k v ps w (plain_pair l u ps ws).2 (a.0.1, a.1, a.2, a.3.3),
)

keys_distinct : (ps : Pairs) → ArePairsPlain ps → HasKeysApart (pairs ps) → IsDistinct bytes_eq (firsts (laid ps))
unfolding IsDistinct
keys_distinct no_pairs ws a = tt
keys_distinct (pair k v ps) ws a =
    let parts = plain_pair k v ps ws in (key_apart k v ps parts.0 parts.2 a, keys_distinct ps parts.2 a.3)

abbrev SlicePair : Type 0
SlicePair = Bor (List ℕ) × Bor (List ℕ)

abbrev key_of : SlicePair → List ℕ
key_of e = e.0.now

abbrev pub entry_cmp : SlicePair → SlicePair → Ordering
entry_cmp x y = ordering_then (slice_cmp nat_cmp x.0.now y.0.now) (slice_cmp nat_cmp x.1.now y.1.now)

firsts_seen : (es : List SlicePair) → firsts (seen_slices es) ≡ map key_of es
firsts_seen [] = refl
firsts_seen (e ∷ es) = ap (λ ks. e.0.now ∷ ks) (firsts_seen es)

greater : (r s : Ordering) → is_lt (ordering_then r s) ≡ false → is_eq r ≡ false → ordering_reverse r ≡ Less
greater Less s e f = absurd (cc)
greater Equal s e f = absurd (cc)
greater Greater s e f = refl

key_less : (x y : SlicePair) → is_lt (entry_cmp y x) ≡ false → bytes_eq (key_of x) (key_of y) ≡ false → slice_cmp nat_cmp (key_of x) (key_of y) ≡ Less
key_less x y e n =
    nat_list_cmp_total.antisymm (key_of x) (key_of y)
    ∙ greater (slice_cmp nat_cmp (key_of y) (key_of x)) (slice_cmp nat_cmp y.1.now x.1.now) e (is_eq-slice_cmp (key_of y) (key_of x) ∙ (eq_flips (key_of y) (key_of x) ∙ n))

keys_rise : (es : List SlicePair) → IsSorted entry_cmp es → IsDistinct bytes_eq (map key_of es) → IsStrictlySortedBy (slice_cmp nat_cmp) (map key_of es)
unfolding IsStrictlySortedBy
keys_rise [] s d = tt
keys_rise (e ∷ es) s d =
    let all : List SlicePair = e ∷ es in
    let len : length (map key_of all) ≡ length all = length-map all key_of in
    sorted_from_all_adjacent nat_list_cmp_total (map key_of all) [] (λ k h.
    let inside : k + 1 < length all = omega arith in
    let here : k < length all = omega arith in
    let one : get_or (map key_of all) k [] ≡ key_of (get_or all k e) = get_or-map key_of all k e [] here in
    let two : get_or (map key_of all) (k + 1) [] ≡ key_of (get_or all (k + 1) e) = get_or-map key_of all (k + 1) e [] inside in
    let apart : bytes_eq (get_or (map key_of all) k []) (get_or (map key_of all) (k + 1) []) ≡ false = apart_from_distinct bytes_eq (map key_of all) k (k + 1) [] d (omega arith) h in
    let differ : bytes_eq (key_of (get_or all k e)) (key_of (get_or all (k + 1) e)) ≡ false = subst (λ (t : List ℕ). bytes_eq (key_of (get_or all k e)) t ≡ false) two (subst (λ (t : List ℕ). bytes_eq t (get_or (map key_of all) (k + 1) []) ≡ false) one apart) in
    let up : slice_cmp nat_cmp (key_of (get_or all k e)) (key_of (get_or all (k + 1) e)) ≡ Less = key_less (get_or all k e) (get_or all (k + 1) e) (s k e (omega arith) inside) differ in
    subst (λ (t : List ℕ). slice_cmp nat_cmp t (get_or (map key_of all) (k + 1) []) ≡ Less) (sym one) (subst (λ (t : List ℕ). slice_cmp nat_cmp (key_of (get_or all k e)) t ≡ Less) (sym two) up))

-- the entries of a map, sorted, are joined to its deterministic bytes
pub sorted_joined : (ps : Pairs) (es fs : List SlicePair) → IsPlain (pairs ps) → HasKeysApart (pairs ps) → seen_slices es ≡ laid ps → IsPermutation es fs → IsSorted entry_cmp fs → joined (seen_slices fs) ≡ pairs_preferred (pairs_ordered ps)
sorted_joined ps es fs w a e moved s =
    let pairs_of : SlicePair → List ℕ × List ℕ = λ x. (x.0.now, x.1.now) in
    let seen : IsPermutation (laid ps) (seen_slices fs) = subst (λ (xs : List (List ℕ × List ℕ)). IsPermutation xs (seen_slices fs)) e (IsPermutation-map pairs_of es fs moved) in
    let keys : IsPermutation (firsts (laid ps)) (firsts (seen_slices fs)) = IsPermutation-map (λ (x : List ℕ × List ℕ). x.0) (laid ps) (seen_slices fs) seen in
    let d : IsDistinct bytes_eq (firsts (seen_slices fs)) = IsDistinct-IsPermutation bytes_eq eq_flips (firsts (laid ps)) (firsts (seen_slices fs)) keys (keys_distinct ps (plain_pairs ps w) a) in
    let up : IsStrictlySortedBy (slice_cmp nat_cmp) (map key_of fs) = keys_rise fs s (subst (IsDistinct bytes_eq) (firsts_seen fs) d) in
    joined_in_order ps (seen_slices fs) w a (subst (IsStrictlySortedBy (slice_cmp nat_cmp)) (sym (firsts_seen fs)) up) (λ p. sym (list_any-IsPermutation p (laid ps) (seen_slices fs) seen))

-- ---- keys and values that lie one after the other

take_front : (a b : List ℕ) → take (length a) (a ++ b) ≡ a
take_front [] b = refl
take_front (x ∷ a) b = ap (λ l. x ∷ l) (take_front a b)

drop_front : (a b : List ℕ) → drop (length a) (a ++ b) ≡ b
drop_front [] b = refl
drop_front (x ∷ a) b = drop_front a b

pub total_joined : (es : List (List ℕ × List ℕ)) → total (lengths_of es) ≡ length (joined es)
total_joined [] = refl
total_joined (e ∷ es) =
    let rest = total_joined es in
    omega (arith, length-append e.0 (e.1 ++ joined es), length-append e.1 (joined es))

pub cut_joined : (es : List (List ℕ × List ℕ)) → cut (lengths_of es) (joined es) ≡ es
cut_joined [] = refl
cut_joined (e ∷ es) =
    let after : drop (length e.0) (e.0 ++ (e.1 ++ joined es)) ≡ e.1 ++ joined es = drop_front e.0 (e.1 ++ joined es) in
    ap₂ (λ (x : List ℕ × List ℕ) (xs : List (List ℕ × List ℕ)). x ∷ xs)
    (ap₂ (λ (k v : List ℕ). (k, v)) (take_front e.0 (e.1 ++ joined es)) (ap (take (length e.1)) after ∙ take_front e.1 (joined es)))
    (ap (λ b. cut (lengths_of es) (drop (length e.1) b)) after ∙ (ap (cut (lengths_of es)) (drop_front e.1 (joined es)) ∙ cut_joined es))
