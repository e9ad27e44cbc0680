-- Pairs as bytes in the order of their keys: there is one such order, and it is that of the deterministic bytes.
use Rattle.std.proofs.Common.{◌≡◌, ℕ, List, [], ◌∷◌, map, Bool, true, false, ◌||◌, inl, inr, cond, refl, sym, ap, ap₂, ◌∙◌, subst}
use Rattle.std.specs.Prelude.{◌&&◌, not}
use Rattle.std.specs.Cmp.Lexicographic.{slice_cmp}
use Rattle.std.specs.List.{AllByRecursion, list_any}
use Rattle.std.specs.List.Sorted.{IsStrictlySortedBy}
use Rattle.std.specs.Ordering.{nat_cmp, is_eq, ordering_reverse}
use Rattle.std.specs.Str.{bytes_eq}
use Rattle.std.specs.declared.cmp.Ordering.{Ordering}
use Rattle.std.specs.declared.cmp.Ordering.TheVariants.{Less, Greater}
use Rattle.std.proofs.lemmas.Cmp.{nat_list_cmp_total}
use Rattle.std.proofs.lemmas.Map.Text.{is_eq-slice_cmp}
use Rattle.std.proofs.lemmas.Slice.Eq.{bytes_eq-Decides}
use Rattle.lists.proofs.Lemmas.{and_false as and_no, and_true as and_yes, both, either_true}
use Rattle.cbor_data.specs.Deterministic.{comes_before, put, ordered, pairs_ordered, deterministic, ComesBeforeAll, ArePairsRising}
use Rattle.cbor_data.specs.Preferred.{preferred, pairs_preferred}
use Rattle.cbor_data.specs.Value.{Value, pairs, Pairs, no_pairs, pair}
use Rattle.cbor_data.proofs.Lemmas.{HasKeysApart, rising}
use Rattle.item_nodes.specs.InOrder.{laid}
use Rattle.cbor_item.specs.Laying.{joined}
use Rattle.cbor_item.specs.Walk.{IsPlain}
use Rattle.cbor_item.proofs.Laying.{byte_pairs, joined_pairs, writable}

abbrev bytes_cmp : List ℕ → List ℕ → Ordering
bytes_cmp s t = slice_cmp nat_cmp s t

-- the keys of entries
abbrev pub firsts : List (List ℕ × List ℕ) → List (List ℕ)
firsts es = map (λ (e : List ℕ × List ℕ). e.0) es

-- ---- two lists of the same entries whose keys rise

abbrev is_entry : List ℕ × List ℕ → List ℕ × List ℕ → Bool
is_entry e f = bytes_eq e.0 f.0 && bytes_eq e.1 f.1

less_differs : (s t : List ℕ) → bytes_cmp s t ≡ Less → bytes_eq s t ≡ false
less_differs s t h = sym (is_eq-slice_cmp s t) ∙ ap is_eq h

eq_itself : (s : List ℕ) → bytes_eq s s ≡ true
eq_itself s = (bytes_eq-Decides s s).1 refl

entry_itself : (e : List ℕ × List ℕ) → is_entry e e ≡ true
entry_itself e = ap₂ (λ a b. a && b) (eq_itself e.0) (eq_itself e.1)

entry_is : (e f : List ℕ × List ℕ) → is_entry e f ≡ true → e ≡ f
entry_is e f h =
    let b = both (bytes_eq e.0 f.0) (bytes_eq e.1 f.1) h in
    ap₂ (λ (x y : List ℕ). (x, y)) ((bytes_eq-Decides e.0 f.0).0 b.0) ((bytes_eq-Decides e.1 f.1).0 b.1)

-- an entry that is there has a key after what is before all keys
behind : (k : List ℕ) (e : List ℕ × List ℕ) (es : List (List ℕ × List ℕ)) → AllByRecursion (λ l. bytes_cmp k l ≡ Less) (firsts es) → list_any (is_entry e) es ≡ true → bytes_cmp k e.0 ≡ Less
behind k e [] h m = absurd (cc)
behind k e (f ∷ es) h m = elim (either_true (is_entry e f) (list_any (is_entry e) es) m) [
  | inl is ↦ subst (λ (x : List ℕ × List ℕ). bytes_cmp k x.0 ≡ Less) (sym (entry_is e f is)) h.0
  | inr there ↦ behind k e es h.1 there
]

-- an entry whose key is before all keys is none of these
abbrev others : (List ℕ × List ℕ → Bool) → List ℕ × List ℕ → List ℕ × List ℕ → Bool
others p e f = p f && not (is_entry e f)

without : (p : List ℕ × List ℕ → Bool) (e : List ℕ × List ℕ) (es : List (List ℕ × List ℕ)) → AllByRecursion (λ l. bytes_cmp e.0 l ≡ Less) (firsts es) → list_any (others p e) es ≡ list_any p es
without p e [] h = refl
without p e (f ∷ es) h =
    let no : is_entry e f ≡ false = ap (λ b. b && bytes_eq e.1 f.1) (less_differs e.0 f.0 h.0) in
    ap₂ (λ a b. a || b) (ap (λ b. p f && not b) no ∙ and_yes (p f)) (without p e es h.1)

first_out : (p : List ℕ × List ℕ → Bool) (e : List ℕ × List ℕ) (es : List (List ℕ × List ℕ)) → list_any (others p e) (e ∷ es) ≡ list_any (others p e) es
first_out p e es = ap (λ b. b || list_any (others p e) es) (ap (λ b. p e && not b) (entry_itself e) ∙ and_no (p e))

abbrev HaveSame : List (List ℕ × List ℕ) → List (List ℕ × List ℕ) → Type 0
HaveSame es fs = (p : List ℕ × List ℕ → Bool) → list_any p es ≡ list_any p fs

rest_same : (e : List ℕ × List ℕ) (es fs : List (List ℕ × List ℕ)) → AllByRecursion (λ l. bytes_cmp e.0 l ≡ Less) (firsts es) → AllByRecursion (λ l. bytes_cmp e.0 l ≡ Less) (firsts fs) →
    HaveSame (e ∷ es) (e ∷ fs) → HaveSame es fs
rest_same e es fs h g same p =
    sym (without p e es h) ∙ (sym (first_out p e es) ∙ (same (others p e) ∙ (first_out p e fs ∙ without p e fs g)))

one_first : (e f : List ℕ × List ℕ) (es fs : List (List ℕ × List ℕ)) → AllByRecursion (λ l. bytes_cmp e.0 l ≡ Less) (firsts es) → AllByRecursion (λ l. bytes_cmp f.0 l ≡ Less) (firsts fs) →
    HaveSame (e ∷ es) (f ∷ fs) → e ≡ f
one_first e f es fs h g same =
    let here : list_any (is_entry e) (f ∷ fs) ≡ true = sym (same (is_entry e)) ∙ ap (λ b. b || list_any (is_entry e) es) (entry_itself e) in
    let there : list_any (is_entry f) (e ∷ es) ≡ true = same (is_entry f) ∙ ap (λ b. b || list_any (is_entry f) fs) (entry_itself f) in
    elim (either_true (is_entry e f) (list_any (is_entry e) fs) here) [
      | inl is ↦ entry_is e f is
      | inr m ↦ elim (either_true (is_entry f e) (list_any (is_entry f) es) there) [
        | inl is ↦ sym (entry_is f e is)
        | inr n ↦
            let down : bytes_cmp f.0 e.0 ≡ Less = behind f.0 e fs g m in
            let up : bytes_cmp e.0 f.0 ≡ Less = behind e.0 f es h n in
            let no : Less ≡ Greater = sym up ∙ (nat_list_cmp_total.antisymm e.0 f.0 ∙ ap ordering_reverse down) in absurd (cc)
      ]
    ]

one_list : (es fs : List (List ℕ × List ℕ)) → IsStrictlySortedBy (slice_cmp nat_cmp) (firsts es) → IsStrictlySortedBy (slice_cmp nat_cmp) (firsts fs) → HaveSame es fs → es ≡ fs
unfolding IsStrictlySortedBy
one_list [] [] h g same = refl
one_list [] (f ∷ fs) h g same = let no : false ≡ true = same (λ x. true) in absurd (cc)
one_list (e ∷ es) [] h g same = let no : true ≡ false = same (λ x. true) in absurd (cc)
one_list (e ∷ es) (f ∷ fs) h g same =
    let is : e ≡ f = one_first e f es fs h.0 g.0 same in
    let rest : HaveSame es fs = rest_same e es fs h.0 (subst (λ (x : List ℕ × List ℕ). AllByRecursion (λ l. bytes_cmp x.0 l ≡ Less) (firsts fs)) (sym is) g.0) (subst (λ (x : List ℕ × List ℕ). HaveSame (e ∷ es) (x ∷ fs)) (sym is) same) in
    ap₂ (λ (x : List ℕ × List ℕ) (xs : List (List ℕ × List ℕ)). x ∷ xs) is (one_list es fs h.1 g.1 rest)

-- ---- the pairs in the order of the deterministic bytes

all_before : (k : Value) (ps : Pairs) → ComesBeforeAll k ps → AllByRecursion (λ l. bytes_cmp (preferred k) l ≡ Less) (firsts (byte_pairs ps))
all_before k no_pairs h = tt
all_before k (pair l w ps) h = (h.0, all_before k ps h.1)

sorted_pairs : (ps : Pairs) → ArePairsRising ps → IsStrictlySortedBy (slice_cmp nat_cmp) (firsts (byte_pairs ps))
unfolding IsStrictlySortedBy
sorted_pairs no_pairs h = tt
sorted_pairs (pair k v ps) h = (all_before k ps h.0, sorted_pairs ps h.3)

turn : (a b r : Bool) → (a || (b || r)) ≡ (b || (a || r))
turn true true r = refl
turn true false r = refl
turn false true r = refl
turn false false r = refl

any_either : (b : Bool) (p : List ℕ × List ℕ → Bool) (k v l w : Value) (ps : Pairs) → list_any p (byte_pairs (put k v ps)) ≡ (p (preferred k, preferred v) || list_any p (byte_pairs ps)) →
    list_any p (byte_pairs (cond b (pair k v (pair l w ps)) (pair l w (put k v ps)))) ≡ (p (preferred k, preferred v) || list_any p (byte_pairs (pair l w ps)))
any_either true p k v l w ps e = refl
any_either false p k v l w ps e =
    ap (λ b. p (preferred l, preferred w) || b) e ∙ turn (p (preferred l, preferred w)) (p (preferred k, preferred v)) (list_any p (byte_pairs ps))

any_put : (p : List ℕ × List ℕ → Bool) (k v : Value) (ps : Pairs) → list_any p (byte_pairs (put k v ps)) ≡ (p (preferred k, preferred v) || list_any p (byte_pairs ps))
any_put p k v no_pairs = refl
any_put p k v (pair l w ps) = any_either (comes_before k l) p k v l w ps (any_put p k v ps)

any_ordered : (p : List ℕ × List ℕ → Bool) (ps : Pairs) → list_any p (laid ps) ≡ list_any p (byte_pairs (pairs_ordered ps))
any_ordered p no_pairs = refl
any_ordered p (pair k v ps) = ap (λ b. p (deterministic k, deterministic v) || b) (any_ordered p ps) ∙ sym (any_put p (ordered k) (ordered v) (pairs_ordered ps))

-- whichever list has the entries, with keys that rise, is joined to the deterministic bytes of the pairs
pub joined_in_order : (ps : Pairs) (es : List (List ℕ × List ℕ)) → IsPlain (pairs ps) → HasKeysApart (pairs ps) → IsStrictlySortedBy (slice_cmp nat_cmp) (firsts es) → HaveSame es (laid ps) → joined es ≡ pairs_preferred (pairs_ordered ps)
joined_in_order ps es w a s same =
    let up : IsStrictlySortedBy (slice_cmp nat_cmp) (firsts (byte_pairs (pairs_ordered ps))) = sorted_pairs (pairs_ordered ps) (rising (pairs ps) (writable (pairs ps) w) a) in
    let is : es ≡ byte_pairs (pairs_ordered ps) = one_list es (byte_pairs (pairs_ordered ps)) s up (λ p. same p ∙ any_ordered p ps) in
    ap joined is ∙ joined_pairs (pairs_ordered ps)
