-- Pairs are put in order the same whichever comes first.
use Rattle.std.proofs.Common.{◌≡◌, ◌≢◌, ℕ, List, [], ◌∷◌, true, false, cond, ◌⊎◌, inl, inr, refl, sym, ap, ap₂, ◌∙◌}
use Rattle.std.specs.Cmp.Lexicographic.{slice_cmp}
use Rattle.std.specs.Ordering.{nat_cmp, is_lt, ordering_then, ordering_reverse}
use Rattle.std.specs.declared.cmp.Ordering.{Ordering}
use Rattle.std.specs.declared.cmp.Ordering.TheVariants.{Less, Equal, Greater}
use Rattle.std.proofs.lemmas.Cmp.{ranked, nat_list_cmp_total}
use Rattle.lists.proofs.Lemmas.{tested}
use Rattle.cbor_data.specs.Value.{Value, Pairs, no_pairs, pair}
use Rattle.cbor_data.specs.Preferred.{preferred}
use Rattle.cbor_data.specs.Deterministic.{comes_before, put, ComesBeforeAll}

then_equal : (a b : Ordering) → ordering_then a b ≡ Equal → (a ≡ Equal) × (b ≡ Equal)
then_equal Less b e = absurd (cc)
then_equal Equal b e = (refl, e)
then_equal Greater b e = absurd (cc)

pub equal_bytes : (s t : List ℕ) → slice_cmp nat_cmp s t ≡ Equal → s ≡ t
equal_bytes [] [] e = refl
equal_bytes [] (y ∷ t) e = absurd (cc)
equal_bytes (x ∷ s) [] e = absurd (cc)
equal_bytes (x ∷ s) (y ∷ t) e =
    let b = then_equal (nat_cmp x y) (slice_cmp nat_cmp s t) e in
    let h : x ≡ y = ranked x y Equal (sym b.0) in
    ap₂ (λ (a : ℕ) (r : List ℕ). a ∷ r) h (equal_bytes s t b.1)

-- the bytes of the one come before those of the other
abbrev pub IsBefore : Value → Value → Type 0
IsBefore k l = slice_cmp nat_cmp (preferred k) (preferred l) ≡ Less

pub before_true : (k l : Value) → IsBefore k l → comes_before k l ≡ true
before_true k l h = ap is_lt h

pub before_back : (k l : Value) → IsBefore k l → comes_before l k ≡ false
before_back k l h = ap is_lt (nat_list_cmp_total.antisymm (preferred l) (preferred k) ∙ ap ordering_reverse h)

less : (r : Ordering) → is_lt r ≡ true → r ≡ Less
less Less e = refl
less Equal e = absurd (cc)
less Greater e = absurd (cc)

pub true_before : (k l : Value) → comes_before k l ≡ true → IsBefore k l
true_before k l e = less (slice_cmp nat_cmp (preferred k) (preferred l)) e

pub before_on : (k l m : Value) → IsBefore k l → IsBefore l m → IsBefore k m
before_on k l m h g = nat_list_cmp_total.trans (preferred k) (preferred l) (preferred m) h g

turned : (r s : Ordering) → r ≡ ordering_reverse s → (r ≡ Less) ⊎ ((s ≡ Less) ⊎ (r ≡ Equal))
turned Less s e = inl refl
turned Equal s e = inr (inr refl)
turned Greater Less e = inr (inl refl)
turned Greater Equal e = absurd (cc)
turned Greater Greater e = absurd (cc)

-- one of two items comes before the other, if their bytes differ
pub one_before : (k l : Value) → preferred k ≢ preferred l → IsBefore k l ⊎ IsBefore l k
one_before k l n = elim (turned (slice_cmp nat_cmp (preferred k) (preferred l)) (slice_cmp nat_cmp (preferred l) (preferred k)) (nat_list_cmp_total.antisymm (preferred k) (preferred l))) [
  | inl h ↦ inl h
  | inr r ↦ elim r [
    | inl h ↦ inr h
    | inr e ↦ absurd (n (equal_bytes (preferred k) (preferred l) e))
  ]
]

-- how a pair is put among pairs
pub put_here : (k v l w : Value) (ps : Pairs) → comes_before k l ≡ true → put k v (pair l w ps) ≡ pair k v (pair l w ps)
put_here k v l w ps e = ap (λ b. cond b (pair k v (pair l w ps)) (pair l w (put k v ps))) e

pub put_after : (k v l w : Value) (ps : Pairs) → comes_before k l ≡ false → put k v (pair l w ps) ≡ pair l w (put k v ps)
put_after k v l w ps e = ap (λ b. cond b (pair k v (pair l w ps)) (pair l w (put k v ps))) e

swap_less : (k v l w : Value) (ps : Pairs) → IsBefore k l → put k v (put l w ps) ≡ put l w (put k v ps)
swap_less k v l w no_pairs h = put_here k v l w no_pairs (before_true k l h) ∙ sym (put_after l w k v no_pairs (before_back k l h))
swap_less k v l w (pair m u ps) h = elim (tested (comes_before l m)) [
  | inl t ↦
      let km : comes_before k m ≡ true = before_true k m (before_on k l m h (true_before l m t)) in
      ap (put k v) (put_here l w m u ps t) ∙ (put_here k v l w (pair m u ps) (before_true k l h)
      ∙ sym (ap (put l w) (put_here k v m u ps km) ∙ (put_after l w k v (pair m u ps) (before_back k l h) ∙ ap (pair k v) (put_here l w m u ps t))))
  | inr f ↦ elim (tested (comes_before k m)) [
    | inl t ↦
        ap (put k v) (put_after l w m u ps f) ∙ (put_here k v m u (put l w ps) t
        ∙ sym (ap (put l w) (put_here k v m u ps t) ∙ (put_after l w k v (pair m u ps) (before_back k l h) ∙ ap (pair k v) (put_after l w m u ps f))))
    | inr g ↦
        ap (put k v) (put_after l w m u ps f) ∙ (put_after k v m u (put l w ps) g ∙ (ap (pair m u) (swap_less k v l w ps h)
        ∙ sym (ap (put l w) (put_after k v m u ps g) ∙ put_after l w m u (put k v ps) f)))
  ]
]

pub swap : (k v l w : Value) (ps : Pairs) → preferred k ≢ preferred l → put k v (put l w ps) ≡ put l w (put k v ps)
swap k v l w ps n = elim (one_before k l n) [
  | inl h ↦ swap_less k v l w ps h
  | inr h ↦ sym (swap_less l w k v ps h)
]

pub put_first : (k v : Value) (ps : Pairs) → ComesBeforeAll k ps → put k v ps ≡ pair k v ps
put_first k v no_pairs h = refl
put_first k v (pair l w ps) h = put_here k v l w ps (before_true k l h.0)
