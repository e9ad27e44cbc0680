-- The bits that are set in an item are all members: each that is set is one.
use Rattle.std.specs.Prelude.{◌↔◌, ◌*◌, ◌/◌, ◌%◌, get_or, filter, if◌then◌else◌}
use Rattle.std.proofs.Common.{◌≡◌, ◌∙◌, ℕ, zero, suc, ◌<◌, List, ◌∷◌, length, Bool, true, false, ◌&&◌, ◌⊎◌, inl, inr, None, refl, sym, ap, subst, arith}
use Rattle.cbor_data.specs.Value.{Value, bytes, uint}
use Rattle.cddl_meaning.specs.Forms.{are_bits_among, are_members, bits_among, bits_set, has_bit, is_member, numbers_below, passes}
use Rattle.cddl_language.proofs.Members.{IsOneOf, members}

both_so : (a b : Bool) → (a && b) ≡ true → (a ≡ true) × (b ≡ true)
both_so true true e = (refl, refl)
both_so true false e = absurd (cc)
both_so false b e = absurd (cc)

both : (a b : Bool) → a ≡ true → b ≡ true → (a && b) ≡ true
both true true e f = refl
both true false e f = absurd (cc)
both false b e f = absurd (cc)

module _ (rs : List (ℕ × ℕ)) (is_set : ℕ → Bool) where
  abbrev pub AreOf : ℕ → Type 0
  AreOf n = (k : ℕ) → k < n → is_set k ≡ true → IsOneOf rs k

  kept : (n : ℕ) (b : Bool) (ns : List ℕ) → are_members (if b then n ∷ ns else ns) rs ≡ true → (b ≡ true → is_member n rs ≡ true) × (are_members ns rs ≡ true)
  kept n true ns e = let h = both_so (is_member n rs) (are_members ns rs) e in (λ f. h.0, h.1)
  kept n false ns e = (λ f. absurd (cc), e)

  keep : (n : ℕ) (b : Bool) (ns : List ℕ) → (b ≡ true → is_member n rs ≡ true) → are_members ns rs ≡ true → are_members (if b then n ∷ ns else ns) rs ≡ true
  keep n true ns h e = both (is_member n rs) (are_members ns rs) (h refl) e
  keep n false ns h e = e

  last_or_before : (k n : ℕ) → k < suc n → (k ≡ n) ⊎ (k < n)
  last_or_before k n l = grind (arith)

  each : (n : ℕ) → are_members (filter is_set (numbers_below n)) rs ≡ true → AreOf n
  each zero e k l s = absurd (omega (arith, l))
  each (suc n) e k l s =
      let h = kept n (is_set n) (filter is_set (numbers_below n)) e in
      elim (last_or_before k n l) [
        | inl q ↦ subst (IsOneOf rs) (sym q) ((members n rs).0 (h.0 (ap is_set (sym q) ∙ s)))
        | inr m ↦ each n h.1 k m s
      ]

  all : (n : ℕ) → AreOf n → are_members (filter is_set (numbers_below n)) rs ≡ true
  all zero h = refl
  all (suc n) h = keep n (is_set n) (filter is_set (numbers_below n)) (λ s. (members n rs).1 (h n (omega arith) s)) (all n (λ k l s. h k (omega (arith, l)) s))

  pub are_among : (n : ℕ) → (are_members (filter is_set (numbers_below n)) rs ≡ true) ↔ AreOf n
  are_among n = (each n, all n)

pub bytes_among : (rs : List (ℕ × ℕ)) (s : List ℕ) → (passes (bits_among rs) (bytes s) ≡ true) ↔ AreOf rs (λ k. has_bit (get_or s (k / 8) 0) (k % 8)) (8 * length s)
unfolding bits_set
bytes_among rs s = are_among rs (λ k. has_bit (get_or s (k / 8) 0) (k % 8)) (8 * length s)

pub number_among : (rs : List (ℕ × ℕ)) (n : ℕ) → (passes (bits_among rs) (uint n) ≡ true) ↔ AreOf rs (has_bit n) 64
unfolding bits_set
number_among rs n = are_among rs (has_bit n) 64

pub others_miss : (rs : List (ℕ × ℕ)) (x : Value) → bits_set x ≡ None → passes (bits_among rs) x ≡ false
others_miss rs x e = ap (are_bits_among rs) e
