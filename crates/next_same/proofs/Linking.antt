-- One position more is linked, before those that are.
use Rattle.std.proofs.Common.{◌≡◌, ℕ, suc, inl, inr, List, length, Some, set, slice_get, replicate, sym, subst, ◌∙◌, arith}
use Rattle.lists.proofs.Lemmas.{after_set, replicate_at, same_or_not, same_some, within}
use Rattle.next_same.specs.Chains.{AreHeads, AreLinks, IsNext}

-- No number stands past the end.
pub no_heads : (ns : List ℕ) (bound : ℕ) → AreHeads ns (length ns) (replicate bound (length ns))
no_heads ns bound n first e =
    let is : length ns ≡ first = replicate_at bound (length ns) n first e in
    (omega (arith, is), (omega (arith, is), (λ i a b s. omega (arith, is, a, b), λ h. absurd (omega (arith, is, h)))))

pub no_links : (ns links : List ℕ) → AreLinks ns (length ns) links
no_links ns links i n next h e f = absurd (omega (arith, h, within ns i n e))

-- What is next from the position after this one is so from this one, for another number.
one_before : (ns : List ℕ) (n m at first : ℕ) → slice_get ns at ≡ Some m → (m ≡ n → ⊥) → IsNext ns n (suc at) first → IsNext ns n at first
one_before ns n m at first e d h =
    (omega (arith, h.0), (h.1.0, (λ i a b s. elim (same_or_not i at) [ inl k ↦ d (same_some (sym e ∙ subst (λ j. slice_get ns j ≡ Some n) k s)) | inr k ↦ h.1.1.0 i (omega (arith, a, k)) b s ], h.1.1.1)))

pub heads_with : (ns heads : List ℕ) (m at : ℕ) → slice_get ns at ≡ Some m → AreHeads ns (suc at) heads → AreHeads ns at (set heads m at)
heads_with ns heads m at e h n first f = elim (after_set heads m n at first f) [
  | inl k ↦ subst (λ p. IsNext ns n at p) k.1 (omega arith, (omega (arith, within ns at m e), (λ i a b s. omega (arith, a, b), λ l. subst (λ j. slice_get ns at ≡ Some j) k.0 e)))
  | inr k ↦ one_before ns n m at first e k.0 (h n first k.1)
]

pub links_with : (ns heads links : List ℕ) (m at next : ℕ) → slice_get ns at ≡ Some m → slice_get heads m ≡ Some next → AreHeads ns (suc at) heads → AreLinks ns (suc at) links → AreLinks ns at (set links at next)
links_with ns heads links m at next e g h k i n after a s f = elim (after_set links at i next after f) [
  | inl j ↦ by (same_some (sym e ∙ subst (λ i. slice_get ns i ≡ Some n) (sym j.0) s)) j.0 j.1
  | inr j ↦ k i n after (omega (arith, a, j.0)) s j.1
]
  where
    by : m ≡ n → at ≡ i → next ≡ after → IsNext ns n (suc i) after
    by p q r = subst (λ n. IsNext ns n (suc i) after) p (subst (λ i. IsNext ns m (suc i) after) q (subst (λ after. IsNext ns m (suc at) after) r (h m next g)))
