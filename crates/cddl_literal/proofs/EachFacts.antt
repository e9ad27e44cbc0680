-- What is true of each byte from one offset to another.
use Rattle.std.proofs.Common.{◌≡◌, ℕ, ◌+◌, Bool, true, List, slice_index, ap, ◌∙◌, ⊎_elim, arith}
use Rattle.std.proofs.lemmas.Bool.{cases_lt}
use Rattle.cddl_literal.specs.Bytes.{Each}

pub each_more : (passes : ℕ → Bool) (s : List ℕ) (a i : ℕ) → Each passes s a i → passes (slice_index s i) ≡ true → Each passes s a (i + 1)
each_more passes s a i before here = λ k low high. ⊎_elim (λ l. before k low l) (λ l. let e : k ≡ i = omega arith in ap (λ n. passes (slice_index s n)) e ∙ here) (cases_lt k i)
