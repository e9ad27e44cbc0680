-- What is true of each byte from one offset to another.
use Rattle.std.proofs.Common.{◌≡◌, ℕ, ◌+◌, ◌≤◌, Bool, true, false, List, slice_index, ap, sym, ◌∙◌, ⊎_elim, arith}
use Rattle.std.proofs.lemmas.Bool.{cases_lt, false≢true}
use Rattle.cddl_literal.specs.Bytes.{Each, IsRun}

pub each_more : (passes : ℕ → Bool) (s : List ℕ) (a i : ℕ) → Each passes s a i → passes (slice_index s i) ≡ true → Each passes s a (i + 1)
each_more passes s a i before here = λ k low high. ⊎_elim (λ l. before k low l) (λ l. let e : k ≡ i = omega arith in ap (λ n. passes (slice_index s n)) e ∙ here) (cases_lt k i)

-- where a byte doesn't pass, no run goes on
pub each_within : (passes : ℕ → Bool) (s : List ℕ) {x d m : ℕ} → x ≤ d → passes (slice_index s d) ≡ false → Each passes s x m → m ≤ d
each_within passes s {x} {d} {m} le stops holds = ⊎_elim (λ lt. absurd (false≢true (sym stops ∙ holds d le lt))) (λ ge. ge) (cases_lt d m)

-- two runs from one offset that both stop are one
pub run_same : (passes : ℕ → Bool) (s : List ℕ) {x d m : ℕ} → x ≤ d → Each passes s x d → passes (slice_index s d) ≡ false → IsRun passes s x m → passes (slice_index s m) ≡ false → m ≡ d
run_same passes s {x} {d} {m} le each stops run halts =
    let upper = each_within passes s le stops run.holds in
    let past = run.nonempty in
    let low : x ≤ m = omega arith in
    let lower : d ≤ m = each_within passes s low halts each in
    omega arith
