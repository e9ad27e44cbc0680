-- Parts of lists.
use Rattle.std.proofs.Common.{◌≡◌, ℕ, suc, ◌+◌, ◌-◌, ◌<◌, ◌≤◌, List, [], ◌∷◌, take, drop, length, get_or, arith, rules, ap, sym, ◌∙◌, add-one, drop-cons}
use Rattle.std.specs.Prelude.{slice_range}
use Rattle.std.proofs.lemmas.Grind.{common_steps}

pub range_none : (s : List ℕ) (i : ℕ) → ◌≡◌ {A = List ℕ} (slice_range s i i) []
range_none s i = search (rules, common_steps)

pub range_more : (s : List ℕ) (i b : ℕ) → i < b → i < length s → slice_range s i b ≡ get_or s i 0 ∷ slice_range s (i + 1) b
range_more s i b lt in_source =
    let n : b - i ≡ suc (b - (i + 1)) = omega arith in
    ap (λ k. take k (drop i s)) n ∙ ap (take (suc (b - (i + 1)))) (drop-cons s i 0 in_source) ∙ ap (λ k. get_or s i 0 ∷ take (b - (i + 1)) (drop k s)) (sym (add-one i))

pub four_bytes : (s : List ℕ) (i : ℕ) → i + 4 ≤ length s → slice_range s i (i + 4) ≡ get_or s i 0 ∷ get_or s (i + 1) 0 ∷ get_or s (i + 2) 0 ∷ get_or s (i + 3) 0 ∷ []
four_bytes s i h =
    let two : i + 1 + 1 ≡ i + 2 = omega arith in
    let three : i + 2 + 1 ≡ i + 3 = omega arith in
    let four : i + 3 + 1 ≡ i + 4 = omega arith in
    range_more s i (i + 4) (omega arith) (omega arith)
    ∙ ap (λ r. get_or s i 0 ∷ r) (range_more s (i + 1) (i + 4) (omega arith) (omega arith)
    ∙ ap (λ r. get_or s (i + 1) 0 ∷ r) (ap (λ k. slice_range s k (i + 4)) two ∙ range_more s (i + 2) (i + 4) (omega arith) (omega arith)
    ∙ ap (λ r. get_or s (i + 2) 0 ∷ r) (ap (λ k. slice_range s k (i + 4)) three ∙ range_more s (i + 3) (i + 4) (omega arith) (omega arith)
    ∙ ap (λ r. get_or s (i + 3) 0 ∷ r) (ap (λ k. slice_range s k (i + 4)) four ∙ range_none s (i + 4)))))
