-- Counting in parts.
use Rattle.std.proofs.Common.{◌≡◌, ℕ, ◌+◌, ◌<◌, ◌^◌, List, ◌++◌, length, arith, length-append}
use Rattle.cbor_item.specs.Length.{capped_sum}

pub capped-append : (before : ℕ) (bs cs : List ℕ) {mid new : ℕ} → mid ≡ capped_sum before (length bs) → new ≡ capped_sum mid (length cs) → new ≡ capped_sum before (length (bs ++ cs))
capped-append before bs cs e f = omega (arith, e, f, length-append bs cs)

pub capped_string : (before len : ℕ) (head bs : List ℕ) {new : ℕ} → len ≡ length bs → new ≡ capped_sum before (length head + len) → new ≡ capped_sum before (length (head ++ bs))
capped_string before len head bs e f = omega (arith, e, f, length-append head bs)

pub capped-none : (n : ℕ) → n < 2 ^ 128 → n ≡ capped_sum n 0
capped-none n h = omega arith
