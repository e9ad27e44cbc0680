use Rattle.std.proofs.Common.{◌≡◌, ◌^◌, nat_lt, ℕ, ◌<◌, ◌≤◌, true, arith}
use Rattle.std.proofs.lemmas.Bool.Decides.{nat_tests}
use Rattle.std.proofs.Math.Nat.{pow-le-pow_right}
use Rattle.table_nodes.proofs.sizes.can_hold.Goals as goal

-- as many bytes as make a power that is no u64 hold every u64
holds : (number bytes power : ℕ) → number < 2 ^ 64 → 2 ^ 64 ≤ power → power ≤ 256 ^ bytes → true ≡ nat_lt number (256 ^ bytes)
holds number bytes power h i j = below number (256 ^ bytes) (omega (arith, h, i, j))
  where
    below : (m n : ℕ) → m < n → true ≡ nat_lt m n
    below m n h = grind (arith, nat_tests)

not_below : (n : ℕ) → (n < 2 ^ 64 → ⊥) → 2 ^ 64 ≤ n
not_below n h = omega (arith, h)

pub returns-in-None : goal.returns-in-None
returns-in-None c = holds c.args.number c.args.bytes (256 ^ c.min.result) (omega (arith, c.ranges.number.fits)) (not_below (256 ^ c.min.result) c.in-None.ensures) (pow-le-pow_right (omega arith) (omega (arith, c.min.ensures)))
