-- Numbers in their ranges.
use Rattle.std.proofs.Common.{◌≡◌, ℕ, ◌<◌, ◌≤◌, ◌⊎◌, inl, inr, arith}
use Rattle.cbor_read.specs.declared.limits.TheConstants.{MOST_ITEM_BYTES}

-- a depth and a number of bytes that may be are not outside of what may be
pub within : (depth bytes : ℕ) → (1 ≤ depth) × (depth ≤ 256) → (1 ≤ bytes) × (bytes ≤ MOST_ITEM_BYTES) → ((depth ≡ 0) ⊎ (256 < depth)) ⊎ ((bytes ≡ 0) ⊎ (67108864 < bytes)) → ⊥
within depth bytes d b (inl (inl e)) = omega (arith, d, e)
within depth bytes d b (inl (inr e)) = omega (arith, d, e)
within depth bytes d b (inr (inl e)) = omega (arith, b, e)
within depth bytes d b (inr (inr e)) = omega (arith, b, e)
