-- What a clause reads of a `Counted`, and how its count goes on.
use Rattle.std.specs.Prelude.{◌≡◌, ℕ, ◌+◌, ◌-◌, ◌^◌, ◌<◌, ◌⊎◌, min, List, length, Bool, true, ◌&&◌, ◌==◌, nat_lt, if◌then◌else◌, Result, Ok, Err}
use Rattle.item_nodes.specs.declared.counted.Counted.{Counted}

-- the reader or writer that is counted
abbrev pub device_of : {D : Type 0} → Counted D → D
device_of c = c.device

-- how often it failed, as far as 2^64 - 1
abbrev pub failures_of : {D : Type 0} → Counted D → ℕ
failures_of c = c.failures

-- one failure more: at 2^64 - 1 the count stays
abbrev pub one_more : ℕ → ℕ
one_more failures = min (failures + 1) (2 ^ 64 - 1)

-- the count after a read that answered so: an error is a failure
abbrev pub failures_after_read : {E : Type 0} → ℕ → Result ℕ E → ℕ
failures_after_read failures (Ok n) = failures
failures_after_read failures (Err e) = one_more failures

-- a write of a piece that answered so is a failure: it answered an error, or took 0 bytes of a piece that has some
abbrev pub is_failed_write : {E : Type 0} → Result ℕ E → List ℕ → Bool
is_failed_write (Ok n) piece = n == 0 && nat_lt 0 (length piece)
is_failed_write (Err e) piece = true

-- the count after a write of a piece that answered so
abbrev pub failures_after_write : {E : Type 0} → ℕ → Result ℕ E → List ℕ → ℕ
failures_after_write failures r piece = if is_failed_write r piece then one_more failures else failures

-- the device failed between the two counts: the count rose, or is where it cannot rise
abbrev pub HasRisen : ℕ → ℕ → Type 0
HasRisen before after = (before < after) ⊎ (after ≡ 2 ^ 64 - 1)
