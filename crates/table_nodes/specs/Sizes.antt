-- Ranges of numbers of bytes, and their order in a set.
use Rattle.std.specs.Prelude.{ℕ, ◌+◌, ◌<◌, ◌≤◌, Bool, false, Option, Some, None, List, [], ◌∷◌, map, nat_le}
use Rattle.std.proofs.Math.Bridge.{le_prop}
use mathlib.Core.HLevel.{×_prop, Unit-prop}
use Rattle.table_nodes.specs.declared.sizes.NumberRange.{NumberRange}

-- ranges of numbers of bytes, each by its first and its last
abbrev pub size_view : NumberRange → ℕ × ℕ
size_view r = (r.least, r.last)

abbrev pub sizes_view : List NumberRange → List (ℕ × ℕ)
sizes_view rs = map size_view rs

-- Between this number and the first range there is a further one.
abbrev pub IsGap : ℕ → List NumberRange → Type 0
IsGap last [] = Unit {0}
IsGap last (r ∷ rs) = last + 1 < r.least

-- No range is empty, and each is after a gap.
abbrev pub AreInOrder : List NumberRange → Type 0
AreInOrder [] = Unit {0}
AreInOrder (r ∷ rs) = (r.least ≤ r.last) × (IsGap r.last rs × AreInOrder rs)

-- Each begins at this number or before it.
abbrev pub BeginBy : ℕ → List NumberRange → Type 0
BeginBy n [] = Unit {0}
BeginBy n (r ∷ rs) = (r.least ≤ n) × BeginBy n rs

-- whether there is a range, and it begins by the number
abbrev pub begins_by : ℕ → Option NumberRange → Bool
begins_by n None = false
begins_by n (Some r) = nat_le r.least n

-- That ranges are in order has one proof at most, so a set may hold it.

is_gap_once : (last : ℕ) (rs : List NumberRange) → IsProp (IsGap last rs)
is_gap_once last [] = Unit-prop
is_gap_once last (r ∷ rs) = le_prop

pub are_in_order_once : (rs : List NumberRange) → IsProp (AreInOrder rs)
are_in_order_once [] = Unit-prop
are_in_order_once (r ∷ rs) = ×_prop le_prop (×_prop (is_gap_once r.last rs) (are_in_order_once rs))
