-- Marks, by number.
use Rattle.std.specs.Prelude.{ℕ, zero, suc, ◌-◌, Bool, true, false, not, List, [], ◌∷◌, ◌++◌, length, take, replicate}

abbrev pub is_marked : List Bool → ℕ → Bool
is_marked [] n = false
is_marked (m ∷ ms) zero = m
is_marked (m ∷ ms) (suc n) = is_marked ms n

-- there, and not marked
abbrev pub is_new : List Bool → ℕ → Bool
is_new [] n = false
is_new (m ∷ ms) zero = not m
is_new (m ∷ ms) (suc n) = is_new ms n

abbrev pub with_mark : List Bool → ℕ → List Bool
with_mark [] n = []
with_mark (m ∷ ms) zero = true ∷ ms
with_mark (m ∷ ms) (suc n) = m ∷ with_mark ms n

-- so many marks, of which the further ones are not set
abbrev pub widened : List Bool → ℕ → List Bool
widened ms n = take n ms ++ replicate (n - length ms) false
