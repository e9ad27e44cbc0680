-- What is put into bytes from a position on.
use Rattle.std.specs.Prelude.{◌≡◌, ℕ, ◌+◌, ◌/◌, ◌%◌, ◌≤◌, List, [], ◌∷◌, ◌++◌, take, length}

-- from `at` up to `end` the bytes are these, and before they are as they were
pub record IsPut (old new : List ℕ) (at : ℕ) (text : List ℕ) (end : ℕ) : Type 0 where
  pub placed : end ≡ at + length text
  pub within : end ≤ length new
  pub long : length new ≡ length old
  pub is : take end new ≡ take at old ++ text

-- the last two decimal digits of a number below 100, of which the first one may be 0
abbrev pub two_digits : ℕ → List ℕ
two_digits n = (48 + n / 10) ∷ ((48 + n % 10) ∷ [])

-- and the last four of one below 10,000
abbrev pub four_digits : ℕ → List ℕ
four_digits n = two_digits (n / 100) ++ two_digits (n % 100)
