-- The least of the offsets that a list's elements have.
use Rattle.std.specs.Prelude.{ℕ, ◌+◌, List, [], ◌∷◌, Option}
use Rattle.lists.specs.Least.{lesser_of}

-- after those before, of which this is the least
abbrev pub least_over : {A : Type 0} → (A → Option ℕ) → Option ℕ → List A → Option ℕ
least_over f least [] = least
least_over f least (x ∷ xs) = least_over f (lesser_of least (f x)) xs

-- where it depends on the place, and the first is at this one
abbrev pub least_from : {A : Type 0} → (ℕ → A → Option ℕ) → ℕ → Option ℕ → List A → Option ℕ
least_from f k least [] = least
least_from f k least (x ∷ xs) = least_from f (k + 1) (lesser_of least (f k x)) xs
