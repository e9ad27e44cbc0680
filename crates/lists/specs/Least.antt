-- The least offset at which something stands.
use Rattle.std.specs.Prelude.{ℕ, ◌≤◌, min, Option, Some, None}

-- None: it stands nowhere
abbrev pub IsLeast : (ℕ → Type 0) → Option ℕ → Type 0
IsLeast P None = (p : ℕ) → P p → ⊥
IsLeast P (Some at) = P at × ((p : ℕ) → P p → at ≤ p)

abbrev pub lesser_of : Option ℕ → Option ℕ → Option ℕ
lesser_of None q = q
lesser_of (Some p) None = Some p
lesser_of (Some p) (Some q) = Some (min p q)
