-- What a watch is told.
use Rattle.std.specs.Prelude.{◌≡◌, ℕ, List, ◌++◌, Option, Some, None}

-- how many items were taken, and how many bytes were read
pub record Telling : Type 0 where
  pub items : ℕ
  pub bytes : ℕ

-- What was reported grows by these, where it is known.
abbrev pub Tells : Option (List Telling) → Option (List Telling) → List Telling → Type 0
Tells None after more = Unit {0}
Tells (Some before) None more = ⊥
Tells (Some before) (Some after) more = after ≡ before ++ more
