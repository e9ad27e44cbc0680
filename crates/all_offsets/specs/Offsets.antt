-- Lists of all offsets at which something stands.
use Rattle.std.specs.Prelude.{◌≡◌, ◌↔◌, ◌⊎◌, ℕ, List, Contains, Option, Some, slice_get}
use Rattle.std.specs.List.Sorted.{IsStrictlyIncreasing}

-- exactly the offsets at which it stands, in any order
abbrev pub AreOf : (ℕ → Type 0) → List ℕ → Type 0
AreOf P xs = (p : ℕ) → Contains xs p ↔ P p

-- the same in ascending order, each once: there is one such list
pub record AreOffsets (P : ℕ → Type 0) (xs : List ℕ) : Type 0 where
  pub rising : IsStrictlyIncreasing xs
  pub exactly : AreOf P xs

-- it is the offset that was found
abbrev pub IsThatOf : Option ℕ → ℕ → Type 0
IsThatOf found p = found ≡ Some p

-- the list has grown by the offsets at which it stands
abbrev pub Gains : (ℕ → Type 0) → (old new : List ℕ) → Type 0
Gains P old new = (p : ℕ) → Contains new p ↔ (Contains old p ⊎ P p)

-- one of the list has it at this offset
pub record IsAmong {A : Type 0} (P : A → ℕ → Type 0) (xs : List A) (at : ℕ) : Type 0 where
  pub one : A
  pub present : Contains xs one
  pub told : P one at

-- the same by the one and its place
pub record IsAtPlace {A : Type 0} (P : ℕ → A → ℕ → Type 0) (xs : List A) (at : ℕ) : Type 0 where
  pub place : ℕ
  pub one : A
  pub there : slice_get xs place ≡ Some one
  pub told : P place one at

-- what a function says of each by its place
abbrev pub IsSaid : {A : Type 0} → (ℕ → A → Option ℕ) → ℕ → A → ℕ → Type 0
IsSaid f k x at = f k x ≡ Some at
