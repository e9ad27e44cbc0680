-- Parts that are too large, and parts that have such a one.
use Rattle.std.specs.Prelude.{◌≡◌, ◌⊎◌, ◌↔◌, ℕ, Bool, true, List, length, Some, slice_get}
use Rattle.alternatives.specs.declared.Bounds.{Bounds}
use Rattle.alternatives.specs.declared.Part.{Part}
use Rattle.alternatives.specs.declared.Part.TheVariants.{Refused, Occurs}
use Rattle.alternatives.specs.Splices.{LeadsTo}
use Rattle.alternatives.specs.Splices.{Alternatives, HasAlternatives}
use Rattle.alternatives.specs.Summaries.{AreTooMany, OccursBadly}
use Rattle.check_maps.specs.declared.map_faults.MapFaults.{MapFaults}

pub record IsLarge (parts : List Part) (n : ℕ) : Type 0 where
  pub alternatives : Alternatives
  pub stands_for : HasAlternatives parts n alternatives
  pub too_many : AreTooMany alternatives

-- The part is a group with an occurrence that is too large, with it or without, or it has such a part. What only begins a
-- group, or is one of its choices, counts by itself for nothing.
pub data HasLarge (parts : List Part) : ℕ → Type 0 where
  group : {n : ℕ} (b : Bounds) (a : ℕ) → slice_get parts n ≡ Some (Occurs b a) → IsLarge parts n ⊎ IsLarge parts a → HasLarge parts n
  further : {n m : ℕ} → LeadsTo parts n m → HasLarge parts m → HasLarge parts n

-- for each part whether it is so
pub record AreFlags (P : ℕ → Type 0) (parts : List Part) (flags : List Bool) : Type 0 where
  pub all : length flags ≡ length parts
  pub each : (n : ℕ) → (slice_get flags n ≡ Some true) ↔ P n

-- what is wrong at a part
pub record HasPartFaults (parts : List Part) (n : ℕ) (f : MapFaults) : Type 0 where
  pub lacks_key : (f.lacks_key ≡ true) ↔ (slice_get parts n ≡ Some Refused)
  pub occurs_badly : (f.occurs_badly ≡ true) ↔ OccursBadly parts n
  pub has_too_many : (f.has_too_many ≡ true) ↔ (IsLarge parts n ⊎ HasLarge parts n)
