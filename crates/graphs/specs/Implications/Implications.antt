-- What follows from implications: the least set that they close.
use Rattle.std.specs.Prelude.{◌≡◌, ◌↔◌, ℕ, ◌<◌, List, length, Bool, true, Some, slice_get}
use Rattle.graphs.specs.declared.implications.Implication.{Implication}

-- The conclusion of an implication follows where each premise that it has does. A number that is no fact never follows.
pub data Follows (facts : ℕ) (is : List Implication) : ℕ → Type 0 where
  concludes : (place : ℕ) (i : Implication) → slice_get is place ≡ Some i → i.then < facts → ((p : ℕ) → i.first ≡ Some p → Follows facts is p) → ((p : ℕ) → i.second ≡ Some p → Follows facts is p) → Follows facts is i.then

-- whether what has the property has the conclusion of each implication whose premises it has
abbrev pub IsClosed : ℕ → List Implication → (ℕ → Type 0) → Type 0
IsClosed facts is P = (place : ℕ) (i : Implication) → slice_get is place ≡ Some i → i.then < facts → ((p : ℕ) → i.first ≡ Some p → P p) → ((p : ℕ) → i.second ≡ Some p → P p) → P i.then

-- for each fact whether it follows
pub record AreFollowing (facts : ℕ) (is : List Implication) (flags : List Bool) : Type 0 where
  pub all : length flags ≡ facts
  pub each : (x : ℕ) → (slice_get flags x ≡ Some true) ↔ Follows facts is x
