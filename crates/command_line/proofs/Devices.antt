-- How a device's count of failures goes on.
use Rattle.std.proofs.Common.{◌≡◌, ℕ, inl, inr}
use Rattle.std.specs.Prelude.{◌⊎◌, Result, Ok, Err, OnOk, OnErr}
use Rattle.item_nodes.specs.Counted.{HasRisen}

-- an answer of the device, passed over: its count is as it was, or has risen
pub kept_or_rose : {A E : Type 0} (answer : Result A E) (before after : ℕ) → OnOk answer (after ≡ before) → OnErr answer (HasRisen before after) → (after ≡ before) ⊎ HasRisen before after
kept_or_rose (Ok a) before after kept risen = inl kept
kept_or_rose (Err e) before after kept risen = inr risen
