use Rattle.std.proofs.Common.{ℕ, ◌<◌}
use Rattle.source_places.specs.States.{HasNumber}
use Rattle.source_places.proofs.sources.TypesInText.rule_of.Given as goal

-- none of the rules so far has the number
abbrev pub invariant-loop-place : goal.invariant-loop-place
invariant-loop-place l = (i : ℕ) → i < l.place → HasNumber l.self i l.number → ⊥
