use Rattle.std.proofs.Common.{ℕ, length, ◌-◌, ◌≤◌, ◌⊎◌}
use Rattle.cddl_literal.specs.Strings.{HoldsCharacters}
use Rattle.cddl_literal.proofs.strings.characters_end.Given as goal

abbrev pub invariant-loop-i : goal.invariant-loop-i
invariant-loop-i l = record {
  in_source : l.i ≤ length l.source;
  -- what is from here on completes what has passed
  passed : (q : ℕ) → HoldsCharacters l.quote l.source l.i q → HoldsCharacters l.quote l.source l.at q;
  -- what reaches past this offset is from here on
  left : (q : ℕ) → HoldsCharacters l.quote l.source l.at q → (q ≤ l.i) ⊎ HoldsCharacters l.quote l.source l.i q;
}

abbrev pub decreases-loop-i : goal.decreases-loop-i
decreases-loop-i l = length l.source - l.i
