use Rattle.std.proofs.Common.{◌≡◌, ℕ, List, ◌-◌, ◌≤◌, ◌++◌}
use Rattle.std.specs.Str.{IsCharBoundary}
use Rattle.std.specs.String.{string_bytes}
use Rattle.cddl_literal.specs.Strings.{Characters}
use Rattle.cddl_literal.proofs.strings.characters_between.Given as goal

abbrev pub invariant-loop-i : goal.invariant-loop-i
invariant-loop-i l = record {
  in_range : l.i ≤ l.to;
  boundary : IsCharBoundary l.text l.i;
  -- what the whole stands for, is what has passed with what is left
  left : (v : List ℕ) → Characters l.quote l.text l.from l.to v → (w : List ℕ) × Characters l.quote l.text l.i l.to w × (v ≡ string_bytes l.out ++ w);
}

abbrev pub decreases-loop-i : goal.decreases-loop-i
decreases-loop-i l = l.to - l.i
