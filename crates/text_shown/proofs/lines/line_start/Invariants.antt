use Rattle.std.proofs.Common.{◌≡◌, ◌≤◌, ℕ, ◌<◌, get_or}
use Rattle.text_shown.proofs.lines.line_start.Given as goal

abbrev pub invariant-line : goal.invariant-line
invariant-line l = record {
  within : l.start ≤ l.offset;
  unbroken : (k : ℕ) → l.start ≤ k → k < l.offset → get_or l.text k 0 ≡ 10 → ⊥;
}

abbrev pub decreases-line : goal.decreases-line
decreases-line l = l.start
