use Rattle.std.proofs.Common.{length, ◌-◌, ◌≡◌, ◌≤◌, ℕ, ◌<◌, false, get_or}
use Rattle.text_shown.specs.Places.{ends_line}
use Rattle.text_shown.proofs.lines.line_end.Given as goal

abbrev pub invariant-line : goal.invariant-line
invariant-line l = record {
  within : (l.offset ≤ l.end) × (l.end ≤ length l.text);
  unbroken : (k : ℕ) → l.offset ≤ k → k < l.end → ends_line (get_or l.text k 0) ≡ false;
}

abbrev pub decreases-line : goal.decreases-line
decreases-line l = length l.text - l.end
