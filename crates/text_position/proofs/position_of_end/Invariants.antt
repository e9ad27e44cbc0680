use Rattle.std.proofs.Common.{take, ◌+◌, ◌≤◌}
use Rattle.text_position.specs.Positions.{IsAt}
use Rattle.text_position.proofs.position_of_end.Given as goal

abbrev pub invariant-loop-byte : goal.invariant-loop-byte
invariant-loop-byte l = record {
  here : IsAt (take l.byte-index l.before) l.line l.column;
  line_within : l.line ≤ l.byte-index + 1;
  column_within : l.column ≤ l.byte-index + 1;
}
