use Rattle.std.proofs.Common.{length, ◌-◌, ◌≡◌, ◌<◌, ◌≤◌, false, slice_index}
use Rattle.cddl_literal.specs.Bytes.{Each}
use Rattle.cddl_token.specs.Bytes.{is_mark, is_id_byte}
use Rattle.cddl_token.proofs.names.id_end.Given as goal

abbrev pub invariant-loop-i : goal.invariant-loop-i
invariant-loop-i l = record {
  from : l.at < l.end;
  passed : l.end ≤ l.i;
  in_source : l.i ≤ length l.source;
  holds : Each is_id_byte l.source l.at l.i;
  ends : is_mark (slice_index l.source (l.end - 1)) ≡ false;
  marks : Each is_mark l.source l.end l.i;
}

abbrev pub decreases-loop-i : goal.decreases-loop-i
decreases-loop-i l = length l.source - l.i
