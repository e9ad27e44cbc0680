use Rattle.std.proofs.Common.{◌+◌, ◌-◌, ◌*◌, ◌≤◌, length}
use Rattle.cbor_tape.proofs.Members.{AreRead}
use Rattle.cbor_tape.proofs.Pairs.{ArePairsRead}
use Rattle.cbor_tape.proofs.item.+taped.Given as goal

-- how many bytes are left, before each call of what is inside

abbrev pub decreases-item_at : goal.decreases-item_at
decreases-item_at l = 4 * (length l.bytes.now - l.at) + 3

abbrev pub decreases-inside : goal.decreases-inside
decreases-inside l = 4 * (length l.bytes.now - l.at) + 2

abbrev pub decreases-inside_to_break : goal.decreases-inside_to_break
decreases-inside_to_break l = 4 * (length l.bytes.now - l.at) + 1

abbrev pub decreases-members : goal.decreases-members
decreases-members l = 4 * (length l.bytes.now - l.start) + 4

abbrev pub decreases-pairs : goal.decreases-pairs
decreases-pairs l = 4 * (length l.bytes.now - l.start) + 4

abbrev pub decreases-content : goal.decreases-content
decreases-content l = 4 * (length l.bytes.now - l.start) + 4

abbrev pub invariant-members-loop-tape : goal.invariant-members-loop-tape
invariant-members-loop-tape l = record {
  taped : AreRead (l.depth - 1) l.bytes l.start l.place l.fn.tape l.tape l.end l.next l.read;
  behind : l.start ≤ l.end;
  slower : l.next ≤ l.end;
  few : l.read ≤ l.end;
  within : l.end ≤ length l.bytes;
}

abbrev pub decreases-members-loop-tape : goal.decreases-members-loop-tape
decreases-members-loop-tape l = length l.bytes - l.end

abbrev pub invariant-pairs-loop-tape : goal.invariant-pairs-loop-tape
invariant-pairs-loop-tape l = record {
  taped : ArePairsRead (l.depth - 1) l.bytes l.start l.place l.fn.tape l.tape l.end l.next l.read l.keys;
  behind : l.start ≤ l.end;
  slower : l.next ≤ l.end;
  few : l.read ≤ l.end;
  within : l.end ≤ length l.bytes;
}

abbrev pub decreases-pairs-loop-tape : goal.decreases-pairs-loop-tape
decreases-pairs-loop-tape l = length l.bytes - l.end
