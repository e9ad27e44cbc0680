use Rattle.std.proofs.Common.{◌+◌, ◌-◌, ◌*◌, ◌≤◌, length}
use Rattle.cbor_data.specs.Value.{Pairs, Values}
use Rattle.tape_notation.specs.OnTape.{AreMembersOn, ArePairsOn}
use Rattle.tape_notation.proofs.Members.{AreMembersShown}
use Rattle.tape_notation.proofs.Pairs.{ArePairsShown}
use Rattle.tape_notation.proofs.item.+noted.Given as goal

-- how many places are left, before each call for what is below a place

abbrev pub decreases-put_item : goal.decreases-put_item
decreases-put_item l = 3 * (length l.tape.now - l.place) + 1

abbrev pub decreases-put_parts : goal.decreases-put_parts
decreases-put_parts l = 3 * (length l.tape.now - l.place)

abbrev pub decreases-put_members : goal.decreases-put_members
decreases-put_members l = 3 * (length l.tape.now - l.place) + 2

abbrev pub decreases-put_pairs : goal.decreases-put_pairs
decreases-put_pairs l = 3 * (length l.tape.now - l.place) + 2

abbrev pub decreases-put_tag : goal.decreases-put_tag
decreases-put_tag l = 3 * (length l.tape.now - l.place) + 2

abbrev pub invariant-put_members-loop-member : goal.invariant-put_members-loop-member
invariant-put_members-loop-member l = record {
  from : l.place ≤ l.member;
  shown : (xs : Values) → AreMembersOn l.bytes l.tape l.place l.next xs → AreMembersShown l.bytes l.tape l.fn.out l.out l.at (l.member - l.place) l.member l.next l.end xs;
}

abbrev pub decreases-put_members-loop-member : goal.decreases-put_members-loop-member
decreases-put_members-loop-member l = l.next - l.member

abbrev pub invariant-put_pairs-loop-key : goal.invariant-put_pairs-loop-key
invariant-put_pairs-loop-key l = record {
  from : l.place ≤ l.key;
  shown : (ps : Pairs) → ArePairsOn l.bytes l.tape l.place l.next ps → ArePairsShown l.bytes l.tape l.fn.out l.out l.at (l.key - l.place) l.key l.next l.end ps;
}

abbrev pub decreases-put_pairs-loop-key : goal.decreases-put_pairs-loop-key
decreases-put_pairs-loop-key l = l.next - l.key
