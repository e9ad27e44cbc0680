use Rattle.std.proofs.Common.{IfSome, subst}
use Rattle.item_nodes.specs.View.{view}
use Rattle.read_items.specs.Whole.Whole.{IsWholeItem}
use Rattle.read_building.proofs.Taking.{first_member_taken, taken_then}
use Rattle.read_building.proofs.members.take_next.Goals as goal

pub returns-then-bytes-lt-INTEGERS_BELOW-clause-taken : goal.returns-then-bytes-lt-INTEGERS_BELOW-clause-taken
returns-then-bytes-lt-INTEGERS_BELOW-clause-taken c = taken_then c.take_integers.result (λ used h depth at around few. h depth at around) c.take_integers.ensures.taken

pub returns-then-bytes-lt-BYTES_TO_BREAK-clause-taken : goal.returns-then-bytes-lt-BYTES_TO_BREAK-clause-taken
returns-then-bytes-lt-BYTES_TO_BREAK-clause-taken c = taken_then c.take_bytes.result (λ used h depth at around few. h depth at around) c.take_bytes.ensures.taken

pub returns-clause-taken : goal.returns-clause-taken
returns-clause-taken c =
    let b = c.args.bytes.now in
    let whole : IsWholeItem c.args.room b (view c.in-Some.member) c.in-Some.length = subst (λ f. IfSome f (λ r. IsWholeItem c.args.room b (view r.0) r.1)) c.in-Some.is c.in_ok-member.ensures in
    λ depth at around few.
    first_member_taken depth at c.args.room b c.in-Some.length c.args.left.now c.count_down.new.left c.args.members.now c.push_member.new.members c.in-Some.member around few c.requires.more c.count_down.ensures c.in_ok-push_member.ensures whole
