use Rattle.std.proofs.Common.{subst, IfSome, ◌%◌, slice_index_or}
use Rattle.item_nodes.specs.View.{view}
use Rattle.read_items.specs.Whole.Parts.{IsSimpleOrFloat}
use Rattle.read_items.proofs.OfWhole.Lemmas.{is_info}
use Rattle.read_building.specs.Stages.{stack_of, next_state}
use Rattle.read_building.proofs.LastHeads.{last_on}
use Rattle.read_building.proofs.turn.turn_last.Goals as goal

pub simple_or_float-requires : goal.simple_or_float-requires
simple_or_float-requires c = is_info c.args.rest.now 0 c.args.argument c.args.end c.requires.head

pub returns-in_ok-next-in-Some : goal.returns-in_ok-next-in-Some
returns-in_ok-next-in-Some c =
    let K = stack_of c.args.frames.now.items in
    let b = c.args.rest.now in
    let held = c.args.held.now.items in
    let read = subst (λ f. IfSome f (λ x. IsSimpleOrFloat (slice_index_or b 0 0 % 32) c.args.argument (view x))) c.in-Some.is c.simple_or_float.ensures in (
      last_on c.args.depth c.args.at c.args.argument c.args.end (view c.in-Some.item) K b (next_state c.in_ok-next-in-Some.next held (stack_of c.end_item.new.frames.items)) c.requires.kind c.requires.head read c.requires.room (c.in_ok-next-in-Some.ensures.next held),
      c.in_ok-next-in-Some.ensures.kept held,
    )
