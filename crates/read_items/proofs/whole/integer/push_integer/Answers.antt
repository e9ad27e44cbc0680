use Rattle.std.proofs.Common.{arith}
use Rattle.item_nodes.specs.View.{view}
use Rattle.read_items.specs.Whole.Parts.{IsArgumentAt}
use Rattle.read_items.proofs.OfWhole.Items.{integer_item}
use Rattle.read_items.proofs.whole.integer.push_integer.Goals as goal

pub returns : goal.returns
returns c =
    let b = c.args.bytes.now in
    let at = c.args.at in
    let r = c.argument_at-number.result in
    let head : IsArgumentAt b at r.0 r.1 = c.argument_at-number.ensures (omega arith) in
    λ depth. record {
      member = c.integer_of.result;
      there = integer_item depth b at r.0 r.1 (view c.integer_of.result) head c.requires.integer c.integer_of.ensures.unsigned c.integer_of.ensures.negative;
      more = c.in_ok-push_part.ensures;
    }
