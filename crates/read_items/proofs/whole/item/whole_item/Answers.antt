use Rattle.std.proofs.Common.{◌≤◌, arith}
use Rattle.item_nodes.specs.View.{view}
use Rattle.read_items.specs.Whole.Parts.{IsItemAt}
use Rattle.read_items.specs.Whole.Whole.{IsWholeItem}
use Rattle.read_items.proofs.OfWhole.Items.{found_so, whole_front, deeper_front}
use Rattle.read_items.proofs.whole.item.whole_item.Goals as goal

pub returns : goal.returns
returns c =
    let b = c.args.bytes.now in
    let d = c.args.depth in
    let e = c.min.result in
    let less : e ≤ d = omega (arith, c.min.ensures) in
    found_so (λ r. IsItemAt e b 0 (view r.0) r.1) (λ r. IsWholeItem d b (view r.0) r.1) c.item_at.result (λ r s. deeper_front e d b (view r.0) r.1 less (whole_front e b (view r.0) r.1 s)) c.item_at.ensures
