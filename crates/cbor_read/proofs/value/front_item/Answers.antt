use Rattle.std.proofs.Common.{IfSome, arith, subst}
use Rattle.item_nodes.specs.View.{view}
use Rattle.read_items.specs.Whole.Whole.{IsWholeItem}
use Rattle.cbor_read.proofs.Fronts.{front_sound, front_item}
use Rattle.cbor_read.proofs.Pieces.{are_bytes}
use Rattle.cbor_read.proofs.value.front_item.Goals as goal

pub try_spelled-requires : goal.try_spelled-requires
try_spelled-requires c =
    let read = subst (λ f. IfSome f (λ r. IsWholeItem c.args.depth c.args.bytes.now (view r.0) r.1)) c.in-Some.is c.in_ok-item.ensures in
    let but = front_sound c.args.depth c.args.bytes.now c.in-Some.length (view c.in-Some.item) c.requires (omega arith) read in
    record { spelled = but.short; shallow = but.shallow }

pub returns-in-Ok : goal.returns-in-Ok
returns-in-Ok c =
    let b = c.args.bytes.now in
    let read = subst (λ f. IfSome f (λ r. IsWholeItem c.args.depth b (view r.0) r.1)) c.in-Some.is c.in_ok-item.ensures in
    front_item c.args.depth b c.in-Some.length (view c.in-Some.item) c.in-Ok.sound (are_bytes b (λ i. omega (arith, c.type_inv.bytes i))) read c.in-Ok.ensures.ok.0 c.in-Ok.ensures.ok.1
