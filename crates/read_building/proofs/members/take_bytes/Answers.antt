use Rattle.std.proofs.Common.{◌≡◌, ◌+◌, ◌-◌, ◌≤◌, length, take, drop, ap, ◌∙◌, arith, rules}
use Rattle.cbor_data.specs.Value.{bytes}
use Rattle.item_nodes.specs.View.{view}
use Rattle.item_nodes.specs.declared.item.Item.{the_lemmas}
use Rattle.item_nodes.specs.declared.item.Item.TheVariants.{Bytes}
use Rattle.read_items.specs.Whole.Parts.{IsArgumentAt}
use Rattle.read_building.proofs.Taking.{bytes_taken}
use Rattle.read_building.proofs.members.take_bytes.Goals as goal

pub returns-clause-taken : goal.returns-clause-taken
returns-clause-taken c =
    let b = c.args.bytes.now in
    let r = c.argument_at-len.result in
    let head : IsArgumentAt b 0 r.0 r.1 = c.argument_at-len.ensures (omega arith) in
    let inside : r.1 ≤ length b = head.within in
    let content = c.in_ok-content.content in
    let same : take ((r.1 + r.0) - r.1) (drop r.1 b) ≡ take r.0 (drop r.1 b) = ap (λ k. take k (drop r.1 b)) (omega arith) in
    let shown : view (Bytes content) ≡ bytes content.items = search (rules, the_lemmas) in
    let is : view (Bytes content) ≡ bytes (take r.0 (drop r.1 b)) = shown ∙ ap bytes (c.in_ok-content.ensures.items ∙ same) in
    λ depth at around.
    bytes_taken depth at b r.0 r.1 c.args.left.now c.count_down.new.left c.args.members.now c.push_member.new.members (Bytes content) around head c.requires.string (omega arith) is c.requires.more c.count_down.ensures c.in_ok-push_member.ensures
