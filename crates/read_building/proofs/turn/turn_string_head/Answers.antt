use Rattle.std.proofs.Common.{◌≡◌, ◌+◌, ◌-◌, ◌≤◌, length, take, drop, true, IfSome, IfNone, sym, ap, ◌∙◌, subst, arith}
use Rattle.std.specs.Str.{IsUtf8}
use Rattle.read_building.specs.Building as building
use Rattle.item_nodes.specs.View.{view}
use Rattle.read_building.specs.Stages.{stack_of, string_major, next_state}
use Rattle.read_building.proofs.Holding.{text_only}
use Rattle.read_building.proofs.WholeHeads.{heads, head_on, string_head_on, string_head_bad, after_string, string_small}
use Rattle.read_building.proofs.turn.turn_string_head.Goals as goal

pub returns-then-len-there : goal.returns-then-len-there
returns-then-len-there c =
    let K = stack_of c.args.frames.now.items in
    let b = c.args.rest.now in
    let t = c.args.is_text in
    let m = string_major t in
    let held = c.await_string.new.held.items in (
      head_on c.args.depth c.args.at m c.args.len c.args.end K b (next_state c.in_ok-next.next held (stack_of c.await_string.new.frames.items))
          (heads b m c.args.len c.args.end c.requires.kind c.requires.head) (string_small t) c.requires.room (c.in_ok-next.ensures.next ∙ sym (after_string t c.args.at c.args.len K)),
      c.in_ok-next.ensures.kept held,
    )

pub returns-in_ok-next-in-Some : goal.returns-in_ok-next-in-Some
returns-in_ok-next-in-Some c =
    let K = stack_of c.args.frames.now.items in
    let b = c.args.rest.now in
    let t = c.args.is_text in
    let m = string_major t in
    let held = c.args.held.now.items in
    let inside : c.args.end ≤ length b = c.requires.head.within in
    let same : take ((c.args.end + c.args.len) - c.args.end) (drop c.args.end b) ≡ take c.args.len (drop c.args.end b) = ap (λ k. take k (drop c.args.end b)) (omega arith) in
    let is : view c.in-Some.item ≡ building.string_of m (take ((c.args.end + c.args.len) - c.args.end) (drop c.args.end b)) = subst (λ o. IfSome o (λ x. view x ≡ building.string_of m (take ((c.args.end + c.args.len) - c.args.end) (drop c.args.end b)))) c.in-Some.is c.in_ok-item.ensures.some in
    let text : t ≡ true → IsUtf8 (take ((c.args.end + c.args.len) - c.args.end) (drop c.args.end b)) = subst (λ o. IfSome o (λ _. t ≡ true → IsUtf8 (take ((c.args.end + c.args.len) - c.args.end) (drop c.args.end b)))) c.in-Some.is c.in_ok-item.ensures.text in (
      string_head_on c.args.depth c.args.at c.args.len c.args.end t K b (next_state c.in_ok-next-in-Some.next held (stack_of c.end_item.new.frames.items))
          (heads b m c.args.len c.args.end c.requires.kind c.requires.head) c.requires.room (omega arith) (text_only t _ (λ e. subst IsUtf8 same (text e)))
          (c.in_ok-next-in-Some.ensures.next held ∙ (ap (λ x. building.give x K) is ∙ ap (λ s. building.give (building.string_of m s) K) same)),
      c.in_ok-next-in-Some.ensures.kept held,
    )

pub returns-in-None : goal.returns-in-None
returns-in-None c =
    let K = stack_of c.args.frames.now.items in
    let b = c.args.rest.now in
    let t = c.args.is_text in
    let inside : c.args.end ≤ length b = c.requires.head.within in
    let same : take ((c.args.end + c.args.len) - c.args.end) (drop c.args.end b) ≡ take c.args.len (drop c.args.end b) = ap (λ k. take k (drop c.args.end b)) (omega arith) in
    let bad : (t ≡ true) × (IsUtf8 (take ((c.args.end + c.args.len) - c.args.end) (drop c.args.end b)) → ⊥) = subst (λ o. IfNone o ((t ≡ true) × (IsUtf8 (take ((c.args.end + c.args.len) - c.args.end) (drop c.args.end b)) → ⊥))) c.in-None.is c.in_ok-item.ensures.none in
    string_head_bad c.args.depth c.args.at c.args.len c.args.end K b (heads b 3 c.args.len c.args.end (c.requires.kind ∙ ap string_major bad.0) c.requires.head) c.requires.room (omega arith) (λ u. bad.1 (subst IsUtf8 (sym same) u))
