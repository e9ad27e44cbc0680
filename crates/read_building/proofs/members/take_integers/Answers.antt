use Rattle.std.proofs.Common.{◌≡◌, ◌-◌, ◌≤◌, length, take, drop, length-drop, false, sym, ap, ◌∙◌, arith}
use Rattle.std.proofs.lemmas.List.{take_all}
use Rattle.read_items.specs.Whole.Parts.{IsArgumentAt}
use Rattle.read_building.specs.Taking.{is_last}
use Rattle.read_building.proofs.Taking.{integer_taken}
use Rattle.read_building.proofs.members.take_integers.Goals as goal

pub loop-used-preserved : goal.loop-used-preserved
loop-used-preserved c =
    let l = c.loop-used in
    let b = c.args.bytes.now in
    let rest = take (length b - l.used) (drop l.used b) in
    let all : rest ≡ drop l.used b = take_all (length b - l.used) (drop l.used b) (omega (arith, length-drop l.used b)) in
    let r = c.argument_at-number.result in
    let head : IsArgumentAt rest 0 r.0 r.1 = c.argument_at-number.ensures (omega arith) in
    let goes : is_last l.left ≡ false = sym c.if-not-is_at_last.ensures in
    let of_rest : length rest ≡ length b - l.used = ap length all ∙ length-drop l.used b in
    let first : r.1 ≤ length rest = head.within in
    record {
      within = omega arith;
      taken = λ depth at around.
          integer_taken depth at _ b rest l.used r.1 r.0 l.left c.count_down.new.left l.members c.push_member.new.members c.integer_of-integer.result around all head (omega arith) c.integer_of-integer.ensures.unsigned c.integer_of-integer.ensures.negative goes c.count_down.ensures c.in_ok-push_member.ensures (l.invariant.taken depth at around);
    }
