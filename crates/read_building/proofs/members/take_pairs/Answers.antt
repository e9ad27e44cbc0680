use Rattle.std.proofs.Common.{◌≡◌, ◌-◌, length, take, drop, length-drop, IfSome, ◌≤◌, false, sym, ap, ◌∙◌, subst, arith}
use Rattle.std.proofs.lemmas.List.{take_all}
use Rattle.item_nodes.specs.View.{view}
use Rattle.read_items.specs.Whole.Whole.{IsWholeItem}
use Rattle.read_building.specs.Taking.{is_last}
use Rattle.read_building.proofs.Taking.{pair_taken}
use Rattle.read_building.proofs.members.take_pairs.Goals as goal

pub loop-used-preserved : goal.loop-used-preserved
loop-used-preserved c =
    let l = c.loop-used in
    let b = c.args.bytes.now in
    let n = c.in-Some.after in
    let m = c.in-Some-2.length in
    let rest = take (length b - l.used) (drop l.used b) in
    let after = take (length rest - n) (drop n rest) in
    let all : rest ≡ drop l.used b = take_all (length b - l.used) (drop l.used b) (omega (arith, length-drop l.used b)) in
    let then : after ≡ drop n rest = take_all (length rest - n) (drop n rest) (omega (arith, length-drop n rest)) in
    let key : IsWholeItem c.args.room rest (view c.in-Some.key) n = subst (λ f. IfSome f (λ r. IsWholeItem c.args.room rest (view r.0) r.1)) c.in-Some.is c.in_ok-key.ensures in
    let worth : IsWholeItem c.args.room after (view c.in-Some-2.value) m = subst (λ f. IfSome f (λ r. IsWholeItem c.args.room after (view r.0) r.1)) c.in-Some-2.is c.in_ok-value.ensures in
    let goes : is_last l.left ≡ false = sym c.if-not-is_at_last.ensures in
    let of_rest : length rest ≡ length b - l.used = ap length all ∙ length-drop l.used b in
    let of_after : length after ≡ length rest - n = ap length then ∙ length-drop n rest in
    let first : n ≤ length rest = key.within in
    let second : m ≤ length after = worth.within in
    record {
      within = omega arith;
      taken = λ depth at around few.
          pair_taken depth at c.args.room _ b rest after l.used n m l.left c.count_down.new.left l.pairs c.push_pair.new.pairs c.in-Some.key c.in-Some-2.value around all then few goes c.count_down.ensures c.in_ok-push_pair.ensures (l.invariant.taken depth at around few) key worth;
    }
