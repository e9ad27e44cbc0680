use Rattle.std.proofs.Common.{◌≡◌, ◌+◌, ◌-◌, ◌≤◌, length, take, drop, length-drop, ap, ◌∙◌, arith}
use Rattle.std.proofs.lemmas.List.{take_all}
use Rattle.read_building.proofs.Taking.{still_taken, taken_more}
use Rattle.read_building.proofs.members.take_members.Goals as goal

pub returns-then-more-eq0 : goal.returns-then-more-eq0
returns-then-more-eq0 c =
    let l = c.loop-used in
    let b = c.args.bytes.now in
    let all = take_all (length b - l.used) (drop l.used b) (omega (arith, length-drop l.used b)) in
    λ depth at around few.
    still_taken depth at _ _ _ b _ l.used c.in_ok-more.more all c.if-more-eq0.true (l.invariant.taken depth at around few) (c.in_ok-more.ensures.taken depth (at + l.used) around few)

pub loop-used-preserved : goal.loop-used-preserved
loop-used-preserved c =
    let l = c.loop-used in
    let b = c.args.bytes.now in
    let rest = take (length b - l.used) (drop l.used b) in
    let all : rest ≡ drop l.used b = take_all (length b - l.used) (drop l.used b) (omega (arith, length-drop l.used b)) in
    let of_rest : length rest ≡ length b - l.used = ap length all ∙ length-drop l.used b in
    let first : c.in_ok-more.more ≤ length rest = c.in_ok-more.ensures.within in
    record {
      within = omega arith;
      taken = λ depth at around few.
          taken_more depth at _ _ _ b rest l.used c.in_ok-more.more all (l.invariant.taken depth at around few) (c.in_ok-more.ensures.taken depth (at + l.used) around few);
    }
