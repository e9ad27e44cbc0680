use Rattle.std.proofs.Common.{◌-◌, ◌≤◌, take, drop, length, arith, sym, ◌∙◌, subst, length-drop}
use Rattle.std.proofs.lemmas.List.{take_rest}
use Rattle.std.proofs.Math.Seq.{take-add}
use Rattle.std.proofs.KnownBytes.{Appends-trans}
use Rattle.std.specs.Io.KnownBytes.{Appends}
use Rattle.item_nodes.specs.Counted.{device_of, failures_of}
use Rattle.cbor_item.proofs.Going.{same_count}
use Rattle.cbor_item.proofs.write.write_bytes.Goals as goal

pub loop-at-preserved : goal.loop-at-preserved
loop-at-preserved g c =
    let bs = c.args.bytes.now in
    let at = c.loop-at.at in
    let n = c.in-Ok.taken in
    let w = c.in-Ok.ensures.bytes in
    let fits : n ≤ length (take (length bs - at) (drop at bs)) = c.in-Ok.ensures.bound in
    let fits_rest : n ≤ length (drop at bs) = subst (λ r. n ≤ length r) (take_rest bs at) fits in
    let contents = g.W.Write.contents in
    record {
      within = omega (arith, length-drop at bs);
      gone =
          subst (Appends (contents (device_of c.args.out.now)) (contents (device_of c.write.new.self))) (sym (take-add at n bs))
          (Appends-trans (contents (device_of c.args.out.now)) (contents (device_of c.loop-at.out)) (contents (device_of c.write.new.self)) (take at bs) (take n (drop at bs))
          c.loop-at.invariant.gone
          (subst (λ r. Appends (contents (device_of c.loop-at.out)) (contents (device_of c.write.new.self)) (take n r)) (take_rest bs at) w));
      count = same_count n (length (take (length bs - at) (drop at bs))) (failures_of c.loop-at.out) c.if-taken-gt0.true c.in-Ok.ensures.count ∙ c.loop-at.invariant.count;
    }
