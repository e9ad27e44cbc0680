use Rattle.std.proofs.Common.{refl, arith}
use Rattle.std.proofs.lemmas.List.{length-set}
use Rattle.cbor_tape.proofs.Listing.{all_listed, none_listed, one_listed}
use Rattle.cbor_tape.proofs.order.list.Goals as goal

pub loop-place-init : goal.loop-place-init
loop-place-init c = record {
  left = λ b. none_listed b c.args.tape.now c.args.first c.args.last c.args.room.now;
  within = omega arith;
}

pub loop-place-preserved : goal.loop-place-preserved
loop-place-preserved c =
    let l = c.loop-place in
    let pair = c.in_ok-pair.pair in
    record {
      left = λ b.
          one_listed b c.args.tape.now c.args.first l.place pair.next c.args.last l.room _ l.count (record { head = pair.head; next = l.count }) c.loop-place-test.true c.requires c.if-count-room.false (c.in_ok-pair.ensures b) refl refl (l.invariant.left b);
      within = omega (arith, length-set l.room l.count (record { head = pair.head; next = l.count }), c.if-count-room.false);
    }

pub returns-clause-listed : goal.returns-clause-listed
returns-clause-listed c = λ b.
    let l = c.loop-place in
    all_listed b c.args.tape.now c.args.first l.place c.args.last l.room l.count c.loop-place-test.false (l.invariant.left b)
