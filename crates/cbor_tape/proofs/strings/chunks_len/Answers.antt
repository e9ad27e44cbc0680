use Rattle.std.proofs.Common.{arith, refl}
use Rattle.cbor_tape.proofs.Contents.{all_counted, none_counted, one_counted}
use Rattle.cbor_tape.proofs.strings.chunks_len.Goals as goal

pub loop-init : goal.loop-init
loop-init c = record { counted = none_counted c.args.bytes.now c.args.start; few = omega arith; on = omega arith; within = omega arith }

pub returns-then-is_break-clause-there : goal.returns-then-is_break-clause-there
returns-then-is_break-clause-there c = all_counted c.args.bytes.now c.args.start c.loop.at c.loop.len c.loop.invariant.counted (c.if-is_break.ensures refl)

pub loop-preserved : goal.loop-preserved
loop-preserved c =
    let p = c.in_ok-piece in
    record {
      counted = one_counted c.args.bytes.now c.args.start c.loop.at c.loop.len p.end p.piece.now c.loop.invariant.counted p.ensures.there;
      few = omega (arith, p.ensures.on, c.loop.invariant.few);
      on = omega (arith, p.ensures.on, c.loop.invariant.on);
      within = p.ensures.within;
    }
