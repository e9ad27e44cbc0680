use Rattle.std.proofs.Common.{arith, tests}
use Rattle.cbor_tape.specs.Keys.{mark_of}
use Rattle.cbor_tape.proofs.Walks.{all_other, one_further}
use Rattle.cbor_tape.proofs.keys.is_new.Goals as goal

pub returns-then-place-last : goal.returns-then-place-last
returns-then-place-last c = λ _. all_other c.args.bytes.now c.args.tape.now c.args.first c.loop.place c.args.last (mark_of c.args.key.now) c.loop.invariant c.if-place-last.true

pub loop-preserved : goal.loop-preserved
loop-preserved c = one_further c.args.bytes.now c.args.tape.now c.args.first c.loop.place c.in-Some.next c.args.last (mark_of c.args.key.now) c.loop.invariant c.if-place-last.false c.requires c.in-Some.ensures

pub returns : goal.returns
returns c = λ ends. all_other c.args.bytes.now c.args.tape.now c.args.first c.loop.place c.args.last (mark_of c.args.key.now) c.loop.invariant (omega (arith, tests))
