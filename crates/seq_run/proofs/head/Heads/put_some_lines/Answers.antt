use Rattle.std.proofs.Common.{arith}
use Rattle.seq_run.proofs.Heads.{in_hundred, last_of_hundred}
use Rattle.seq_run.proofs.head.Heads.put_some_lines.Goals as goal

pub returns-then-has-2-clause-put : goal.returns-then-has-2-clause-put
returns-then-has-2-clause-put c =
    let s = c.self.inside in
    let one = c.has.ensures c.if-has.true in
    let two = c.has-then-has.ensures c.if-has-2.true in
    c.put_near_lines-end.ensures.put s.number s.offset c.args.number c.args.offset c.self.invariant.0 (in_hundred s.numbers s.number c.args.number c.self.invariant.1.0 (omega (arith, c.self.ranges)) one.0 one.1)
    (in_hundred s.offsets s.offset c.args.offset c.self.invariant.1.1 (omega (arith, c.self.ranges)) two.0 two.1) (last_of_hundred s.numbers s.number c.args.number c.self.invariant.1.0 one.0 one.1) (last_of_hundred s.offsets s.offset c.args.offset c.self.invariant.1.1 two.0 two.1)
