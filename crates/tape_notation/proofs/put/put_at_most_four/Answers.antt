use Rattle.std.proofs.Common.{◌/◌, ◌%◌, length, decimal, arith}
use Rattle.tape_notation.specs.Put.{two_digits}
use Rattle.tape_notation.proofs.Decimals.{both_put, front_fits, last_two, rest_fits}
use Rattle.tape_notation.proofs.put.put_at_most_four.Goals as goal

pub put_short-end-requires-clause-room : goal.put_short-end-requires-clause-room
put_short-end-requires-clause-room c =
    let n = c.args.n in
    front_fits c.args.at (length c.args.out.now) n (decimal (n / 100)) (two_digits (n % 100)) (last_two n c.if-n-lt100.false (omega (arith, c.requires.short))) c.requires.room

pub put_pair-requires-clause-room : goal.put_pair-requires-clause-room
put_pair-requires-clause-room c =
    let n = c.args.n in
    rest_fits n (decimal (n / 100)) (two_digits (n % 100)) (last_two n c.if-n-lt100.false (omega (arith, c.requires.short))) c.requires.room c.put_short-end.ensures

pub returns : goal.returns
returns c =
    let n = c.args.n in
    both_put n (decimal (n / 100)) (two_digits (n % 100)) (last_two n c.if-n-lt100.false (omega (arith, c.requires.short))) c.put_short-end.ensures c.put_pair.ensures.put
