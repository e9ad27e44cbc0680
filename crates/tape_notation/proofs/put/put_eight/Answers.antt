use Rattle.std.proofs.Common.{◌/◌, ◌%◌, length, decimal, arith}
use Rattle.tape_notation.specs.Put.{four_digits}
use Rattle.tape_notation.proofs.Decimals.{both_put, front_fits, last_four, rest_fits}
use Rattle.tape_notation.proofs.put.put_eight.Goals as goal

pub put_at_most_four-end-requires-clause-room : goal.put_at_most_four-end-requires-clause-room
put_at_most_four-end-requires-clause-room c =
    let n = c.args.n in
    front_fits c.args.at (length c.args.out.now) n (decimal (n / 10000)) (four_digits (n % 10000)) (last_four n c.if-n-lt10000.false (omega (arith, c.requires.short))) c.requires.room

pub put_four-requires-clause-room : goal.put_four-requires-clause-room
put_four-requires-clause-room c =
    let n = c.args.n in
    rest_fits n (decimal (n / 10000)) (four_digits (n % 10000)) (last_four n c.if-n-lt10000.false (omega (arith, c.requires.short))) c.requires.room c.put_at_most_four-end.ensures

pub returns : goal.returns
returns c =
    let n = c.args.n in
    both_put n (decimal (n / 10000)) (four_digits (n % 10000)) (last_four n c.if-n-lt10000.false (omega (arith, c.requires.short))) c.put_at_most_four-end.ensures c.put_four.ensures
