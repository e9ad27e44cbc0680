use Rattle.std.proofs.Common.{◌/◌, ◌%◌, ◌++◌, length, decimal, arith}
use Rattle.tape_notation.specs.Put.{four_digits}
use Rattle.tape_notation.proofs.Decimals.{both_put, front_fits, last_eight, rest_fits}
use Rattle.tape_notation.proofs.Puts.{more_put}
use Rattle.tape_notation.proofs.put.+put_digits.Goals as goal

pub put_digits-end-requires : goal.put_digits-end-requires
put_digits-end-requires t c =
    let n = c.args.n in (
      omega (arith, c.decreases, c.if-n-lt100000000.false),
      front_fits c.args.at (length c.args.out.now) n (decimal (n / 100000000)) (four_digits (n % 100000000 / 10000) ++ four_digits (n % 100000000 % 10000)) (last_eight n c.if-n-lt100000000.false (omega (arith, c.ranges.n.fits))) c.requires,
    )

pub put_four-after-requires-clause-room : goal.put_four-after-requires-clause-room
put_four-after-requires-clause-room t c =
    let n = c.args.n in
    omega (
      arith,
      rest_fits n (decimal (n / 100000000)) (four_digits (n % 100000000 / 10000) ++ four_digits (n % 100000000 % 10000)) (last_eight n c.if-n-lt100000000.false (omega (arith, c.ranges.n.fits))) c.requires c.put_digits-end.ensures,
    )

pub put_four-requires-clause-room : goal.put_four-requires-clause-room
put_four-requires-clause-room t c =
    let n = c.args.n in
    omega (
      arith,
      rest_fits n (decimal (n / 100000000)) (four_digits (n % 100000000 / 10000) ++ four_digits (n % 100000000 % 10000)) (last_eight n c.if-n-lt100000000.false (omega (arith, c.ranges.n.fits))) c.requires c.put_digits-end.ensures,
      c.put_four-after.ensures.placed,
      c.put_four-after.ensures.long,
    )

pub returns : goal.returns
returns t c =
    let n = c.args.n in
    both_put n (decimal (n / 100000000)) (four_digits (n % 100000000 / 10000) ++ four_digits (n % 100000000 % 10000)) (last_eight n c.if-n-lt100000000.false (omega (arith, c.ranges.n.fits))) c.put_digits-end.ensures
    (more_put c.put_digits-end.new.out c.put_four-after.new.out c.put_four.new.out c.put_digits-end.result c.put_four-after.result c.put_four.result (four_digits (n % 100000000 / 10000)) (four_digits (n % 100000000 % 10000)) c.put_four-after.ensures c.put_four.ensures)
