use Rattle.std.proofs.Common.{◌≡◌, ◌+◌, ◌<◌, ◌^◌, count_ones, get_or, length, ap, arith}
use Rattle.match_tests.specs.Bits.{bits_in_first}
use Rattle.match_tests.proofs.OfBits.{more_counted, next_count, none_counted}
use Rattle.match_tests.proofs.bits.left_of_string.Goals as goal

pub loop-byte-init : goal.loop-byte-init
loop-byte-init c = omega (arith, none_counted c.args.bytes.now)

pub returns-in_default : goal.returns-in_default
returns-in_default c =
    let s = c.args.bytes.now in
    let i = c.loop-byte.byte-index in
    let small : get_or s i 0 < 2 ^ 8 = omega arith in
    let more = more_counted s (i + 1) (length s) (omega arith) in
    omega (arith, c.loop-byte.invariant, c.in_default.ensures, next_count s i small, more, ap count_ones c.from.ensures)

pub loop-byte-preserved : goal.loop-byte-preserved
loop-byte-preserved c =
    let s = c.args.bytes.now in
    let i = c.loop-byte.byte-index in
    let small : get_or s i 0 < 2 ^ 8 = omega arith in
    omega (arith, c.loop-byte.invariant, c.in-Some.ensures, next_count s i small, ap count_ones c.from.ensures)

pub returns : goal.returns
returns c =
    let s = c.args.bytes.now in
    let end : c.loop-byte.byte-index ≡ length s = omega arith in
    omega (arith, c.loop-byte.invariant, ap (λ n. length (bits_in_first s n)) end)
