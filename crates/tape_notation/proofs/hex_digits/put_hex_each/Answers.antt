use Rattle.std.proofs.Common.{◌≡◌, ◌+◌, ◌-◌, [], take, drop, length, arith, sym, subst}
use Rattle.hex.specs.Hex.{encode_lower}
use Rattle.tape_notation.specs.Put.{IsPut}
use Rattle.tape_notation.proofs.Puts.{encode_lower-append, encode_lower-nil, front_room, none_put, rest_room, run_more, same_put}
use Rattle.tape_notation.proofs.hex_digits.put_hex_each.Goals as goal

pub loop-i-init : goal.loop-i-init
loop-i-init c = same_put [] (encode_lower []) (sym encode_lower-nil) (none_put c.args.out.now c.args.at (omega (arith, c.requires)))

pub put_hex_run-end-requires-clause-room : goal.put_hex_run-end-requires-clause-room
put_hex_run-end-requires-clause-room c =
    let b = c.args.bytes.now in
    let l = c.loop-i in
    let left = rest_room encode_lower encode_lower-append c.args.out.now l.out c.args.at l.i l.end b c.requires l.invariant in
    front_room encode_lower encode_lower-append l.end (length l.out) ((l.i + 1) - l.i) (drop l.i b) left

pub loop-i-preserved : goal.loop-i-preserved
loop-i-preserved c =
    let b = c.args.bytes.now in
    let l = c.loop-i in
    let same : (l.i + 1) - l.i ≡ 1 = omega arith in
    run_more encode_lower encode_lower-append c.args.out.now l.out c.put_hex_run-end.new.out c.args.at l.i 1 l.end c.put_hex_run-end.result b l.invariant
    (subst (λ k. IsPut l.out c.put_hex_run-end.new.out l.end (encode_lower (take k (drop l.i b))) c.put_hex_run-end.result) same c.put_hex_run-end.ensures)
