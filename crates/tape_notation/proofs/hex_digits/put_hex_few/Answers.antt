use Rattle.std.proofs.Common.{◌+◌, ◌≤◌, length, sym, subst}
use Rattle.std.proofs.lemmas.List.{take_rest}
use Rattle.hex.specs.Hex.{encode_lower}
use Rattle.tape_notation.specs.Put.{IsPut}
use Rattle.tape_notation.proofs.Puts.{encode_lower-append, front_room, front_rest, rest_room}
use Rattle.tape_notation.proofs.hex_digits.put_hex_few.Goals as goal

pub put_hex_run-end-requires-clause-room : goal.put_hex_run-end-requires-clause-room
put_hex_run-end-requires-clause-room c = front_room encode_lower encode_lower-append c.args.at (length c.args.out.now) 4 c.args.bytes.now c.requires

pub put_hex_each-requires-2 : goal.put_hex_each-requires-2
put_hex_each-requires-2 c =
    let b = c.args.bytes.now in
    let new = c.put_hex_run-end.new.out in
    let end = c.put_hex_run-end.result in
    subst (λ r. end + length (encode_lower r) ≤ length new) (sym (take_rest b 4)) (rest_room encode_lower encode_lower-append c.args.out.now new c.args.at 4 end b c.requires c.put_hex_run-end.ensures)

pub returns : goal.returns
returns c =
    let b = c.args.bytes.now in
    let mid = c.put_hex_run-end.new.out in
    let new = c.put_hex_each-2.new.out in
    front_rest encode_lower encode_lower-append c.args.out.now mid new c.args.at 4 c.put_hex_run-end.result c.put_hex_each-2.result b c.put_hex_run-end.ensures
    (subst (λ r. IsPut mid new c.put_hex_run-end.result (encode_lower r) c.put_hex_each-2.result) (take_rest b 4) c.put_hex_each-2.ensures)
