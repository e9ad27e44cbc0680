use Rattle.std.proofs.Common.{◌+◌, ◌≤◌, length, sym, subst}
use Rattle.std.proofs.lemmas.List.{take_rest}
use Rattle.std.proofs.lemmas.Grind.{flat_map-append}
use Rattle.std.specs.Prelude.{flat_map}
use Rattle.cbor_data.specs.Notation.{shown_byte}
use Rattle.tape_notation.specs.Put.{IsPut}
use Rattle.tape_notation.proofs.Puts.{front_room, front_rest, rest_room}
use Rattle.tape_notation.proofs.text.put_rest.Goals as goal

pub put_run-end-requires : goal.put_run-end-requires
put_run-end-requires c = front_room (flat_map shown_byte) (flat_map-append shown_byte) c.args.at (length c.args.out.now) 8 c.args.bytes.now c.requires

pub put_each-requires-2 : goal.put_each-requires-2
put_each-requires-2 c =
    let b = c.args.bytes.now in
    let new = c.put_run-end.new.out in
    let end = c.put_run-end.result in
    subst (λ r. end + length ((flat_map shown_byte) r) ≤ length new) (sym (take_rest b 8)) (rest_room (flat_map shown_byte) (flat_map-append shown_byte) c.args.out.now new c.args.at 8 end b c.requires c.put_run-end.ensures)

pub returns : goal.returns
returns c =
    let b = c.args.bytes.now in
    let mid = c.put_run-end.new.out in
    let new = c.put_each-2.new.out in
    front_rest (flat_map shown_byte) (flat_map-append shown_byte) c.args.out.now mid new c.args.at 8 c.put_run-end.result c.put_each-2.result b c.put_run-end.ensures
    (subst (λ r. IsPut mid new c.put_run-end.result ((flat_map shown_byte) r) c.put_each-2.result) (take_rest b 8) c.put_each-2.ensures)
