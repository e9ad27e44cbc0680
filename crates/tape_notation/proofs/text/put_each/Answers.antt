use Rattle.std.proofs.Common.{[], ◌++◌, get_or, length, arith, append-nil, sym}
use Rattle.std.proofs.lemmas.Grind.{flat_map-append}
use Rattle.std.specs.Prelude.{flat_map}
use Rattle.cbor_data.specs.Notation.{shown_byte}
use Rattle.tape_notation.proofs.Puts.{byte_more, byte_room, none_put, room_for, same_put}
use Rattle.tape_notation.proofs.text.put_each.Goals as goal

pub loop-i-init : goal.loop-i-init
loop-i-init c = none_put c.args.out.now c.args.at (omega (arith, c.requires))

pub put_shown_byte-end-requires : goal.put_shown_byte-end-requires
put_shown_byte-end-requires c =
    let b = c.args.bytes.now in
    let l = c.loop-i in
    let own = shown_byte (get_or b l.i 0) in
    room_for l.end (length l.out) (own ++ []) own (append-nil own) (byte_room (flat_map shown_byte) (flat_map-append shown_byte) c.args.out.now l.out c.args.at l.i l.end b c.requires (omega arith) l.invariant)

pub loop-i-preserved : goal.loop-i-preserved
loop-i-preserved c =
    let b = c.args.bytes.now in
    let l = c.loop-i in
    let own = shown_byte (get_or b l.i 0) in
    byte_more (flat_map shown_byte) (flat_map-append shown_byte) c.args.out.now l.out c.put_shown_byte-end.new.out c.args.at l.i l.end c.put_shown_byte-end.result b (omega arith) l.invariant
    (same_put own (own ++ []) (sym (append-nil own)) c.put_shown_byte-end.ensures)
