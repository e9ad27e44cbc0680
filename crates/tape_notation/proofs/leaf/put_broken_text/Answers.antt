use Rattle.std.proofs.Common.{◌++◌, length, sym, ap}
use Rattle.std.specs.Prelude.{codes, flat_map}
use Rattle.cbor_data.specs.Forms.{joined, meaning}
use Rattle.cbor_data.specs.Notation.{notation, shown_byte, text_notation}
use Rattle.tape_notation.proofs.Forms.{text_chunks_there}
use Rattle.tape_notation.proofs.Puts.{room_for, room_front, room_left, same_put, three_put}
use Rattle.tape_notation.proofs.leaf.put_broken_text.Goals as goal

pub put-inner-requires : goal.put-inner-requires
put-inner-requires c =
    let w = c.requires.there in
    let u = text_chunks_there c.args.bytes.now c.args.head w.form w.there c.requires.chunks in
    room_front c.args.at (length c.args.out.now) (codes "\"") (flat_map shown_byte (joined u.0) ++ codes "\"")
    (room_for c.args.at (length c.args.out.now) (notation (meaning w.form)) (text_notation (joined u.0)) (ap notation u.2) w.room)

pub put_text_chunks-end-requires : goal.put_text_chunks-end-requires
put_text_chunks-end-requires c =
    let w = c.requires.there in
    let u = text_chunks_there c.args.bytes.now c.args.head w.form w.there c.requires.chunks in
    let all = room_for c.args.at (length c.args.out.now) (notation (meaning w.form)) (text_notation (joined u.0)) (ap notation u.2) w.room in
    record {
      chunks = u.0;
      there = u.1;
      room = room_front c.put-inner.result (length c.put-inner.new.out) (flat_map shown_byte (joined u.0)) (codes "\"") (room_left (codes "\"") (flat_map shown_byte (joined u.0) ++ codes "\"") all c.put-inner.ensures);
    }

pub put-requires : goal.put-requires
put-requires c =
    let w = c.requires.there in
    let u = text_chunks_there c.args.bytes.now c.args.head w.form w.there c.requires.chunks in
    let all = room_for c.args.at (length c.args.out.now) (notation (meaning w.form)) (text_notation (joined u.0)) (ap notation u.2) w.room in
    room_left (flat_map shown_byte (joined u.0)) (codes "\"") (room_left (codes "\"") (flat_map shown_byte (joined u.0) ++ codes "\"") all c.put-inner.ensures) (c.put_text_chunks-end.ensures u.0 u.1)

pub returns : goal.returns
returns c = λ f h.
    let u = text_chunks_there c.args.bytes.now c.args.head f h c.requires.chunks in
    same_put (text_notation (joined u.0)) (notation (meaning f)) (ap notation (sym u.2)) (three_put (codes "\"") (flat_map shown_byte (joined u.0)) (codes "\"") c.put-inner.ensures (c.put_text_chunks-end.ensures u.0 u.1) c.put.ensures)
