use Rattle.std.proofs.Common.{◌++◌, length, sym, ap}
use Rattle.std.specs.Prelude.{codes}
use Rattle.hex.specs.Hex.{encode_lower}
use Rattle.cbor_data.specs.Forms.{joined, meaning}
use Rattle.cbor_data.specs.Notation.{bytes_notation, notation}
use Rattle.tape_notation.proofs.Forms.{byte_chunks_there}
use Rattle.tape_notation.proofs.Puts.{room_for, room_front, room_left, same_put, three_put}
use Rattle.tape_notation.proofs.leaf.put_broken_bytes.Goals as goal

pub put-digits-requires : goal.put-digits-requires
put-digits-requires c =
    let w = c.requires.there in
    let u = byte_chunks_there c.args.bytes.now c.args.head w.form w.there c.requires.chunks in
    room_front c.args.at (length c.args.out.now) (codes "h'") (encode_lower (joined u.0) ++ codes "'")
    (room_for c.args.at (length c.args.out.now) (notation (meaning w.form)) (bytes_notation (joined u.0)) (ap notation u.2) w.room)

pub put_byte_chunks-end-requires : goal.put_byte_chunks-end-requires
put_byte_chunks-end-requires c =
    let w = c.requires.there in
    let u = byte_chunks_there c.args.bytes.now c.args.head w.form w.there c.requires.chunks in
    let all = room_for c.args.at (length c.args.out.now) (notation (meaning w.form)) (bytes_notation (joined u.0)) (ap notation u.2) w.room in
    record {
      chunks = u.0;
      there = u.1;
      room = room_front c.put-digits.result (length c.put-digits.new.out) (encode_lower (joined u.0)) (codes "'") (room_left (codes "h'") (encode_lower (joined u.0) ++ codes "'") all c.put-digits.ensures);
    }

pub put-requires : goal.put-requires
put-requires c =
    let w = c.requires.there in
    let u = byte_chunks_there c.args.bytes.now c.args.head w.form w.there c.requires.chunks in
    let all = room_for c.args.at (length c.args.out.now) (notation (meaning w.form)) (bytes_notation (joined u.0)) (ap notation u.2) w.room in
    room_left (encode_lower (joined u.0)) (codes "'") (room_left (codes "h'") (encode_lower (joined u.0) ++ codes "'") all c.put-digits.ensures) (c.put_byte_chunks-end.ensures u.0 u.1)

pub returns : goal.returns
returns c = λ f h.
    let u = byte_chunks_there c.args.bytes.now c.args.head f h c.requires.chunks in
    same_put (bytes_notation (joined u.0)) (notation (meaning f)) (ap notation (sym u.2)) (three_put (codes "h'") (encode_lower (joined u.0)) (codes "'") c.put-digits.ensures (c.put_byte_chunks-end.ensures u.0 u.1) c.put.ensures)
