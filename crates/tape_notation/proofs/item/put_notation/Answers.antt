use Rattle.std.proofs.Common.{arith}
use Rattle.cbor_tape.proofs.OfPlaces.Lemmas.{whole_on}
use Rattle.tape_notation.proofs.Longest.{whole_short}
use Rattle.tape_notation.proofs.item.put_notation.Goals as goal

pub put_item-requires : goal.put_item-requires
put_item-requires c =
    let w = c.requires.taped in
    record {
      item = w.1.value;
      on = whole_on w.0 c.args.bytes.now c.args.tape.now c.args.end w.1;
      room = omega (arith, whole_short w.0 c.args.bytes.now c.args.tape.now c.args.end w.1, c.requires.room);
    }

pub returns-clause-put : goal.returns-clause-put
returns-clause-put c = λ depth whole. c.put_item.ensures whole.value (whole_on depth c.args.bytes.now c.args.tape.now c.args.end whole)

pub returns-clause-short : goal.returns-clause-short
returns-clause-short c =
    let w = c.requires.taped in
    let put = c.put_item.ensures w.1.value (whole_on w.0 c.args.bytes.now c.args.tape.now c.args.end w.1) in
    omega (arith, put.placed, whole_short w.0 c.args.bytes.now c.args.tape.now c.args.end w.1)
