use Rattle.std.proofs.Common.{arith}
use Rattle.std.proofs.lemmas.Option.{IfSome_then}
use Rattle.read_items.proofs.OfWhole.Lemmas.{small_part}
use Rattle.cbor_tape.proofs.Leaves.{uint_leaf, nint_leaf, bytes_leaf, text_leaf, last_leaf}
use Rattle.cbor_tape.proofs.leaf.leaf_end.Goals as goal

pub returns-in-0 : goal.returns-in-0
returns-in-0 c = uint_leaf c.args.bytes.now c.args.at c.args.argument c.args.start c.requires.head c.in-0.is

pub returns-in-1 : goal.returns-in-1
returns-in-1 c = nint_leaf c.args.bytes.now c.args.at c.args.argument c.args.start c.requires.head c.in-1.is

pub returns-in-2 : goal.returns-in-2
returns-in-2 c =
    let b = c.args.bytes.now in
    IfSome_then c.bytes_end.result c.bytes_end.ensures (λ end s. bytes_leaf b c.args.at c.args.argument c.args.start end (small_part b (λ i. omega (arith, c.type_inv.bytes i)) c.args.start) c.requires.head c.in-2.is s)

pub returns-in-3 : goal.returns-in-3
returns-in-3 c =
    let b = c.args.bytes.now in
    IfSome_then c.text_end.result c.text_end.ensures (λ end s. text_leaf b c.args.at c.args.argument c.args.start end (small_part b (λ i. omega (arith, c.type_inv.bytes i)) c.args.start) c.requires.head c.in-3.is s)

pub returns-in-7 : goal.returns-in-7
returns-in-7 c = IfSome_then c.last_end.result c.last_end.ensures (λ end s. last_leaf c.args.bytes.now c.args.at c.args.argument c.args.start end c.requires.head c.in-7.is s.1 s.0)
