use Rattle.std.proofs.Math.Facts.{Fits-lt-pow}
use Rattle.item_nodes.proofs.Bytes.{AreBytes-from}
use Rattle.item_nodes.proofs.ranges.note_bytes.Goals as goal

pub returns : goal.returns
returns c = AreBytes-from c.args.bytes.now (λ k. Fits-lt-pow (c.type_inv.bytes k))
