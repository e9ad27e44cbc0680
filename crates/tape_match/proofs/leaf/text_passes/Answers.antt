use Rattle.std.proofs.Common.{sym}
use Rattle.tape_match.proofs.Left.{no_bits}
use Rattle.tape_match.proofs.leaf.text_passes.Goals as goal

pub returns-in-Bits : goal.returns-in-Bits
returns-in-Bits c = sym (rw c.in-Bits.is (no_bits c.args.bytes.now _))
