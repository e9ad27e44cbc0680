use Rattle.std.proofs.Common.{arith}
use Rattle.cbor_read.proofs.Turned.{kept_none}
use Rattle.cbor_read.proofs.reader.ItemReader.new.Goals as goal

pub invariant_of-result : goal.invariant_of-result
invariant_of-result c = λ _. kept_none c.args.limits 0 c.new-2.result c.new.result (omega arith) c.new-2.ensures (c.new.ensures c.args.limits.depth 0)
