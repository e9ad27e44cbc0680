use Rattle.std.proofs.Common.{suc, arith}
use Rattle.std.proofs.Math.Nat.{mul-le-mul_left}
use Rattle.cddl_meaning.specs.Moves.{OfType}
use Rattle.cddl_meaning.proofs.OfRanks.Bytes.{size_preferred}
use Rattle.cddl_meaning.proofs.OfRanks.Frames.{few_are_open}
use Rattle.cddl_meaning.proofs.ranks.few_open.Goals as goal

pub returns-clause-size : goal.returns-clause-size
returns-clause-size c = λ _start l rank bound k first os m h. omega (arith, few_are_open l rank bound k first h)

pub returns-clause-bytes : goal.returns-clause-bytes
returns-clause-bytes c = λ _start l rank bound k n p x os m h. omega (arith, few_are_open l rank bound k (OfType n p x) h, mul-le-mul_left (suc bound) (size_preferred x))
