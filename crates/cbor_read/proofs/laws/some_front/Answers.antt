use Rattle.cbor_read.proofs.Somewhere.{some_front}
use Rattle.cbor_read.proofs.laws.some_front.Goals as goal

pub returns : goal.returns
returns c = λ l o b are placed. some_front l o b are placed
