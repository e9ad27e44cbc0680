use Rattle.cbor_data.proofs.Unique.{unique_front}
use Rattle.cbor_data.proofs.one_front.Goals as goal

pub returns : goal.returns
returns c = unique_front
