use Rattle.cbor_data.proofs.SameTold.{same_told}
use Rattle.cbor_data.proofs.same_or_not.Goals as goal

pub returns : goal.returns
returns c = same_told
