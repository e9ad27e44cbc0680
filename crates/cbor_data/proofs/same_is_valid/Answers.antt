use Rattle.cbor_data.proofs.Apart.{same_valid}
use Rattle.cbor_data.proofs.same_is_valid.Goals as goal

pub returns : goal.returns
returns c = same_valid
