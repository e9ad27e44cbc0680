use Rattle.cbor_data.proofs.ByDeterministic.{same_by_deterministic}
use Rattle.cbor_data.proofs.same_by_deterministic.Goals as goal

pub returns : goal.returns
returns c = same_by_deterministic
