use Rattle.std.proofs.Common.{sym}
use Rattle.cbor_data.proofs.Reorders.{same_ordered}
use Rattle.cbor_data.proofs.SameSound.{same_length}
use Rattle.cbor_data.proofs.deterministic_length.Goals as goal

pub returns : goal.returns
returns c = λ x. sym (same_length (same_ordered x))
