use Rattle.cbor_data.proofs.PreferredLength.{preferred_len}
use Rattle.cbor_data.proofs.preferred_length.Goals as goal

pub returns : goal.returns
returns c = preferred_len
