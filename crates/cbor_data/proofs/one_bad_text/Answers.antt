use Rattle.cbor_data.proofs.BadText.{one_text}
use Rattle.cbor_data.proofs.one_bad_text.Goals as goal

pub returns : goal.returns
returns c = one_text
