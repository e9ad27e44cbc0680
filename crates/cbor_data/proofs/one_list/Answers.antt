use Rattle.cbor_data.proofs.Embedding.{one_embedded}
use Rattle.cbor_data.proofs.one_list.Goals as goal

pub returns : goal.returns
returns c = one_embedded
