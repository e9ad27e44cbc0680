use Rattle.cbor_data.proofs.Unique.{unique}
use Rattle.cbor_data.proofs.one_item.Goals as goal

pub returns : goal.returns
returns c = λ x y a r b s p q e. unique a r b s p q e
