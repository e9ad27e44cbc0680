use Rattle.std.proofs.Common.{ap}
use Rattle.cbor_data.specs.Preferred.{preferred}
use Rattle.cbor_data.proofs.Falls.{one_order}
use Rattle.cbor_data.proofs.Apart.{valid_apart}
use Rattle.cbor_data.proofs.one_deterministic.Goals as goal

pub returns : goal.returns
returns c = λ x y d w h. ap preferred (one_order d w (valid_apart y h))
