use Rattle.std.proofs.Common.{ap}
use Rattle.cbor_data.specs.Preferred.{preferred}
use Rattle.cbor_data.proofs.Apart.{valid_apart}
use Rattle.cbor_data.proofs.ByDeterministic.{same_by_deterministic}
use Rattle.cbor_data.proofs.Falls.{one_order}
use Rattle.cbor_data.proofs.SameSound.{sound_writable}
use Rattle.cbor_data.proofs.same_if_deterministic.Goals as goal

pub returns : goal.returns
returns c = λ x y s t. (λ d. ap preferred (one_order d (sound_writable y t) (valid_apart y t.valid)), same_by_deterministic x y (sound_writable x s) (sound_writable y t))
