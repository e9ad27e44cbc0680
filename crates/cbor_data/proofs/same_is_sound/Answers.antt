use Rattle.cbor_data.proofs.SameSound.{same_sound}
use Rattle.cbor_data.proofs.same_is_sound.Goals as goal

pub returns : goal.returns
returns c = same_sound
