use Rattle.cbor_data.proofs.PreferredSpells.{sound_preferred}
use Rattle.cbor_data.proofs.preferred_spells.Goals as goal

pub returns : goal.returns
returns c = sound_preferred
