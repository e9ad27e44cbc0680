use Rattle.cbor_data.proofs.Reorders.{same_ordered}
use Rattle.cbor_data.proofs.ByDeterministic.{deterministic_spelled}
use Rattle.cbor_data.proofs.deterministic_spells.Goals as goal

pub returns : goal.returns
returns c = record { spells = deterministic_spelled; same = same_ordered }
