use Rattle.cddl_language.proofs.MapsNone.{something_wrong}
use Rattle.cddl_language.proofs.maps_without_alternatives.Goals as goal

pub returns : goal.returns
returns c = something_wrong
