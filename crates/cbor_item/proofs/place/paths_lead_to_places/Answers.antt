use Rattle.cbor_item.proofs.OfPlace.Leading.{path_leads, led_found}
use Rattle.cbor_item.proofs.place.paths_lead_to_places.Goals as goal

pub returns-clause-leads : goal.returns-clause-leads
returns-clause-leads c = path_leads

pub returns-clause-found : goal.returns-clause-found
returns-clause-found c = led_found
