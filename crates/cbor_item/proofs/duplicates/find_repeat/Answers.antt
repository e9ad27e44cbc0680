use Rattle.item_nodes.specs.View.{view}
use Rattle.cbor_item.proofs.Plain.{few_places, plain_spelled}
use Rattle.cbor_item.proofs.duplicates.find_repeat.Goals as goal

pub walk-requires : goal.walk-requires
walk-requires c = record { plain = plain_spelled (view c.args.item.now) c.requires; room = few_places (view c.args.item.now) c.requires }
