use Rattle.std.proofs.Common.{refl}
use Rattle.item_nodes.specs.View.{view}
use Rattle.cbor_item.proofs.Plain.{spelled_sound}
use Rattle.cbor_item.proofs.sound.Sound.try_spelled.Goals as goal

pub invariant_of-result : goal.invariant_of-result
invariant_of-result c = spelled_sound (view c.args.item) c.requires.spelled c.requires.shallow c.in_ok-check_keys.ensures.ok

pub returns-clause-ok : goal.returns-clause-ok
returns-clause-ok c = (refl, spelled_sound (view c.args.item) c.requires.spelled c.requires.shallow c.in_ok-check_keys.ensures.ok)
