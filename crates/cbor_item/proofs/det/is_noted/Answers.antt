use Rattle.std.proofs.Common.{◌∙◌}
use Rattle.cbor_item.proofs.Noted.{noted_key}
use Rattle.cbor_item.proofs.det.is_noted.Goals as goal

pub returns : goal.returns
returns c = c.contains_key.ensures ∙ noted_key c.args.key.now.items c.args.noted.now.entries
