use Rattle.std.proofs.Common.{ap, ◌∙◌}
use Rattle.cbor_item.specs.Laying.{seen_entries}
use Rattle.cbor_item.proofs.Noted.{seen_insert}
use Rattle.cbor_item.proofs.det.insert.Goals as goal

pub returns-in-Ok : goal.returns-in-Ok
returns-in-Ok c = ap seen_entries c.in-Ok.ensures.entries ∙ seen_insert c.args.noted.now.entries c.args.key c.args.value
