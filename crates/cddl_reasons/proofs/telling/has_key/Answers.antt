use Rattle.std.proofs.Common.{◌∙◌}
use Rattle.cddl_reasons.proofs.Tellings.{any_key}
use Rattle.cddl_reasons.proofs.telling.has_key.Goals as goal

pub returns : goal.returns
returns c = c.any_has_key.ensures ∙ any_key c.args.key c.args.entries.now
