use Rattle.std.proofs.Common.{◌∙◌}
use Rattle.cddl_mismatch.proofs.Joining.{placed_by}
use Rattle.cddl_mismatch.proofs.telling.named_place.Goals as goal

pub returns : goal.returns
returns c = placed_by c.args.sources.now c.deref.result.now _ c.place.result (c.deref.ensures.value ∙ c.in_ok-chain.ensures) c.place.ensures.some c.place.ensures.none
