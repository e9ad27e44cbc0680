use Rattle.source_pieces.proofs.Adding.{adds_one}
use Rattle.source_pieces.proofs.push.push.Goals as goal

pub returns : goal.returns
returns c = adds_one _ _ c.args.rule c.args.node c.in_ok-push.ensures.items
