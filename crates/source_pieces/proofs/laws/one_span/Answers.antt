use Rattle.source_pieces.proofs.Ending.{one_span}
use Rattle.source_pieces.proofs.laws.one_span.Goals as goal

pub returns : goal.returns
returns c = one_span
