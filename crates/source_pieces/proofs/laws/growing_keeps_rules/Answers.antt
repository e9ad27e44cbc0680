use Rattle.source_pieces.proofs.Reading.{rules_kept}
use Rattle.source_pieces.proofs.laws.growing_keeps_rules.Goals as goal

pub returns : goal.returns
returns c = λ old new g rs xs. rules_kept old new rs xs g
