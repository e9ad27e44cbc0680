use Rattle.source_pieces.proofs.FilledPieces.{pieces_as}
use Rattle.source_pieces.proofs.laws.equal_terms.Goals as goal

pub returns : goal.returns
returns c = λ closed other t rs xs same. pieces_as closed other t t rs xs (record { texts = λ n y e. e; rows = λ n r e. e }) same
