use Rattle.tree_nodes.proofs.Lemmas.{views}
use Rattle.source_pieces.proofs.span.key_span.Goals as goal

pub returns-in-TypeKey : goal.returns-in-TypeKey
returns-in-TypeKey c = simp (c.in-TypeKey.is, views) c.type1_span.ensures

pub returns-in-Bareword : goal.returns-in-Bareword
returns-in-Bareword c = simp (c.in-Bareword.is, views) c.word_span.ensures

pub returns-in-ValueKey : goal.returns-in-ValueKey
returns-in-ValueKey c = simp (c.in-ValueKey.is, views) c.literal_span.ensures
