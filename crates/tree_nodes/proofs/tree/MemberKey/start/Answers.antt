use Rattle.tree_nodes.proofs.Starting.{type_key_start}
use Rattle.tree_nodes.proofs.Lemmas.{views}
use Rattle.tree_nodes.proofs.tree.MemberKey.start.Goals as goal

pub returns-in-Bareword : goal.returns-in-Bareword
returns-in-Bareword c = simp (c.in-Bareword.is, views) c.start_of.ensures

pub returns-in-TypeKey : goal.returns-in-TypeKey
returns-in-TypeKey c = simp (c.in-TypeKey.is, views) (type_key_start _ _ _ _ c.start.ensures)

pub returns-in-ValueKey : goal.returns-in-ValueKey
returns-in-ValueKey c = simp (c.in-ValueKey.is, views) c.start-in-ValueKey.ensures
