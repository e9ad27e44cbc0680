use Rattle.tree_nodes.proofs.Lemmas.{views}
use Rattle.std.proofs.Common.{refl}
use Rattle.source_pieces.proofs.names.type1_name.Goals as goal

pub returns-in-One : goal.returns-in-One
returns-in-One c = simp (c.in-One.is, views) (rw c.deref.ensures at c.type2_name.ensures)

pub returns-in-Operation : goal.returns-in-Operation
returns-in-Operation c = simp (c.in-Operation.is, views) refl
