use Rattle.tree_nodes.proofs.Lemmas.{views}
use Rattle.std.proofs.Common.{refl}
use Rattle.source_pieces.proofs.node.inner_node.Goals as goal

pub returns-in-Typed : goal.returns-in-Typed
returns-in-Typed c = λ read. simp (c.in-Typed.is, views) refl

pub returns-in-Keyed : goal.returns-in-Keyed
returns-in-Keyed c = λ read. simp (c.in-Keyed.is, views) refl

pub returns-in-Grouped : goal.returns-in-Grouped
returns-in-Grouped c = λ read. simp (c.in-Grouped.is, views) refl
