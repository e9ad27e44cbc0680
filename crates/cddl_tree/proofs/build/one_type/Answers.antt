use Rattle.cddl_tree.proofs.Pushing.{views}
use Rattle.cddl_tree.proofs.build.one_type.Goals as goal

pub returns : goal.returns
returns c read = simp (views, c.new.ensures.items, c.into_inner.ensures)
