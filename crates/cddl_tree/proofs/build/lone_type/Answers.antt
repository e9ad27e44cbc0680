use Rattle.cddl_tree.proofs.Pushing.{views}
use Rattle.cddl_tree.proofs.build.lone_type.Goals as goal

pub returns-in-None-clause-bare : goal.returns-in-None-clause-bare
returns-in-None-clause-bare c read = simp (c.in-Typed.is, c.in-None.is, views)

pub returns-in-Some-clause-other : goal.returns-in-Some-clause-other
returns-in-Some-clause-other c = (simp (c.in-Typed.is, c.in-Some.is), λ read. simp views)

pub returns-in-Keyed-clause-other : goal.returns-in-Keyed-clause-other
returns-in-Keyed-clause-other c = (simp c.in-Keyed.is, λ read. simp views)

pub returns-in-Grouped-clause-other : goal.returns-in-Grouped-clause-other
returns-in-Grouped-clause-other c = (simp c.in-Grouped.is, λ read. simp views)
