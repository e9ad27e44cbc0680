use Rattle.cddl_tree.proofs.Pushing.{views}
use Rattle.cddl_tree.proofs.build.type2_of.Goals as goal

pub returns-in-Bare : goal.returns-in-Bare
returns-in-Bare c read = simp (c.in-Bare.is, views)

pub returns-in-Tilde : goal.returns-in-Tilde
returns-in-Tilde c read = simp (c.in-Tilde.is, views)

pub returns-in-Ampersand : goal.returns-in-Ampersand
returns-in-Ampersand c read = simp (c.in-Ampersand.is, views)
