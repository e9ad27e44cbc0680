use Rattle.std.proofs.Common.{◌∙◌}
use Rattle.table_making.proofs.Shaping.{name_missing, name_there}
use Rattle.table_making.proofs.asked.is_group.Goals as goal
use Rattle.cddl_language.specs.Terms.{name_of}

pub returns-in-Some : goal.returns-in-Some
returns-in-Some c s r src is = c.is_group.ensures ∙ src.kinds_are.groups c.in-Some.name (name_of r) (name_there c.args.terms.now c.args.call r c.in-Some.name is c.in-Some.ensures)

pub returns-in-None : goal.returns-in-None
returns-in-None c s r src is = absurd (name_missing c.args.terms.now c.args.call r is c.in-None.ensures)
