use Rattle.std.proofs.Common.{◌∙◌, ap, sym}
use Rattle.cddl_tree.specs.States.{rules_in}
use Rattle.cddl_tree.proofs.Whole.{not_done}
use Rattle.cddl_tree.proofs.parser.rules_of.Goals as goal

pub returns-in-Done : goal.returns-in-Done
returns-in-Done c = sym (ap rules_in (sym c.into_inner.ensures ∙ c.in-Done.is))

pub returns-in_default : goal.returns-in_default
returns-in_default c = not_done c.into_inner.result c.in_default.not-Done ∙ ap rules_in c.into_inner.ensures
