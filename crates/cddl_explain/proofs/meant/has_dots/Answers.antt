use Rattle.std.proofs.Common.{sym, ◌∙◌, arith}
use Rattle.std.proofs.lemmas.List.{at_drop_all}
use Rattle.cddl_explain.specs.Meant.{has_dots}
use Rattle.cddl_explain.proofs.meant.has_dots.Goals as goal

pub returns : goal.returns
returns c = sym (at_drop_all has_dots c.args.name.now c.byte.k (omega arith)) ∙ c.byte.invariant
