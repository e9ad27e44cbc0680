use Rattle.std.proofs.Common.{sym, subst}
use Rattle.cddl_language.specs.Substitution.{fill_body}
use Rattle.check_terms.specs.Definitions.{IsBody}
use Rattle.check_instances.proofs.Meaning.{pattern_filled}
use Rattle.check_instances.proofs.bodies.fill_at.Goals as goal

pub returns-clause-stands : goal.returns-clause-stands
returns-clause-stands c = λ all d ts e are trees. subst (λ b. IsBody c.fill.new.terms b (fill_body d.parameters ts d.body)) (sym c.with_row.ensures) (pattern_filled c.filled_trees.ensures.term c.filled_trees.ensures.entry c.args.terms.now c.fill.new.terms c.args.patterns.now all c.args.place c.in-Some.pattern.now c.args.arguments.now c.in_ok-row.row d ts (sym c.in-Some.ensures) c.in_ok-row.ensures.fills e are trees)
