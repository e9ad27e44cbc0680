use Rattle.std.proofs.Common.{sym, ◌∙◌, ap, arith}
use Rattle.std.proofs.lemmas.List.{at_drop_all}
use Rattle.cddl_explain.specs.Roots.{begins_container, first_container}
use Rattle.cddl_explain.proofs.Ruling.{rest_whole}
use Rattle.cddl_explain.proofs.Wording.{no_container}
use Rattle.cddl_explain.proofs.roots.first_container.Goals as goal

pub rule-preserved : goal.rule-preserved
rule-preserved c =
    sym (no_container c.args.here c.args.tokens.now c.rule.k c.rule-test.true (sym (ap (begins_container c.args.here) (rest_whole c.args.tokens.now c.rule.k)) ∙ (sym c.begins_container.ensures ∙ c.if-begins_container.false))) ∙ c.rule.invariant

pub returns : goal.returns
returns c = sym (at_drop_all (first_container c.args.here) c.args.tokens.now c.rule.k (omega arith)) ∙ c.rule.invariant
