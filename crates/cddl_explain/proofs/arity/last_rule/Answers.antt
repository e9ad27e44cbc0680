use Rattle.std.proofs.Common.{◌≡◌, ◌+◌, sym, ◌∙◌, ap, arith, true, false, drop}
use Rattle.std.proofs.lemmas.List.{at_drop_all}
use Rattle.cddl_explain.specs.Arity.{last_rule}
use Rattle.cddl_explain.proofs.Counting.{last_rule_at}
use Rattle.cddl_explain.proofs.Ruling.{rest_whole}
use Rattle.cddl_explain.proofs.arity.last_rule.Goals as goal
use Rattle.cddl_explain.proofs.arity.last_rule.Goals.{then-begins_rule, else-begins_rule}

pub rule-preserved : goal.rule-preserved
rule-preserved c =
    let ts = c.args.tokens.now in
    let rest = drop (c.rule.k + 1) ts in
    elim c.if-begins_rule.branch [
      | then-begins_rule w ↦
          let same : c.if-begins_rule.found.now ≡ drop c.rule.k ts = ap (λ b. b.now) w.found-is ∙ rest_whole ts c.rule.k in
          ap (λ xs. last_rule xs rest) same ∙ (sym (last_rule_at c.rule.found.now ts c.rule.k true c.rule-test.true (sym c.begins_rule.ensures ∙ w.if-begins_rule.true)) ∙ c.rule.invariant)
      | else-begins_rule w ↦
          let same : c.if-begins_rule.found.now ≡ c.rule.found.now = ap (λ b. b.now) w.found-is in
          ap (λ xs. last_rule xs rest) same ∙ (sym (last_rule_at c.rule.found.now ts c.rule.k false c.rule-test.true (sym c.begins_rule.ensures ∙ w.if-begins_rule.false)) ∙ c.rule.invariant)
    ]

pub returns : goal.returns
returns c = sym (at_drop_all (last_rule c.rule.found.now) c.args.tokens.now c.rule.k (omega arith)) ∙ c.rule.invariant
