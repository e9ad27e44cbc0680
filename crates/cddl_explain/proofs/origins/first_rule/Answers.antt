use Rattle.std.proofs.Common.{sym, ◌∙◌}
use Rattle.cddl_explain.proofs.Ruling.{first_no_rule, first_other_name}
use Rattle.cddl_explain.proofs.origins.first_rule.Goals as goal
use Rattle.cddl_explain.proofs.origins.first_rule.Goals.{else-begins_rule-via-then-begins_rule+else-eq, else-begins_rule-via-else-begins_rule}

pub rule-preserved : goal.rule-preserved
rule-preserved c =
    let name = c.args.name.now in
    let ts = c.args.tokens.now in
    elim c.else-begins_rule.branch [
      | else-begins_rule-via-then-begins_rule+else-eq w ↦
          sym (first_other_name name w.name_of_token.result.now ts c.rule.k _ c.rule-test.true (sym c.begins_rule.ensures ∙ w.if-begins_rule.true) w.name_of_token.ensures (sym w.eq.ensures ∙ w.if-eq.false)) ∙ c.rule.invariant
      | else-begins_rule-via-else-begins_rule w ↦
          sym (first_no_rule name ts c.rule.k c.rule-test.true (sym c.begins_rule.ensures ∙ w.if-begins_rule.false)) ∙ c.rule.invariant
    ]
