use Rattle.std.proofs.Common.{◌≡◌, ◌+◌, List, [], ◌∷◌, ◌++◌, Bor, ℕ, ap, drop, rules, subst, sym, ◌∙◌}
use Rattle.near_words.specs.Near.{texts}
use Rattle.cddl_explain.specs.Rules.{rule_names}
use Rattle.cddl_explain.proofs.Ruling.{names_passed, names_taken}
use Rattle.cddl_explain.proofs.rules.rule_names.Goals as goal
use Rattle.cddl_explain.proofs.rules.rule_names.Goals.{then-begins_rule+in_ok-push, else-begins_rule}

pub rule-preserved : goal.rule-preserved
rule-preserved c =
    let ts = c.args.tokens.now in
    let now = λ (names : List (Bor (List ℕ))). texts names ++ rule_names (drop (c.rule.k + 1) ts) ≡ rule_names ts in
    elim c.if-begins_rule.branch [
      | then-begins_rule+in_ok-push w ↦
          let pushed : c.if-begins_rule.names.items ≡ c.rule.names.items ++ w.name_of_token.result ∷ [] = search rules in
          subst now (sym pushed) (names_taken c.rule.names.items w.name_of_token.result ts c.rule.k _ (rule_names ts) c.rule-test.true (sym c.begins_rule.ensures ∙ w.if-begins_rule.true) w.name_of_token.ensures c.rule.invariant)
      | else-begins_rule w ↦
          let same : c.if-begins_rule.names.items ≡ c.rule.names.items = search rules in
          subst now (sym same) (ap (λ ys. texts c.rule.names.items ++ ys) (sym (names_passed ts c.rule.k c.rule-test.true (sym c.begins_rule.ensures ∙ w.if-begins_rule.false))) ∙ c.rule.invariant)
    ]
