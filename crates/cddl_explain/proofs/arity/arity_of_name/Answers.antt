use Rattle.std.proofs.Common.{[], ◌∙◌, ap, codes, cond, sym}
use Rattle.std.proofs.lemmas.Result.{IfOk-weaker}
use Rattle.cddl_explain.specs.Arity.{arity, arity_words, bearer_of, last_rule}
use Rattle.cddl_explain.specs.Rules.{name_of_token}
use Rattle.cddl_explain.proofs.Hinting.{named_here}
use Rattle.cddl_explain.proofs.arity.arity_of_name.Goals as goal

pub returns-then-begins_rule : goal.returns-then-begins_rule
returns-then-begins_rule c =
    let here = c.args.here.now in
    let ts = c.args.tokens.now in
    let name = name_of_token c.in-Some.first.now.text.now in
    let of_rule = arity_words (arity here) (codes "parameter") (bearer_of name [] ts) in
    let of_use = arity_words (arity here) (codes "argument") (bearer_of name (last_rule [] c.args.before.now) ts) in
    let told_so = named_here c.args.before.now here ts c.in-Some.first.now (sym c.in-Some.ensures.value) ∙ ap (λ b. cond b of_rule of_use) (sym c.begins_rule.ensures ∙ c.if-begins_rule.true) in
    IfOk-weaker c.arity_words.result _ _
    (λ told is. is ∙ (ap (λ n. arity_words n (codes "parameter") c.bearer_of-bearer.result) c.arity-count.ensures ∙
    (ap (λ b. arity_words (arity here) (codes "parameter") b) (c.bearer_of-bearer.ensures ∙ ap (λ n. bearer_of n [] ts) c.name_of_token-name.ensures) ∙ sym told_so)))
    c.arity_words.ensures

pub returns : goal.returns
returns c =
    let here = c.args.here.now in
    let ts = c.args.tokens.now in
    let around = last_rule [] c.args.before.now in
    let name = name_of_token c.in-Some.first.now.text.now in
    let of_rule = arity_words (arity here) (codes "parameter") (bearer_of name [] ts) in
    let of_use = arity_words (arity here) (codes "argument") (bearer_of name around ts) in
    let told_so = named_here c.args.before.now here ts c.in-Some.first.now (sym c.in-Some.ensures.value) ∙ ap (λ b. cond b of_rule of_use) (sym c.begins_rule.ensures ∙ c.if-begins_rule.false) in
    IfOk-weaker c.arity_words-2.result _ _
    (λ told is. is ∙ (ap (λ n. arity_words n (codes "argument") c.bearer_of-bearer-2.result) c.arity-count.ensures ∙
    (ap (λ b. arity_words (arity here) (codes "argument") b) (c.bearer_of-bearer-2.ensures ∙ (ap (λ r. bearer_of c.name_of_token-name.result.now r ts) c.last_rule.ensures ∙ ap (λ n. bearer_of n around ts) c.name_of_token-name.ensures)) ∙ sym told_so)))
    c.arity_words-2.ensures
