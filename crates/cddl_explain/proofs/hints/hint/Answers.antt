use Rattle.std.proofs.Common.{◌≡◌, ◌∙◌, ap, drop, option_map, string_bytes, subst, sym, take}
use Rattle.std.proofs.lemmas.Result.{IfOk-weaker}
use Rattle.cddl_explain.specs.Hints.{IsHint}
use Rattle.cddl_explain.specs.Spots.{after, before}
use Rattle.cddl_explain.proofs.Counting.{all_passed}
use Rattle.cddl_explain.proofs.Expecting.{AllBefore}
use Rattle.cddl_explain.proofs.Hinting.{kind_same, token_same}
use Rattle.cddl_explain.proofs.hints.hint.Goals as goal

pub token_hint-requires : goal.token_hint-requires
token_hint-requires c =
    let ts = c.args.tokens.now in
    let front : c.split_at.result.0.now ≡ before c.args.part.from ts = c.split_at.ensures.front ∙ ap (λ n. take n ts) c.passed.ensures.count in
    subst (AllBefore c.args.part.from) (sym front) (all_passed c.args.part.from ts)

pub returns-in-Unexpected-default : goal.returns-in-Unexpected-default
returns-in-Unexpected-default c =
    let ts = c.args.tokens.now in
    let at = c.args.part.from in
    let front : c.split_at.result.0.now ≡ before at ts = c.split_at.ensures.front ∙ ap (λ n. take n ts) c.passed.ensures.count in
    let back : c.split_at.result.1.now ≡ after at ts = c.split_at.ensures.back ∙ ap (λ n. drop n ts) c.passed.ensures.count in
    IfOk-weaker c.token_hint.result _ _
    (λ told h. subst (λ code. IsHint code c.args.text.now c.args.part ts (option_map (λ r. r.now) c.args.root) (string_bytes told)) (sym c.in-Unexpected-default.is-0)
    (token_same c.split_at.result.0.now (before at ts) c.split_at.result.1.now (after at ts) (string_bytes told) front back h))
    c.token_hint.ensures

pub returns-in-GroupAsType-default : goal.returns-in-GroupAsType-default
returns-in-GroupAsType-default c =
    let text = c.args.text.now in
    let part = c.args.part in
    let ts = c.args.tokens.now in
    let front : c.split_at.result.0.now ≡ before part.from ts = c.split_at.ensures.front ∙ ap (λ n. take n ts) c.passed.ensures.count in
    IfOk-weaker c.kind_hint.result _ _
    (λ told h. subst (λ code. IsHint code text part ts (option_map (λ r. r.now) c.args.root) (string_bytes told)) (sym c.in-GroupAsType-default.is-0)
    (kind_same text part c.split_at.result.0.now (before part.from ts) ts (string_bytes told) front h))
    c.kind_hint.ensures
