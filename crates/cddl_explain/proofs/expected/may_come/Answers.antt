use Rattle.std.proofs.Common.{◌<◌, ◌≤◌, arith, refl}
use Rattle.std.proofs.lemmas.Bool.{eqb-true, eqb-false}
use Rattle.cddl_explain.proofs.Expecting.{refused_at_end, refused_before, whole_may}
use Rattle.cddl_explain.proofs.expected.may_come.Goals as goal

pub returns-in-Ok-clause-yes : goal.returns-in-Ok-clause-yes
returns-in-Ok-clause-yes c = λ _.
    let tree = rw (c.as_slice.ensures.value, c.in_ok-push-2.ensures.items, c.in_ok-push.ensures.items, c.in_ok-extend_from_slice.ensures.items, c.new-tokens.ensures.items) at c.in-Ok.ensures.tree in
    whole_may c.is_balanced.ensures.joined c.is_balanced.ensures.tree c.args.front.now c.args.token _ _ tree

pub returns-in-Err-At-clause-yes : goal.returns-in-Err-At-clause-yes
returns-in-Err-At-clause-yes c = λ last.
    let refused = rw (c.in-Err-At.field-0-is, c.as_slice.ensures.value, c.in_ok-push-2.ensures.items, c.in_ok-push.ensures.items, c.in_ok-extend_from_slice.ensures.items, c.new-tokens.ensures.items) at c.in-Err-At.ensures.refused in
    let first : c.args.token.start < c.max-end.result = omega arith in
    let bound : c.args.at ≤ c.max-end.result = omega arith in
    refused_at_end c.is_balanced.ensures.joined c.args.front.now c.args.token _ c.args.at c.max-end.result _ c.in-Err-At.refused refused c.requires.before first bound (eqb-true _ _ last)

pub returns-in-Err-At-clause-no : goal.returns-in-Err-At-clause-no
returns-in-Err-At-clause-no c = λ other.
    let refused = rw (c.in-Err-At.field-0-is, c.as_slice.ensures.value, c.in_ok-push-2.ensures.items, c.in_ok-push.ensures.items, c.in_ok-extend_from_slice.ensures.items, c.new-tokens.ensures.items) at c.in-Err-At.ensures.refused in
    refused_before c.is_balanced.ensures.joined c.args.front.now c.args.token _ c.max-end.result _ c.in-Err-At.refused refused refl (eqb-false _ _ other)
