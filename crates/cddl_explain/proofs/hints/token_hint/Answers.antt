use Rattle.std.proofs.Common.{◌++◌, ◌∙◌, ap, string_bytes}
use Rattle.std.proofs.lemmas.Result.{IfOk-weaker}
use Rattle.cddl_explain.specs.Meant.{reading_words}
use Rattle.cddl_explain.specs.Spots.{last_of}
use Rattle.cddl_explain.proofs.hints.token_hint.Goals as goal

pub returns : goal.returns
returns c =
    let expected = string_bytes c.in_ok-expected.expected in
    let here = c.args.after.now in
    let comment = c.comment_words-comment.result.now in
    let reading = c.in_ok-reading.ensures ∙ ap (λ o. reading_words o here) c.last.ensures.value in
    IfOk-weaker c.format.result _ _
    (λ told h. (expected, c.in_ok-expected.ensures, h ∙ ap (λ s. expected ++ s) (ap (λ r. r ++ comment) reading ∙ ap (λ w. reading_words (last_of c.args.before.now) here ++ w) c.comment_words-comment.ensures)))
    c.format.ensures.ok
