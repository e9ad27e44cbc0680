use Rattle.std.proofs.Common.{ap, ◌∙◌}
use Rattle.std.proofs.lemmas.Result.{IfOk-weaker}
use Rattle.near_words.specs.Near.{texts}
use Rattle.cddl_explain.specs.Expected.{asked, expected_words, phrases_of}
use Rattle.cddl_explain.proofs.expected.expectation.Goals as goal

pub returns : goal.returns
returns c =
    IfOk-weaker c.expected_words.result _ _
    (λ told is. asked c.in_ok-kinds.kinds.items c.if-front-gt-MOST_TOKENS.false c.in_ok-kinds.ensures
    (is ∙ ap expected_words (ap texts c.as_slice-2.ensures.value ∙ (c.in_ok-phrases.ensures ∙ ap phrases_of c.as_slice.ensures.value))))
    c.expected_words.ensures
