use Rattle.std.proofs.Common.{◌++◌, ◌∙◌, ap, string_bytes}
use Rattle.std.proofs.lemmas.Result.{IfOk-weaker}
use Rattle.cddl_explain.specs.Meant.{round_words}
use Rattle.cddl_explain.proofs.hints.kind_hint.Goals as goal

pub returns : goal.returns
returns c =
    let origin = string_bytes c.in_ok-origin.origin in
    IfOk-weaker c.format.result _ _
    (λ told h. (origin, c.in_ok-origin.ensures, h ∙ ap (λ s. origin ++ s) (c.round_words-round.ensures ∙ ap round_words c.last.ensures.value)))
    c.format.ensures.ok
