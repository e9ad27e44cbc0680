use Rattle.std.proofs.Common.{◌++◌, ◌∙◌, ap, string_bytes}
use Rattle.std.proofs.lemmas.Result.{IfOk-weaker}
use Rattle.cddl_explain.proofs.refusals.wrong.Goals as goal

pub returns : goal.returns
returns c =
    IfOk-weaker c.format.result _ _
    (λ told h. record {
      hint = string_bytes c.in_ok-hint.hint;
      is_hint = c.in_ok-hint.ensures;
      is = h ∙ ap (λ s. s ++ string_bytes c.in_ok-hint.hint) c.in_ok-said.ensures;
    })
    c.format.ensures.ok
