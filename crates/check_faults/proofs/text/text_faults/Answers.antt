use Rattle.std.proofs.Common.{subst, sym}
use Rattle.std.proofs.lemmas.Result.{IfOk-weaker}
use Rattle.cddl_check.specs.Text.{AreTokensOf}
use Rattle.check_faults.specs.Text.{no_tokens}
use Rattle.check_faults.proofs.text.text_faults.Goals as goal

pub of_tokens-requires-clause-of_text : goal.of_tokens-requires-clause-of_text
of_tokens-requires-clause-of_text c = (c.args.text.now, subst (λ ts. AreTokensOf ts c.args.text.now) (sym c.deref.ensures.value) (record { tokenized = c.in-Ok.ensures.found; read = c.in-Ok.ensures.each }))

pub returns-in-Ok : goal.returns-in-Ok
returns-in-Ok c =
    IfOk-weaker c.of_tokens.result _ _
    (λ v h. h c.args.text.now (subst (λ ts. AreTokensOf ts c.args.text.now) (sym c.deref.ensures.value) (record { tokenized = c.in-Ok.ensures.found; read = c.in-Ok.ensures.each })))
    c.of_tokens.ensures

pub returns-in-Err-At : goal.returns-in-Err-At
returns-in-Err-At c = no_tokens _ _ (rw c.in-Err-At.field-0-is at c.in-Err-At.ensures.refused) c.new.ensures.items
