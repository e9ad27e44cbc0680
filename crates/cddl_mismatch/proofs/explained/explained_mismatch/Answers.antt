use Rattle.std.proofs.Common.{option_map, subst, sym}
use Rattle.std.proofs.lemmas.Result.{IfOk-weaker}
use Rattle.cddl_check.specs.Text.{AreTokensOf}
use Rattle.cddl_mismatch.proofs.Untold.{told_of_text, untold}
use Rattle.cddl_mismatch.proofs.explained.explained_mismatch.Goals as goal

pub told_by_tokens-requires-clause-read : goal.told_by_tokens-requires-clause-read
told_by_tokens-requires-clause-read c = subst (λ ts. AreTokensOf ts c.args.text.now) (sym c.as_slice.ensures.value) (record { tokenized = c.in-Ok.ensures.found; read = c.in-Ok.ensures.each })

pub returns-in-Err : goal.returns-in-Err
returns-in-Err c = record { told = IfOk-weaker c.untold.result _ _ (λ told h. untold c.args.text.now (option_map (λ r. r.now) c.args.root) c.args.file.now c.args.item.now c.args.steps _ c.in-Err.refusal (told_of_text c.args.text.now (option_map (λ r. r.now) c.args.root) c.in-Err.refusal c.in-Err.ensures.refused) h) c.untold.ensures }
