use Rattle.std.proofs.Common.{option_map}
use Rattle.std.proofs.lemmas.Result.{IfOk-weaker}
use Rattle.cddl_mismatch.specs.Explained.{explained}
use Rattle.cddl_mismatch.proofs.Untold.{untold}
use Rattle.cddl_mismatch.proofs.explained.told_by_tokens.Goals as goal

pub returns-in-Ok : goal.returns-in-Ok
returns-in-Ok c = IfOk-weaker c.told_by_spec.result _ _ (λ told h. explained c.args.source.tokens.now c.in-Ok.spec c.requires.read c.in-Ok.ensures.read h) c.told_by_spec.ensures

pub returns-in-Err : goal.returns-in-Err
returns-in-Err c = IfOk-weaker c.untold.result _ _ (λ told h. untold c.args.source.text.now (option_map (λ r. r.now) c.args.source.root) c.args.source.file.now c.args.item.now c.args.steps _ c.in-Err.refusal (c.in-Err.ensures.unread c.args.source.text.now c.requires.read) h) c.untold.ensures
