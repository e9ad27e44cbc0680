use Rattle.std.proofs.Common.{subst}
use Rattle.std.proofs.lemmas.Result.{IfOk-weaker}
use Rattle.check_terms.specs.Definitions.{IsBody}
use Rattle.check_instances.proofs.OfClosed.Groups.{body_entry, body_types}
use Rattle.check_instances.proofs.closed.joining.body_group.Goals as goal

pub returns-in-Types-clause-stands : goal.returns-in-Types-clause-stands
returns-in-Types-clause-stands c =
    let t = c.args.terms.now in
    IfOk-weaker c.type_group.result _ _ (λ n f x h. body_types t c.type_group.new.terms c.in-Types.row n f x (subst (λ b. IsBody t b x) c.in-Types.is h)) c.type_group.ensures.stands

pub returns-in-Entry-clause-stands : goal.returns-in-Entry-clause-stands
returns-in-Entry-clause-stands c =
    let t = c.args.terms.now in
    IfOk-weaker c.entry_group.result _ _ (λ n f x h. body_entry t c.entry_group.new.terms c.in-Entry.row n f x (subst (λ b. IsBody t b x) c.in-Entry.is h)) c.entry_group.ensures.stands
