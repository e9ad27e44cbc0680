use Rattle.std.proofs.Common.{◌∙◌, ap}
use Rattle.lists.proofs.Lemmas.{ok_then}
use Rattle.check_names.specs.Environment.Places.{lists}
use Rattle.check_names.specs.Environment.Names.{standing_from}
use Rattle.check_names.proofs.OfEnvironment.Adding.{are_names}
use Rattle.check_names.proofs.environment.environment.names.Goals as goal

pub returns : goal.returns
returns c =
    let ds = c.args.definitions.now in
    let known = ap lists c.deref.ensures.value ∙ c.in_ok-known.ensures in
    let own = ap lists c.deref-2.ensures.value ∙ c.in_ok-own.ensures in
    ok_then c.names_at.result _ _ (λ v e. are_names c.args.count c.args.known.now ds v.items (e ∙ ap (λ ks. standing_from 0 ds ks (lists c.deref-2.result.now)) known ∙ ap (standing_from 0 ds _) own)) c.names_at.ensures
