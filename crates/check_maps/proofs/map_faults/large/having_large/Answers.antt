use Rattle.std.proofs.Common.{◌∙◌, length, subst}
use Rattle.std.proofs.lemmas.Result.{IfOk-weaker}
use Rattle.graphs.specs.Implications.Implications.{AreFollowing}
use Rattle.check_maps.proofs.OfMapFaults.Following.{having}
use Rattle.check_maps.proofs.map_faults.large.having_large.Goals as goal

pub returns : goal.returns
returns c =
    let parts = c.args.parts.now in
    let implications = c.deref.ensures.value ∙ c.in_ok-rules.ensures in
    IfOk-weaker c.following.result _ _ (λ v f are. having c.args.large.now parts are v.items (subst (λ is. AreFollowing (length parts) is v.items) implications f)) c.following.ensures
