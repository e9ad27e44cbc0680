use Rattle.std.proofs.Common.{List, subst, ◌∙◌}
use Rattle.graphs.specs.Implications.Implications.{AreFollowing}
use Rattle.graphs.specs.declared.implications.Implication.{Implication}
use Rattle.source_places.proofs.Splicing.{are_marked}
use Rattle.source_places.proofs.Stepping.{ok_then}
use Rattle.source_places.proofs.sources.TypesInText.marked.Goals as goal

pub returns : goal.returns
returns c =
    let x = c.args.self.now in
    ok_then c.following.result _ _ (λ v f. are_marked x c.args.number c.in_ok-steps.steps.items c.in_ok-steps.ensures v.items (subst (λ (is : List Implication). AreFollowing x.names is v.items) (c.deref.ensures.value ∙ c.in_ok-push.ensures.items) f)) c.following.ensures
