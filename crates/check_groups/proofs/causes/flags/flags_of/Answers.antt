use Rattle.std.proofs.Common.{rules, ◌≡◌, ◌∙◌, ap, length, subst}
use Rattle.std.proofs.lemmas.Result.{IfOk-weaker}
use Rattle.graphs.specs.Implications.Implications.{AreFollowing}
use Rattle.check_groups.specs.Causes.Rules.{all_rules}
use Rattle.check_groups.proofs.causes.flags.flags_of.Goals as goal

pub returns : goal.returns
returns c =
    let causes = c.in_ok-causes.causes.items in
    let implications = c.deref-2.ensures.value ∙ c.in_ok-rules.ensures ∙ ap (all_rules 0) c.deref.ensures.value in
    let facts : c.len.result ≡ length causes = search rules in
    IfOk-weaker c.following.result _ _ (λ v f xs root refs k. (causes, c.in_ok-causes.ensures xs root refs k, subst (λ n. AreFollowing n (all_rules 0 causes) v.items) facts (subst (λ is. AreFollowing c.len.result is v.items) implications f))) c.following.ensures
