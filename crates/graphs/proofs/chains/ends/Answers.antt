use Rattle.std.proofs.Common.{subst, sym, ap, ◌∙◌, map}
use Rattle.lists.proofs.Lemmas.{ok_then}
use Rattle.graphs.specs.Chains.Chains.{AreEnds}
use Rattle.graphs.specs.Chains.Steps.{answer}
use Rattle.graphs.proofs.OfChains.Joining.{are_ends}
use Rattle.graphs.proofs.chains.ends.Goals as goal

pub returns : goal.returns
returns c = ok_then c.answers.result _ _ (λ v e. subst (AreEnds c.args.links.now c.args.most) (sym (e ∙ ap (map answer) c.deref.ensures.value)) (are_ends _ _ _ c.in_ok-last.ensures)) c.answers.ensures
