use Rattle.std.proofs.Common.{subst}
use Rattle.graphs.specs.Implications.Search.{IsEnded, state}
use Rattle.graphs.proofs.OfImplications.Steps.{are_following}
use Rattle.graphs.proofs.implications.following.Goals as goal

pub returns : goal.returns
returns c =
    let ended = subst (λ n. IsEnded n c.in_ok-rules.rules.implications.now (state c.run.new.self)) c.in_ok-rules.ensures.facts c.in_ok-run.ensures in
    are_following c.args.facts c.args.implications.now (state c.run.new.self) (subst (λ is. IsEnded c.args.facts is (state c.run.new.self)) c.in_ok-rules.ensures.implications ended)
