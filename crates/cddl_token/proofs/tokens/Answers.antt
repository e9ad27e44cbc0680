use Rattle.cddl_token.proofs.SourceFacts.{all_answered, all_in_order}
use Rattle.cddl_token.proofs.tokens.Goals as goal

pub returns-in-Ok-clause-answered : goal.returns-in-Ok-clause-answered
returns-in-Ok-clause-answered c = all_answered (λ v. v.items) c.args.source.now c.scan.result c.scan.ensures

pub returns-in-Ok-clause-in_order : goal.returns-in-Ok-clause-in_order
returns-in-Ok-clause-in_order c = all_in_order (λ v. v.items) c.args.source.now c.scan.result c.scan.ensures
