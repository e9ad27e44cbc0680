use Rattle.std.proofs.Common.{sym}
use Rattle.lists.proofs.Lemmas.{some_none}
use Rattle.source_places.proofs.Splicing.{is_alone, no_alone}
use Rattle.source_places.proofs.sources.TypesInText.alone_step.Goals as goal

pub returns-in_err-body-clause-all : goal.returns-in_err-body-clause-all
returns-in_err-body-clause-all c = λ i h. absurd (no_alone c.args.self.now c.args.piece i (λ n b. some_none (sym (c.in_err-body.ensures.all n b))) h)

pub returns-clause-some : goal.returns-clause-some
returns-clause-some c = λ there. is_alone c.args.self.now c.args.piece c.in_ok-name.name c.in_ok-body.body there c.in_ok-name.ensures.some.0 c.in_ok-name.ensures.some.1 c.in_ok-body.ensures.some c.if-name.false c.if-body.false
