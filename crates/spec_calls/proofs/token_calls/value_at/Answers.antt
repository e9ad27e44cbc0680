use Rattle.std.proofs.Common.{sym, subst, arith}
use Rattle.cddl_token.specs.Answers.{IsAnswered}
use Rattle.spec_calls.proofs.token_calls.value_at.Goals as goal

pub value-requires : goal.value-requires
value-requires c = subst IsAnswered (sym c.index.ensures) (c.requires.answered c.args.i c.index.result.now (omega (arith, c.args.found.now.ok.0)))
