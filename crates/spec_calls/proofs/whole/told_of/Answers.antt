use Rattle.std.proofs.Common.{sym, subst}
use Rattle.cddl_check.specs.Text.{AreTokensOf}
use Rattle.spec_calls.proofs.whole.told_of.Goals as goal

pub told_of_tokens-requires-clause-read : goal.told_of_tokens-requires-clause-read
told_of_tokens-requires-clause-read c = (
  c.args.source.now,
  subst (λ ts. AreTokensOf ts c.args.source.now) (sym c.deref.ensures.value) (record { tokenized = c.in_ok-found.ensures.found; read = c.in_ok-found.ensures.each }),
)
