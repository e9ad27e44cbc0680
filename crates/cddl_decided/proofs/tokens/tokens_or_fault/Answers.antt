use Rattle.cddl_decided.proofs.OfTokens.Tokens.{some_tokens}
use Rattle.cddl_decided.proofs.tokens.tokens_or_fault.Goals as goal

pub returns : goal.returns
returns c = λ s none unrefused. some_tokens s none unrefused
