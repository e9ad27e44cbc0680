use Rattle.std.proofs.Common.{◌≡◌, drop}
use Rattle.cddl_explain.specs.Parts.{token_part}
use Rattle.cddl_explain.proofs.parts.token_part.Given as goal

abbrev pub invariant-loop-token : goal.invariant-loop-token
invariant-loop-token l = token_part l.offset l.before (drop l.token-index l.tokens) ≡ token_part l.offset 0 l.tokens
