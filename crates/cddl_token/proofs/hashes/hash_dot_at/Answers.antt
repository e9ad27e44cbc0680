use Rattle.std.proofs.Common.{◌∙◌, arith}
use Rattle.cddl_token.proofs.HashFacts.{digit_token}
use Rattle.cddl_token.proofs.hashes.hash_dot_at.Goals as goal

pub returns-then-end-at : goal.returns-then-end-at
returns-then-end-at c = (digit_token c.args.source.now c.args.at c.uint_end-end.result c.requires.begins c.uint_end-end.ensures.bound c.if-end-at.true (λ e. c.if-byte_at-eq60.false (c.byte_at.ensures.value ∙ e)), omega arith)
