use Rattle.cddl_explain.specs.Parts.{refused}
use Rattle.cddl_explain.proofs.parts.tokens_of.Goals as goal

pub returns-in-Err-At-clause-tokens : goal.returns-in-Err-At-clause-tokens
returns-in-Err-At-clause-tokens c = refused _ _ (rw c.in-Err-At.field-0-is at c.in-Err-At.ensures.refused) c.new.ensures.items
