use Rattle.cddl_token.proofs.IdFacts.{to_grammar, from_grammar}
use Rattle.cddl_token.proofs.id_by_grammar.Goals as goal

pub returns : goal.returns
returns c = λ s a b. (to_grammar s a b, from_grammar s a b)
