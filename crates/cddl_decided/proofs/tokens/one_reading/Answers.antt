use Rattle.std.proofs.Common.{map}
use Rattle.cddl_token.specs.Answers.{span}
use Rattle.cddl_decided.proofs.OfReadings.Tokens.{no_tree_there, tell_the_same}
use Rattle.cddl_decided.proofs.tokens.one_reading.Goals as goal

pub returns-clause-tree : goal.returns-clause-tree
returns-clause-tree c = λ s ts us p q x y tree other. tell_the_same s ts us (c.one_answer.ensures.tokens s (map span ts) (map span us) p.0 q.0) p q c.one_tree.ensures x y tree other

pub returns-clause-refused : goal.returns-clause-refused
returns-clause-refused c = λ s ts us p q. no_tree_there s ts us (c.one_answer.ensures.tokens s (map span ts) (map span us) p.0 q.0) p q
