use Rattle.std.proofs.Common.{map, refl}
use Rattle.cddl_token.specs.Answers.{span}
use Rattle.cddl_tree.proofs.Ending.{tokens_end}
use Rattle.cddl_tree.proofs.parser.tokens_end.Goals as goal

pub returns : goal.returns
returns c s ts h = tokens_end s 0 (map span ts) h.1 ts refl
