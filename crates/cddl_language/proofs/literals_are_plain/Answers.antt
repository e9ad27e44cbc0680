use Rattle.cddl_language.specs.Language.{language}
use Rattle.cddl_language.proofs.PlainLiterals.{node_plain}
use Rattle.cddl_language.proofs.literals_are_plain.Goals as goal
use Rattle.cddl_meaning.proofs.Lemmas.{plain_keys}

pub returns : goal.returns
returns c = λ worth ds. record { plain = node_plain worth ds; keys = plain_keys (language worth ds) (node_plain worth ds) }
