use Rattle.cddl_match.specs.Open.{nothing}
use Rattle.cddl_match.proofs.Lemmas.{open_asked}
use Rattle.table_nodes.specs.Language.{language_of}
use Rattle.cddl_reasons.proofs.turns.begin.Goals as goal

pub returns : goal.returns
returns c = rw (c.new-below.ensures.items, c.in_ok-next.ensures, c.again.ensures) (open_asked (language_of c.args.table.now) nothing)
