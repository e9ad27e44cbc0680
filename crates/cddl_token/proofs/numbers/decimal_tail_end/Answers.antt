use Rattle.cddl_token.proofs.ShapeFacts.{decimal_tail_from}
use Rattle.cddl_token.proofs.numbers.decimal_tail_end.Goals as goal

pub returns-in-None : goal.returns-in-None
returns-in-None c = decimal_tail_from c.args.source.now c.args.at c.fraction_end.result c.in-None.ensures c.fraction_end.ensures
