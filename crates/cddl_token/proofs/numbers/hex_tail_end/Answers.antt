use Rattle.cddl_token.proofs.ShapeFacts.{hex_tail_from}
use Rattle.cddl_token.proofs.numbers.hex_tail_end.Goals as goal

pub returns-in-None : goal.returns-in-None
returns-in-None c = hex_tail_from c.args.source.now c.args.at c.hex_fraction_end.result c.in-None.ensures c.hex_fraction_end.ensures
