use Rattle.std.proofs.Common.{Some, ap}
use Rattle.check_terms.specs.Table.{no_part}
use Rattle.source_pieces.proofs.Growing.{made}
use Rattle.source_pieces.proofs.origin.add_leaf.Goals as goal

pub returns-clause-stands : goal.returns-clause-stands
returns-clause-stands c = made c.add_node.result _ _ (ap Some c.text_at-text.ensures) no_part no_part c.add_node.ensures.stands
