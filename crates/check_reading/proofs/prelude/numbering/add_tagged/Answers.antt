use Rattle.lists.proofs.Lemmas.{ok_then}
use Rattle.check_terms.specs.Table.{nothing, no_part}
use Rattle.check_reading.proofs.OfPrelude.Standing.{further}
use Rattle.check_reading.proofs.prelude.numbering.add_tagged.Goals as goal

pub returns-clause-stands : goal.returns-clause-stands
returns-clause-stands c = ok_then c.add_node.result _ _ (λ n stands. stands _ nothing c.in_ok-content.ensures.stands no_part) c.add_node.ensures.stands

pub returns-clause-grows : goal.returns-clause-grows
returns-clause-grows c = further c.in_ok-content.ensures.grows c.add_node.ensures.grows
