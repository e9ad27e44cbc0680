use Rattle.lists.proofs.Lemmas.{ok_then}
use Rattle.check_terms.specs.Table.{nothing, no_part}
use Rattle.check_reading.proofs.prelude.numbering.add_meaning.Goals as goal

pub returns-in-Hash-clause-stands : goal.returns-in-Hash-clause-stands
returns-in-Hash-clause-stands c = rw c.in-Hash.is (ok_then c.add_node.result _ _ (λ n stands. stands nothing nothing no_part no_part) c.add_node.ensures.stands)
