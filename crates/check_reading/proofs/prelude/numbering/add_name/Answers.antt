use Rattle.lists.proofs.Lemmas.{ok_then}
use Rattle.check_terms.specs.Table.{nothing, no_part}
use Rattle.check_reading.proofs.OfPrelude.Standing.{further}
use Rattle.check_reading.proofs.prelude.numbering.add_name.Goals as goal

pub returns-clause-grows : goal.returns-clause-grows
returns-clause-grows c = further c.in_ok-arguments.ensures.grows (further c.in_ok-reference.ensures.grows c.add_node-3.ensures.grows)

pub returns-clause-stands : goal.returns-clause-stands
returns-clause-stands c =
    let arguments = c.in_ok-arguments.ensures.stands nothing nothing no_part no_part in
    let reference = c.in_ok-reference.ensures.stands _ nothing arguments no_part in
    ok_then c.add_node-3.result _ _ (λ n stands. stands _ nothing reference no_part) c.add_node-3.ensures.stands

pub returns-in_err-reference-clause-grows : goal.returns-in_err-reference-clause-grows
returns-in_err-reference-clause-grows c = further c.in_ok-arguments.ensures.grows c.in_err-reference.ensures.grows

pub add_node-requires-2-clause-first : goal.add_node-requires-2-clause-first
add_node-requires-2-clause-first c = c.in_ok-arguments.ensures.row

pub add_node-requires-3-clause-first : goal.add_node-requires-3-clause-first
add_node-requires-3-clause-first c = c.in_ok-reference.ensures.row
