use Rattle.std.proofs.Common.{Some}
use Rattle.lists.proofs.Lemmas.{ok_then}
use Rattle.check_terms.specs.Table.{nothing, no_part}
use Rattle.check_reading.proofs.OfPrelude.Standing.{further, is_part}
use Rattle.check_reading.proofs.prelude.numbering.add_pair.Goals as goal

pub returns-clause-stands : goal.returns-clause-stands
returns-clause-stands c =
    let grown = further c.in_ok-nothing.ensures.grows c.in_ok-before.ensures.grows in
    let first = c.growing_keeps.ensures.tree _ _ (further c.in_ok-second.ensures.grows c.in_ok-nothing.ensures.grows) (Some c.in_ok-first.first) _ c.in_ok-first.ensures.stands in
    let second = c.growing_keeps.ensures.tree _ _ grown (Some c.in_ok-second.second) _ c.in_ok-second.ensures.stands in
    let none = c.in_ok-nothing.ensures.stands nothing nothing no_part no_part in
    let before = c.in_ok-before.ensures.stands _ _ none first in
    ok_then c.add_node-3.result _ _ (λ n stands. stands _ _ before second) c.add_node-3.ensures.stands

pub returns-in_err-second-clause-grows : goal.returns-in_err-second-clause-grows
returns-in_err-second-clause-grows c = further c.in_ok-first.ensures.grows c.in_err-second.ensures.grows

pub returns-in_err-nothing-clause-grows : goal.returns-in_err-nothing-clause-grows
returns-in_err-nothing-clause-grows c = further c.in_ok-first.ensures.grows (further c.in_ok-second.ensures.grows c.in_err-nothing.ensures.grows)

pub returns-in_err-before-clause-grows : goal.returns-in_err-before-clause-grows
returns-in_err-before-clause-grows c = further c.in_ok-first.ensures.grows (further c.in_ok-second.ensures.grows (further c.in_ok-nothing.ensures.grows c.in_err-before.ensures.grows))

pub returns-clause-grows : goal.returns-clause-grows
returns-clause-grows c = further c.in_ok-first.ensures.grows (further c.in_ok-second.ensures.grows (further c.in_ok-nothing.ensures.grows (further c.in_ok-before.ensures.grows c.add_node-3.ensures.grows)))

pub add_node-requires-2-clause-first : goal.add_node-requires-2-clause-first
add_node-requires-2-clause-first c = c.in_ok-nothing.ensures.row

pub add_node-requires-2-clause-second : goal.add_node-requires-2-clause-second
add_node-requires-2-clause-second c = c.growing_keeps.ensures.part _ _ (further c.in_ok-second.ensures.grows c.in_ok-nothing.ensures.grows) (Some c.in_ok-first.first) (is_part _ _ _ c.in_ok-first.ensures.stands)

pub add_node-requires-3-clause-first : goal.add_node-requires-3-clause-first
add_node-requires-3-clause-first c = c.in_ok-before.ensures.row

pub add_node-requires-3-clause-second : goal.add_node-requires-3-clause-second
add_node-requires-3-clause-second c = c.growing_keeps.ensures.part _ _ (further c.in_ok-nothing.ensures.grows c.in_ok-before.ensures.grows) (Some c.in_ok-second.second) (is_part _ _ _ c.in_ok-second.ensures.stands)
