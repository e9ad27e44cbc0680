use Rattle.std.proofs.Common.{Some}
use Rattle.lists.proofs.Lemmas.{ok_then}
use Rattle.check_terms.specs.Table.{nothing, no_part}
use Rattle.check_reading.proofs.OfPrelude.Standing.{further, is_part}
use Rattle.check_reading.proofs.prelude.numbering.add_keyed.Goals as goal

pub add_node-requires-2-clause-second : goal.add_node-requires-2-clause-second
add_node-requires-2-clause-second c = is_part _ _ _ (c.growing_keeps.ensures.tree _ _ c.in_ok-key.ensures.grows (Some c.in_ok-value.value) _ c.in_ok-value.ensures.stands)

pub returns-clause-stands : goal.returns-clause-stands
returns-clause-stands c =
    let value = c.growing_keeps.ensures.tree _ _ c.in_ok-key.ensures.grows (Some c.in_ok-value.value) _ c.in_ok-value.ensures.stands in
    let key = c.in_ok-key.ensures.stands nothing nothing no_part no_part in
    ok_then c.add_node-2.result _ _ (λ n stands. stands _ _ key value) c.add_node-2.ensures.stands

pub returns-in_err-key-clause-grows : goal.returns-in_err-key-clause-grows
returns-in_err-key-clause-grows c = further c.in_ok-value.ensures.grows c.in_err-key.ensures.grows

pub returns-clause-grows : goal.returns-clause-grows
returns-clause-grows c = further c.in_ok-value.ensures.grows (further c.in_ok-key.ensures.grows c.add_node-2.ensures.grows)

pub add_node-requires-2-clause-first : goal.add_node-requires-2-clause-first
add_node-requires-2-clause-first c = c.in_ok-key.ensures.row
