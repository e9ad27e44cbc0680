use Rattle.std.proofs.Common.{Some}
use Rattle.lists.proofs.Lemmas.{ok_then}
use Rattle.check_reading.proofs.OfPrelude.Standing.{further, is_part}
use Rattle.check_reading.proofs.prelude.numbering.add_either.Goals as goal

pub add_node-requires-clause-first : goal.add_node-requires-clause-first
add_node-requires-clause-first c = is_part _ _ _ (c.growing_keeps.ensures.tree _ _ c.in_ok-second.ensures.grows (Some c.in_ok-first.first) _ c.in_ok-first.ensures.stands)

pub add_node-requires-clause-second : goal.add_node-requires-clause-second
add_node-requires-clause-second c = is_part _ _ _ c.in_ok-second.ensures.stands

pub returns-clause-stands : goal.returns-clause-stands
returns-clause-stands c =
    let first = c.growing_keeps.ensures.tree _ _ c.in_ok-second.ensures.grows (Some c.in_ok-first.first) _ c.in_ok-first.ensures.stands in
    ok_then c.add_node.result _ _ (λ n stands. stands _ _ first c.in_ok-second.ensures.stands) c.add_node.ensures.stands

pub returns-in_err-second-clause-grows : goal.returns-in_err-second-clause-grows
returns-in_err-second-clause-grows c = further c.in_ok-first.ensures.grows c.in_err-second.ensures.grows

pub returns-clause-grows : goal.returns-clause-grows
returns-clause-grows c = further c.in_ok-first.ensures.grows (further c.in_ok-second.ensures.grows c.add_node.ensures.grows)
