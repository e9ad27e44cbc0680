use Rattle.lists.proofs.Lemmas.{ok_then}
use Rattle.check_terms.specs.Table.{nothing, no_part}
use Rattle.check_reading.proofs.OfPrelude.Standing.{further}
use Rattle.check_reading.proofs.prelude.numbering.add_tagged_pair.Goals as goal

pub returns-in_err-array-clause-grows : goal.returns-in_err-array-clause-grows
returns-in_err-array-clause-grows c = further c.in_ok-pair.ensures.grows (further c.in_ok-group.ensures.grows c.in_err-array.ensures.grows)

pub returns-clause-grows : goal.returns-clause-grows
returns-clause-grows c = further (further c.in_ok-pair.ensures.grows c.in_ok-group.ensures.grows) (further c.in_ok-array.ensures.grows c.add_node-3.ensures.grows)

pub returns-clause-stands : goal.returns-clause-stands
returns-clause-stands c =
    let group = c.in_ok-group.ensures.stands _ nothing c.in_ok-pair.ensures.stands no_part in
    let array = c.in_ok-array.ensures.stands _ nothing group no_part in
    ok_then c.add_node-3.result _ _ (λ n stands. stands _ nothing array no_part) c.add_node-3.ensures.stands

pub returns-in_err-group-clause-grows : goal.returns-in_err-group-clause-grows
returns-in_err-group-clause-grows c = further c.in_ok-pair.ensures.grows c.in_err-group.ensures.grows
