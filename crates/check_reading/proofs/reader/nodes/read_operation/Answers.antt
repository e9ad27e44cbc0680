use Rattle.lists.proofs.Lemmas.{ok_then}
use Rattle.check_reading.proofs.OfReader.Growing.{grown, is_row, kept}
use Rattle.check_reading.proofs.reader.nodes.read_operation.Goals as goal

pub returns-in_err-second-clause-grows : goal.returns-in_err-second-clause-grows
returns-in_err-second-clause-grows c = grown _ _ _ c.in_ok-first.ensures.grows c.in_err-second.ensures.grows

pub add_operation-requires-clause-left : goal.add_operation-requires-clause-left
add_operation-requires-clause-left c = is_row (kept c.in_ok-second.ensures.grows c.in_ok-first.ensures.term)

pub add_operation-requires-clause-right : goal.add_operation-requires-clause-right
add_operation-requires-clause-right c = is_row c.in_ok-second.ensures.term

pub returns-clause-grows : goal.returns-clause-grows
returns-clause-grows c = grown _ _ _ c.in_ok-first.ensures.grows (grown _ _ _ c.in_ok-second.ensures.grows c.add_operation.ensures.grows)

pub returns-clause-term : goal.returns-clause-term
returns-clause-term c = ok_then c.add_operation.result _ _ (λ n h. h _ _ (kept c.in_ok-second.ensures.grows c.in_ok-first.ensures.term) c.in_ok-second.ensures.term) c.add_operation.ensures.term
