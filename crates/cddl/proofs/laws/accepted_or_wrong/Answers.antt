use Rattle.cddl.proofs.Texts.{OfFaults, OfReadings, OfTokens, OfTrees, neither, never_both, one_reason, one_root}
use Rattle.cddl.proofs.laws.accepted_or_wrong.Goals as goal

tokens : goal.After-one_outcome → OfTokens
tokens c = record { some = c.tokens_or_fault.ensures; one = c.one_answer.ensures.tokens; fault = c.one_answer.ensures.fault; apart = c.one_answer.ensures.apart }

trees : goal.After-one_outcome → OfTrees
trees c = record { some = c.some_answer.ensures; apart = c.one_answer-2.ensures.apart; refusal = c.one_answer-2.ensures.refusal; are_tokens = c.trees_are_of_tokens.ensures }

faults : goal.After-one_outcome → OfFaults
faults c = record { some = c.one_fault.ensures.some; same = c.one_fault.ensures.same; apart = c.one_fault.ensures.apart; values = c.one_table_of_values.ensures.some; accepted = c.one_outcome.ensures.accepted; refused = c.one_outcome.ensures.refused }

readings : goal.After-one_outcome → OfReadings
readings c = record { tree = c.one_reading.ensures.tree; refused = c.one_reading.ensures.refused }

pub returns-clause-either : goal.returns-clause-either
returns-clause-either c = neither (tokens c) (trees c) (faults c)

pub returns-clause-apart : goal.returns-clause-apart
returns-clause-apart c = never_both (tokens c) (trees c) (faults c) (readings c)

pub returns-clause-fault : goal.returns-clause-fault
returns-clause-fault c = one_reason (tokens c) (trees c) (faults c) (readings c)

pub returns-clause-rule : goal.returns-clause-rule
returns-clause-rule c = one_root (tokens c) (trees c) (faults c) (readings c)
