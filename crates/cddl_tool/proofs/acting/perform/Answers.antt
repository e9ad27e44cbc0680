use Rattle.cddl_tool.proofs.Telling.{is_not_other, with_stream}
use Rattle.std.proofs.Common.{inl, inr}
use Rattle.cddl_tool.proofs.acting.perform.Goals as goal

pub returns-in-Check-clause-answered : goal.returns-in-Check-clause-answered
returns-in-Check-clause-answered g c = λ other. absurd (other (inl c.in-Check.is))

pub returns-in-Check-clause-broken : goal.returns-in-Check-clause-broken
returns-in-Check-clause-broken g c = λ other. absurd (other (inl c.in-Check.is))

pub returns-in-Check-clause-explained : goal.returns-in-Check-clause-explained
returns-in-Check-clause-explained g c = λ other. absurd (is_not_other _ c.in-Check.is other)

pub returns-in-Explain-clause-accepted : goal.returns-in-Explain-clause-accepted
returns-in-Explain-clause-accepted g c = λ other. absurd (is_not_other _ other c.in-Explain.is)

pub returns-in-Explain-clause-answered : goal.returns-in-Explain-clause-answered
returns-in-Explain-clause-answered g c = λ other. absurd (other (inr c.in-Explain.is))

pub returns-in-Explain-clause-broken : goal.returns-in-Explain-clause-broken
returns-in-Explain-clause-broken g c = λ other. absurd (other (inr c.in-Explain.is))

pub returns-in-Validate-clause-accepted : goal.returns-in-Validate-clause-accepted
returns-in-Validate-clause-accepted g c = λ check. absurd (with_stream _ c.in-Validate.is (inl check))

pub returns-in-Validate-clause-explained : goal.returns-in-Validate-clause-explained
returns-in-Validate-clause-explained g c = λ check. absurd (with_stream _ c.in-Validate.is (inr check))

pub returns-in-Validate-clause-unread : goal.returns-in-Validate-clause-unread
returns-in-Validate-clause-unread g c = λ none. absurd (with_stream _ c.in-Validate.is none)
