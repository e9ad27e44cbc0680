use Rattle.cddl_tool.proofs.ending.tell_end.Goals as goal

pub returns-in-Rewrite-clause-quiet : goal.returns-in-Rewrite-clause-quiet
returns-in-Rewrite-clause-quiet g c = λ other. absurd (other c.in-Rewrite.is)
