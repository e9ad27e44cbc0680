use Rattle.cddl_tool.proofs.Fronts.{tabled_front, unread_front}
use Rattle.cddl_tool.proofs.laws.front_tells.Goals as goal

pub returns-clause-tabled : goal.returns-clause-tabled
returns-clause-tabled c = tabled_front

pub returns-clause-unread : goal.returns-clause-unread
returns-clause-unread c = unread_front
