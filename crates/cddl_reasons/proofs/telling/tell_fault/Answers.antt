use Rattle.cddl_reasons.proofs.Tellings.{taken_some}
use Rattle.table_nodes.specs.Language.{language_of}
use Rattle.cddl_reasons.proofs.telling.tell_fault.Goals as goal

pub returns-then-not-is_wanted : goal.returns-then-not-is_wanted
returns-then-not-is_wanted c = λ first at a. rw c.forget.ensures (taken_some (language_of c.args.table.now) first c.args.aim.most c.args.run.now.last.mark.reasons c.args.found.now.list.items a)

pub returns : goal.returns
returns c = λ first at a. c.in_ok-tell_cause.ensures first c.cause_in-cause.ensures at (c.in_ok-tell_counts.ensures first at a)
