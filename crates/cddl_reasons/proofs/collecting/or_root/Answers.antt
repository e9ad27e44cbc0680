use Rattle.std.proofs.Common.{◌==◌, ◌∙◌, ap}
use Rattle.cddl_match.specs.Machine.{root_question}
use Rattle.cddl_reasons.proofs.Tellings.{first_some}
use Rattle.table_nodes.specs.Language.{language_of}
use Rattle.cddl_reasons.proofs.collecting.or_root.Goals as goal

pub returns-then-is_empty-clause-each : goal.returns-then-is_empty-clause-each
returns-then-is_empty-clause-each c = λ w d a. rw c.in_ok-push.ensures.items (first_some (language_of c.args.table.now) (root_question c.args.table.now c.args.item.now) c.args.most c.args.list.items c.in_ok-root_reason.field-0 c.is_empty.result a (c.in_ok-root_reason.ensures w d) (c.is_empty.ensures ∙ ap (λ n. n == 0) c.args.list.ok.0) c.if-is_empty.true c.if-most-eq0.false)
