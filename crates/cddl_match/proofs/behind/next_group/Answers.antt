use Rattle.std.proofs.Common.{ap, ◌∙◌}
use Rattle.table_nodes.specs.Language.{language_of}
use Rattle.table_nodes.specs.Nodes.{group_view}
use Rattle.cddl_match.proofs.Ways.{by_group_ref, only_part, only_alternative}
use Rattle.cddl_match.proofs.behind.next_group.Goals as goal

pub returns-in-Ref : goal.returns-in-Ref
returns-in-Ref c = by_group_ref (language_of c.args.table.now) (c.in_ok-to.ensures.found ∙ ap group_view c.in-Ref.is)

pub returns-in-Sequence : goal.returns-in-Sequence
returns-in-Sequence c = only_part (language_of c.args.table.now) c.only.result (c.in_ok-to.ensures.found ∙ ap group_view c.in-Sequence.is) (rw c.deref.ensures.value at c.only.ensures)

pub returns-in-Alternatives : goal.returns-in-Alternatives
returns-in-Alternatives c = only_alternative (language_of c.args.table.now) c.only-in-Alternatives.result (c.in_ok-to.ensures.found ∙ ap group_view c.in-Alternatives.is) (rw c.deref-in-Alternatives.ensures.value at c.only-in-Alternatives.ensures)
