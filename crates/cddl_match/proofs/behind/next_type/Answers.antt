use Rattle.std.proofs.Common.{ap, ◌∙◌}
use Rattle.table_nodes.specs.Nodes.{type_view}
use Rattle.cddl_match.proofs.Ways.{by_ref, only_type}
use Rattle.cddl_match.proofs.behind.next_type.Goals as goal

pub returns-in-Ref : goal.returns-in-Ref
returns-in-Ref c = λ l n e. by_ref l (e ∙ ap type_view c.in-Ref.is)

pub returns-in-Choice : goal.returns-in-Choice
returns-in-Choice c = only_type (type_view c.args.form.now) c.in-Choice.members.items c.only.result (ap type_view c.in-Choice.is) (rw c.deref.ensures.value at c.only.ensures)
