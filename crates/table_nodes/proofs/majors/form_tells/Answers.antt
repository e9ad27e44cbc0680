use Rattle.table_nodes.proofs.majors.form_tells.Goals as goal

pub returns-in-Choice : goal.returns-in-Choice
returns-in-Choice c = rw c.in-Choice.is (rw c.deref.ensures.value at c.members_tell.ensures)
