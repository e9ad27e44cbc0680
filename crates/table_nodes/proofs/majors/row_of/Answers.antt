use Rattle.table_nodes.specs.Majors.{form_shows, kept, told_in}
use Rattle.table_nodes.specs.Nodes.{type_view}
use Rattle.table_nodes.proofs.Rowing.{eight}
use Rattle.table_nodes.proofs.majors.row_of.Goals as goal

pub returns : goal.returns
returns c = eight (λ m. kept (form_shows (λ n. told_in c.args.known.now n m) (type_view c.args.form.now) m)) _ _ _ _ _ _ _ _ c.form_tells.ensures c.form_tells-2.ensures c.form_tells-3.ensures c.form_tells-4.ensures c.form_tells-5.ensures c.form_tells-6.ensures c.form_tells-7.ensures c.form_tells-8.ensures
