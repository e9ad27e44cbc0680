use Rattle.tree_nodes.proofs.Lemmas.{views}
use Rattle.std.proofs.Common.{ap, ◌∙◌}
use Rattle.cddl_language.specs.Numbers.{before}
use Rattle.source_pieces.proofs.names.ref_name.Goals as goal

pub returns-in-Name : goal.returns-in-Name
returns-in-Name c = simp (c.in-Name.is, views) c.text_at.ensures

pub returns-in-Applied : goal.returns-in-Applied
returns-in-Applied c = simp (c.in-Applied.is, views) (c.opened_name.ensures ∙ ap (before 60) c.text_at-in-Applied.ensures)
