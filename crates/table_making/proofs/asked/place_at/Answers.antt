use Rattle.std.proofs.Common.{ap, ◌∙◌}
use Rattle.table_making.specs.Lookups.{flattened}
use Rattle.table_making.proofs.asked.place_at.Goals as goal

pub returns : goal.returns
returns c s r src is reaches =
    let p = c.place_of.ensures s.definitions s.root s.refs c.args.source.now.closed.now c.args.call r src.closed is reaches in
    (p.0, c.place_there.ensures ∙ ap flattened p.1, p.2)
