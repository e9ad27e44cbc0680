use Rattle.std.proofs.Common.{sym, subst}
use Rattle.table_making.specs.Shapes.{IsShape}
use Rattle.table_making.proofs.Shaping.{shape_there}
use Rattle.table_making.proofs.shape.shape_at.Goals as goal

pub returns-in-Some : goal.returns-in-Some
returns-in-Some c x h = subst (IsShape c.args.terms.now x) (sym c.shape_of.ensures) (shape_there c.args.terms.now c.args.number x c.in-Some.row c.in-Some.ensures h)
