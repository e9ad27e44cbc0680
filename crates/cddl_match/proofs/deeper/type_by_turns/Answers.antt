use Rattle.std.proofs.Common.{arith}
use Rattle.item_nodes.specs.View.{view}
use Rattle.table_nodes.specs.Language.{language_of}
use Rattle.match_moves.specs.Views.{values}
use Rattle.cddl_match.proofs.Sayings.{type_yes}
use Rattle.cddl_match.proofs.deeper.type_by_turns.Goals as goal

pub returns-in-Takes : goal.returns-in-Takes
returns-in-Takes c =
    let told = rw c.in-Takes.is at c.in-Ok.ensures in
    type_yes (language_of c.args.table.now) c.args.place (view c.args.item.now) c.args.means.now.left c.replied_by_turns.new.means.left c.in-Takes.next c.in-Takes.far (values c.in-Takes.left.now) (omega (arith, c.ranges.place.fits)) told
