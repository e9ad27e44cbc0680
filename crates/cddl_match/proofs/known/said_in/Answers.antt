use Rattle.std.proofs.Common.{arith}
use Rattle.item_nodes.specs.View.{view}
use Rattle.cddl_match.proofs.ByMajor.{told_few, told_on}
use Rattle.cddl_match.proofs.known.said_in.Goals as goal

pub returns-in_default : goal.returns-in_default
returns-in_default c = λ l n told. told_few l c.args.place (view c.args.item.now) c.args.says c.args.steps c.args.means.now.left c.args.means.now.left told (omega (arith, c.ranges.place.fits)) (omega (arith, c.in_default.ensures, c.from.ensures))

pub returns : goal.returns
returns c = λ l n told. rw c.said_of.ensures (told_on l c.args.place (view c.args.item.now) c.args.says c.args.steps c.args.means.now.left c.in-Some.left told (omega (arith, c.ranges.place.fits)) (omega (arith, c.in-Some.ensures, c.from.ensures)))
