use Rattle.std.proofs.Common.{true, false, ap}
use Rattle.item_nodes.specs.View.{view}
use Rattle.table_nodes.specs.Language.{language_of}
use Rattle.table_nodes.specs.Majors.{told_view}
use Rattle.cddl_match.proofs.ByMajor.{kept_told}
use Rattle.cddl_match.proofs.looking.entry_tells.Goals as goal

pub returns-in-Yes-clause-told : goal.returns-in-Yes-clause-told
returns-in-Yes-clause-told c = λ form. kept_told (language_of c.args.table.now) (view c.args.item.now) true c.in-Yes.steps c.args.most c.within.result c.within.ensures (c.told_of.ensures (true, c.in-Yes.steps) (ap told_view c.in-Yes.is))

pub returns-in-No-clause-told : goal.returns-in-No-clause-told
returns-in-No-clause-told c = λ form. kept_told (language_of c.args.table.now) (view c.args.item.now) false c.in-No.steps c.args.most c.within-in-No.result c.within-in-No.ensures (c.told_of.ensures (false, c.in-No.steps) (ap told_view c.in-No.is))
