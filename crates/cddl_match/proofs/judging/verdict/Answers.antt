use Rattle.std.proofs.Common.{refl, arith}
use Rattle.cddl_meaning.proofs.Lemmas.{said}
use Rattle.table_nodes.specs.Language.{language_of}
use Rattle.cddl_match.proofs.Decides.{decides}
use Rattle.cddl_match.proofs.Room.{room}
use Rattle.cddl_match.proofs.Turns.{replied}
use Rattle.cddl_match.proofs.Verdicts.{said_no, said_yes}
use Rattle.cddl_match.proofs.judging.verdict.Goals as goal

pub returns-in-Yes-clause-decided : goal.returns-in-Yes-clause-decided
returns-in-Yes-clause-decided c = decides c.args.table.now c.args.item.now (room c.args.item.now c.item-whole.ensures.sound)

pub returns-in-No-clause-decided : goal.returns-in-No-clause-decided
returns-in-No-clause-decided c = decides c.args.table.now c.args.item.now (room c.args.item.now c.item-whole.ensures.sound)

pub returns-in-Spent-clause-decided : goal.returns-in-Spent-clause-decided
returns-in-Spent-clause-decided c = decides c.args.table.now c.args.item.now (room c.args.item.now c.item-whole.ensures.sound)

pub returns-clause-decided : goal.returns-clause-decided
returns-clause-decided c = decides c.args.table.now c.args.item.now (room c.args.item.now c.item-whole.ensures.sound)

pub returns-in-Spent-clause-spent : goal.returns-in-Spent-clause-spent
returns-in-Spent-clause-spent c = λ e a w d.
    let spent = rw (c.root.ensures, c.item-whole.ensures.same) at c.in-Spent.ensures in
    spent _ w (said (language_of c.args.table.now) (room c.args.item.now c.item-whole.ensures.sound) d)

pub returns-in-Yes-clause-yes : goal.returns-in-Yes-clause-yes
returns-in-Yes-clause-yes c = λ e.
    let told = rw (c.root.ensures, c.item-whole.ensures.same) at c.in-Yes.ensures in
    (_, said_yes (language_of c.args.table.now) _ (room c.args.item.now c.item-whole.ensures.sound) refl (replied (language_of c.args.table.now) told.0), omega arith)

pub returns-in-No-clause-no : goal.returns-in-No-clause-no
returns-in-No-clause-no c = λ place e.
    let told = rw (c.root.ensures, c.item-whole.ensures.same) at c.in-No.ensures in
    (_, said_no (language_of c.args.table.now) _ (room c.args.item.now c.item-whole.ensures.sound) (cc e) (replied (language_of c.args.table.now) told.0), omega arith)
