use Rattle.cddl_match.specs.Machine.{root_question}
use Rattle.cddl_reasons.proofs.Tellings.{none_some}
use Rattle.table_nodes.specs.Language.{language_of}
use Rattle.cddl_reasons.proofs.collecting.pass_in.Goals as goal

pub turns-init : goal.turns-init
turns-init c = record {
  opened = rw (c.root.ensures, c.item-whole.ensures.same) at c.in_ok-run.ensures;
  found = rw c.new-found.ensures (none_some (language_of c.args.table.now) (root_question c.args.table.now c.args.item.now) c.args.aim.most);
}

pub turns-preserved : goal.turns-preserved
turns-preserved c = record {
  opened = c.in_ok-turn.ensures.opened c.if-not-branch.false (root_question c.args.table.now c.args.item.now) c.turns.invariant.opened;
  found = c.in_ok-turn.ensures.found (root_question c.args.table.now c.args.item.now) c.turns.invariant.opened c.turns.invariant.found;
}

pub returns-then-not-branch : goal.returns-then-not-branch
returns-then-not-branch c = c.in_ok-turn.ensures.found (root_question c.args.table.now c.args.item.now) c.turns.invariant.opened c.turns.invariant.found

pub returns : goal.returns
returns c = rw c.new-none.ensures (none_some (language_of c.args.table.now) (root_question c.args.table.now c.args.item.now) c.args.aim.most)
