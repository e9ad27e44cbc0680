use Rattle.std.proofs.Common.{ap}
use Rattle.table_nodes.specs.Language.{language_of}
use Rattle.cddl_match.specs.Machine.{asked_in, found_in}
use Rattle.cddl_match.proofs.Needs.{wants_before}
use Rattle.cddl_match.proofs.Running.{finds_of, passed_run, step_of}
use Rattle.cddl_match.proofs.stack.step.Goals as goal

pub returns-clause-goes : goal.returns-clause-goes
returns-clause-goes c = λ e first run within.
    let l = language_of c.args.table.now in
    let p = c.pass_over.ensures in
    step_of l first c.args.steps c.pass_over.new.run c.args.run.now _ p.taken (ap (λ v. asked_in v.items) p.waiting) (c.take_turn.ensures.goes e first (passed_run l first c.args.run.now c.pass_over.new.run p.waiting p.taken p.owed (p.comes first) run) (rw p.taken within))

pub returns-clause-finds : goal.returns-clause-finds
returns-clause-finds c =
    let l = language_of c.args.table.now in
    let p = c.pass_over.ensures in
    finds_of l c.args.steps c.args.run.now c.pass_over.new.run (found_in c.take_turn.result c.take_turn.new.run.next) p.taken (λ first run. passed_run l first c.args.run.now c.pass_over.new.run p.waiting p.taken p.owed (p.comes first) run) c.take_turn.ensures.finds

pub returns-clause-memory : goal.returns-clause-memory
returns-clause-memory c = λ e. wants_before (language_of c.args.table.now) c.args.run.now c.pass_over.new.run c.pass_over.ensures.waiting c.pass_over.ensures.comes (c.take_turn.ensures.memory e)
