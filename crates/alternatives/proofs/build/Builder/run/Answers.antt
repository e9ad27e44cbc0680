use Rattle.std.proofs.Common.{◌<◌, ◌∙◌, sym, subst}
use Rattle.alternatives.specs.Building.{Build, AreReady, Yields, build, load}
use Rattle.alternatives.proofs.Tasks.{done_less, done_ready, done_yields}
use Rattle.alternatives.proofs.Ending.{top_first}
use Rattle.alternatives.proofs.build.Builder.run.Goals as goal

pub returns-then-not-branch-clause-goes : goal.returns-then-not-branch-clause-goes
returns-then-not-branch-clause-goes c = λ are all y r.
    let parts = c.args.parts.now in
    let old : Build = build (record { tasks = c.pop.new.self; lists = c.loop-task.self.lists }) in
    let top = top_first c.loop-task.self.tasks.items c.pop.new.self.items c.in-Some.task c.in-Some.ensures.items in
    let yields = subst (λ ts. Yields parts ts old.lists all) top (c.loop-task.invariant.yields are all y) in
    let ready = subst (AreReady parts) top (c.loop-task.invariant.ready are all y r) in
    let done = done_ready parts c.args.summaries.now are c.in-Some.task old (build c.step.new.self) c.in_ok-step.field-0 all c.in_ok-step.ensures yields ready in
    sym c.if-not-branch.true ∙ done.0

pub loop-task-smaller : goal.loop-task-smaller
loop-task-smaller c =
    let old : Build = build (record { tasks = c.pop.new.self; lists = c.loop-task.self.lists }) in
    let top = top_first c.loop-task.self.tasks.items c.pop.new.self.items c.in-Some.task c.in-Some.ensures.items in
    subst (λ ts. load (build c.step.new.self).tasks < load ts) (sym top) (done_less c.args.parts.now c.args.summaries.now c.in-Some.task old (build c.step.new.self) c.in_ok-step.field-0 c.in_ok-step.ensures c.if-not-branch.false)

pub loop-task-preserved : goal.loop-task-preserved
loop-task-preserved c =
    let parts = c.args.parts.now in
    let old : Build = build (record { tasks = c.pop.new.self; lists = c.loop-task.self.lists }) in
    let top = top_first c.loop-task.self.tasks.items c.pop.new.self.items c.in-Some.task c.in-Some.ensures.items in
    record {
      yields = λ are all y. done_yields parts c.args.summaries.now are c.in-Some.task old (build c.step.new.self) c.in_ok-step.field-0 all c.in_ok-step.ensures (subst (λ ts. Yields parts ts old.lists all) top (c.loop-task.invariant.yields are all y)) c.if-not-branch.false;
      ready = λ are all y r. (done_ready parts c.args.summaries.now are c.in-Some.task old (build c.step.new.self) c.in_ok-step.field-0 all c.in_ok-step.ensures (subst (λ ts. Yields parts ts old.lists all) top (c.loop-task.invariant.yields are all y)) (subst (AreReady parts) top (c.loop-task.invariant.ready are all y r))).1;
    }
