use Rattle.alternatives.specs.Splices.{Alternatives}
use Rattle.alternatives.specs.Summaries.{AreSummaries}
use Rattle.alternatives.specs.Building.{AreReady, Yields, build, load}
use Rattle.alternatives.proofs.build.Builder.run.Given as goal

abbrev pub invariant-loop-task : goal.invariant-loop-task
invariant-loop-task l = record {
  yields : AreSummaries l.parts l.summaries → (all : Alternatives) → Yields l.parts (build l.fn.self).tasks (build l.fn.self).lists all → Yields l.parts (build l.self).tasks (build l.self).lists all;
  ready : AreSummaries l.parts l.summaries → (all : Alternatives) → Yields l.parts (build l.fn.self).tasks (build l.fn.self).lists all → AreReady l.parts (build l.fn.self).tasks → AreReady l.parts (build l.self).tasks;
}

abbrev pub decreases-loop-task : goal.decreases-loop-task
decreases-loop-task l = load (build l.self).tasks
