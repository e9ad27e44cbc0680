use Rattle.std.proofs.Common.{◌-◌, ◌^◌, length}
use Rattle.item_nodes.specs.Counted.{device_of, failures_of}
use Rattle.seq_run.specs.Judge.{judge_of}
use Rattle.seq_run.proofs.RunLoop.{IsOn}
use Rattle.seq_run.proofs.Told.{IsWatched}
use Rattle.seq_run.proofs.running.run_watched.Given as goal

abbrev pub invariant-pieces : goal.invariant-pieces
invariant-pieces g l =
    (IsOn l.fn.mode (judge_of l.table l.fn.steps) l.fn.limits (g.R.Read.remaining (device_of l.initial.input)) (g.R.Read.remaining (device_of l.input)) (g.W.Write.contents (device_of l.initial.output)) (g.W.Write.contents (device_of l.output))
    (failures_of l.initial.input) (failures_of l.input) (failures_of l.initial.output) (failures_of l.output) l.session l.reported l.written)
    × IsWatched (judge_of l.table l.fn.steps) l.fn.limits (g.P.Watch.told l.initial.watch) (g.P.Watch.told l.watch) l.session.fed l.consumed

abbrev pub decreases-pieces : goal.decreases-pieces
decreases-pieces g l = 2 ^ 64 - length l.session.fed
