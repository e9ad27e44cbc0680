use Rattle.std.proofs.Common.{map, subst}
use Rattle.seq_run.specs.Answers.{IsCount}
use Rattle.seq_run.specs.FoundItem.{found_of}
use Rattle.seq_run.specs.Judge.{judge_of}
use Rattle.seq_run.specs.Progress.{Progress}
use Rattle.seq_run.proofs.Steps.{count_of}
use Rattle.seq_run.proofs.owned.OwnedSession.taken.Goals as goal

pub returns : goal.returns
returns c =
    let s = c.self.inside in
    let r = s.rest in
    subst (λ (p : Progress). IsCount p r.count.items r.count.offset) c.self.view_is (count_of (judge_of s.table.value s.steps) r.fed (map found_of r.taken) r.reader r.count.items r.count.offset r.count.bytes r.rejected r.stopped c.self.invariant.0)
