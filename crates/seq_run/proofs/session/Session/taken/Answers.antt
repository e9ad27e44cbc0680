use Rattle.std.proofs.Common.{map, subst}
use Rattle.seq_run.specs.Answers.{IsCount}
use Rattle.seq_run.specs.FoundItem.{found_of}
use Rattle.seq_run.specs.Progress.{Progress}
use Rattle.seq_run.proofs.Steps.{count_of}
use Rattle.seq_run.proofs.session.Session.taken.Goals as goal

pub returns : goal.returns
returns c =
    let s = c.self.inside in
    subst (λ (p : Progress). IsCount p s.count.items s.count.offset) c.self.view_is (count_of s.examiner s.fed (map found_of s.taken) s.reader s.count.items s.count.offset s.count.bytes s.rejected s.stopped c.self.invariant)
