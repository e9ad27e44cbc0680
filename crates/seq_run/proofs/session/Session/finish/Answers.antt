use Rattle.std.proofs.Common.{map, ap, ◌∙◌, Err}
use Rattle.seq_run.specs.FoundItem.{found_of}
use Rattle.seq_run.proofs.Steps.{clean_kept, failed_kept, finished}
use Rattle.seq_run.proofs.session.Session.finish.Goals as goal
use Rattle.seq_run.proofs.session.Session.finish.Goals.{in-Ok, in-Err-Fault}

pub invariant_of-self : goal.invariant_of-self
invariant_of-self c =
    let s = c.self.inside in
    elim c.match-at_end.branch [
      | in-Ok w ↦ clean_kept s.examiner s.fed (map found_of s.taken) s.reader s.count.items s.count.offset s.count.bytes s.stopped s.rejected c.in-None.is c.self.invariant c.match-at_end.end c.at_end.result tt c.at_end.ensures w.in-Ok.is (w.end-is ∙ w.clean_end-end.ensures)
      | in-Err-Fault w ↦ failed_kept s.examiner s.fed (map found_of s.taken) s.reader s.count.items s.count.offset s.count.bytes s.stopped s.rejected c.in-None.is c.self.invariant c.match-at_end.end c.at_end.result w.in-Err-Fault.fault c.at_end.ensures (w.in-Err-Fault.is ∙ ap Err w.in-Err-Fault.field-0-is) (w.end-is ∙ w.failed_end-end.ensures)
    ]

pub returns : goal.returns
returns c =
    let s = c.self.inside in
    finished s.examiner s.fed (map found_of s.taken) s.reader s.count.items s.count.offset s.count.bytes s.stopped s.rejected c.in-None.is c.self.invariant c.args.self.now c.self.view_is c.match-at_end.end (invariant_of-self c)
