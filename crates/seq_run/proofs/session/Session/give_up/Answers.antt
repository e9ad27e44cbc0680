use Rattle.std.proofs.Common.{map, ap, alloc_error, refl, ◌∙◌}
use Rattle.seq_run.specs.FoundItem.{found_of}
use Rattle.seq_run.specs.Progress.{Progress}
use Rattle.seq_run.proofs.Steps.{cut_kept, cut_step}
use Rattle.seq_run.proofs.session.Session.give_up.Goals as goal

pub invariant_of-self : goal.invariant_of-self
invariant_of-self c =
    let s = c.self.inside in
    cut_kept s.examiner s.fed (map found_of s.taken) s.reader s.count.items s.count.offset s.count.bytes s.stopped s.rejected (ap (λ (p : Progress). p.stopped) c.self.view_is ∙ c.requires) c.self.invariant c.args.piece.now s.reader.limits c.extend.new.self refl c.extend.ensures

pub returns : goal.returns
returns c =
    let s = c.self.inside in
    cut_step s.examiner s.fed (map found_of s.taken) s.reader s.count.items s.count.offset s.count.bytes s.stopped s.rejected (ap (λ (p : Progress). p.stopped) c.self.view_is ∙ c.requires) c.self.invariant c.args.self.now c.self.view_is c.args.piece.now alloc_error s.reader.limits c.extend.new.self refl c.extend.ensures
