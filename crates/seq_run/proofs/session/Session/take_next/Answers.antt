use Rattle.std.proofs.Common.{◌≡◌, map, ap, arith, ◌∙◌}
use Rattle.seq_run.specs.FoundItem.{found_of}
use Rattle.seq_run.specs.declared.session.FoundItem.TheVariants.{Other}
use Rattle.seq_run.specs.Progress.{Progress}
use Rattle.seq_run.proofs.Steps.{going_reader, more_fits, more_kept, more_step, item_fits, item_kept, item_step, stopped_kept, stopped_step, cut_kept, cut_step, noted}
use Rattle.seq_run.proofs.session.Session.take_next.Goals as goal

pub judge_next-requires : goal.judge_next-requires
judge_next-requires c =
    let s = c.self.inside in
    going_reader s.examiner s.fed (map found_of s.taken) s.reader s.count.items s.count.offset s.count.bytes s.stopped s.rejected (ap (λ (p : Progress). p.stopped) c.self.view_is ∙ c.requires) c.self.invariant

pub overflow_add-self : goal.overflow_add-self
overflow_add-self c =
    let s = c.self.inside in
    omega (arith, more_fits s.examiner s.fed (map found_of s.taken) s.reader s.count.items s.count.offset s.count.bytes s.stopped s.rejected (ap (λ (p : Progress). p.stopped) c.self.view_is ∙ c.requires) c.self.invariant c.args.piece.now c.judge_next.new.reader (rw c.in-Ok-More.field-0-is at c.in-Ok-More.ensures))

pub invariant_of-self : goal.invariant_of-self
invariant_of-self c =
    let s = c.self.inside in
    more_kept s.examiner s.fed (map found_of s.taken) s.reader s.count.items s.count.offset s.count.bytes s.stopped s.rejected (ap (λ (p : Progress). p.stopped) c.self.view_is ∙ c.requires) c.self.invariant c.args.piece.now c.judge_next.new.reader c.extend.new.self c.extend.ensures (rw c.in-Ok-More.field-0-is at c.in-Ok-More.ensures)

pub returns-in-Ok-More : goal.returns-in-Ok-More
returns-in-Ok-More c =
    let s = c.self.inside in
    more_step s.examiner s.fed (map found_of s.taken) s.reader s.count.items s.count.offset s.count.bytes s.stopped s.rejected (ap (λ (p : Progress). p.stopped) c.self.view_is ∙ c.requires) c.self.invariant c.args.self.now c.self.view_is c.args.piece.now c.judge_next.new.reader c.extend.new.self c.extend.ensures (rw c.in-Ok-More.field-0-is at c.in-Ok-More.ensures)

pub add_item-requires-clause-items : goal.add_item-requires-clause-items
add_item-requires-clause-items c =
    let s = c.self.inside in
    let accepted = rw c.in-Ok-Accepted.field-0-is at c.in-Ok-Accepted.ensures in
    omega (arith, (item_fits s.examiner s.fed (map found_of s.taken) s.reader s.count.items s.count.offset s.count.bytes s.stopped s.rejected (ap (λ (p : Progress). p.stopped) c.self.view_is ∙ c.requires) c.self.invariant c.args.piece.now c.in-Ok-Accepted.used c.in-Ok-Accepted.item c.judge_next.new.reader accepted.0 accepted.1).0)

pub add_item-requires-clause-bytes : goal.add_item-requires-clause-bytes
add_item-requires-clause-bytes c =
    let s = c.self.inside in
    let accepted = rw c.in-Ok-Accepted.field-0-is at c.in-Ok-Accepted.ensures in
    omega (arith, (item_fits s.examiner s.fed (map found_of s.taken) s.reader s.count.items s.count.offset s.count.bytes s.stopped s.rejected (ap (λ (p : Progress). p.stopped) c.self.view_is ∙ c.requires) c.self.invariant c.args.piece.now c.in-Ok-Accepted.used c.in-Ok-Accepted.item c.judge_next.new.reader accepted.0 accepted.1).1)

pub invariant_of-self-in-Ok-Accepted : goal.invariant_of-self-in-Ok-Accepted
invariant_of-self-in-Ok-Accepted c =
    let s = c.self.inside in
    let accepted = rw c.in-Ok-Accepted.field-0-is at c.in-Ok-Accepted.ensures in
    rw c.add_item.ensures (item_kept s.examiner s.fed (map found_of s.taken) s.reader s.count.items s.count.offset s.count.bytes s.stopped s.rejected (ap (λ (p : Progress). p.stopped) c.self.view_is ∙ c.requires) c.self.invariant c.args.piece.now c.in-Ok-Accepted.used c.in-Ok-Accepted.item c.judge_next.new.reader
    c.extend-in-Ok-Accepted.new.self (map found_of c.push.new.self) (grind (arith, c.extend-in-Ok-Accepted.ensures)) (noted s.taken (Other s.count.offset c.in-Ok-Accepted.item) c.push.new.self c.push.ensures) accepted.0 accepted.1)

pub returns-in-Other : goal.returns-in-Other
returns-in-Other c =
    let s = c.self.inside in
    let accepted = rw c.in-Ok-Accepted.field-0-is at c.in-Ok-Accepted.ensures in
    let same : c.in-Other.item ≡ c.in-Ok-Accepted.item = cc in
    rw same (item_step s.examiner s.fed (map found_of s.taken) s.reader s.count.items s.count.offset s.count.bytes s.stopped s.rejected (ap (λ (p : Progress). p.stopped) c.self.view_is ∙ c.requires) c.self.invariant c.args.self.now c.self.view_is c.args.piece.now
    c.in-Ok-Accepted.used c.in-Ok-Accepted.item c.judge_next.new.reader c.extend-in-Ok-Accepted.new.self (map found_of c.push.new.self) (grind (arith, c.extend-in-Ok-Accepted.ensures)) (noted s.taken (Other s.count.offset c.in-Ok-Accepted.item) c.push.new.self c.push.ensures)
    accepted.0 accepted.1)

pub invariant_of-self-in-Ok-Failed : goal.invariant_of-self-in-Ok-Failed
invariant_of-self-in-Ok-Failed c =
    let s = c.self.inside in
    rw c.failed_end-end.ensures (stopped_kept s.examiner s.fed (map found_of s.taken) s.reader s.count.items s.count.offset s.count.bytes s.stopped s.rejected (ap (λ (p : Progress). p.stopped) c.self.view_is ∙ c.requires) c.self.invariant c.one_answer.ensures.table c.args.piece.now c.in-Ok-Failed.cause c.in-Ok-Failed.rejected c.judge_next.new.reader c.extend-in-Ok-Failed.new.self c.extend-in-Ok-Failed.ensures (rw c.in-Ok-Failed.field-0-is at c.in-Ok-Failed.ensures))

pub returns-in-Ok-Failed : goal.returns-in-Ok-Failed
returns-in-Ok-Failed c =
    let s = c.self.inside in
    rw c.failed_end-end.ensures (stopped_step s.examiner s.fed (map found_of s.taken) s.reader s.count.items s.count.offset s.count.bytes s.stopped s.rejected (ap (λ (p : Progress). p.stopped) c.self.view_is ∙ c.requires) c.self.invariant c.one_answer.ensures.table c.args.self.now c.self.view_is c.args.piece.now c.in-Ok-Failed.cause c.in-Ok-Failed.rejected c.judge_next.new.reader c.extend-in-Ok-Failed.new.self c.extend-in-Ok-Failed.ensures (rw c.in-Ok-Failed.field-0-is at c.in-Ok-Failed.ensures))

pub invariant_of-self-in-Err : goal.invariant_of-self-in-Err
invariant_of-self-in-Err c =
    let s = c.self.inside in
    cut_kept s.examiner s.fed (map found_of s.taken) s.reader s.count.items s.count.offset s.count.bytes s.stopped s.rejected (ap (λ (p : Progress). p.stopped) c.self.view_is ∙ c.requires) c.self.invariant c.args.piece.now c.judge_next.new.reader.limits c.extend-in-Err.new.self c.in-Err.ensures c.extend-in-Err.ensures

pub returns-in-Err : goal.returns-in-Err
returns-in-Err c =
    let s = c.self.inside in
    cut_step s.examiner s.fed (map found_of s.taken) s.reader s.count.items s.count.offset s.count.bytes s.stopped s.rejected (ap (λ (p : Progress). p.stopped) c.self.view_is ∙ c.requires) c.self.invariant c.args.self.now c.self.view_is c.args.piece.now
    c.in-Err.error c.judge_next.new.reader.limits c.extend-in-Err.new.self c.in-Err.ensures c.extend-in-Err.ensures
