use Rattle.std.proofs.Common.{[], map, take, ap, subst, arith, ◌∙◌}
use Rattle.seq_run.specs.Ends.{Accepts}
use Rattle.seq_run.specs.FoundItem.{found_of}
use Rattle.seq_run.specs.Progress.{Progress}
use Rattle.seq_run.proofs.Tapes.{spelled_noted, taped_fits, taped_kept, taped_step}
use Rattle.seq_run.proofs.session.Session.take_taped.Goals as goal

pub take_taped-requires : goal.take_taped-requires
take_taped-requires c = (c.args.piece.now, c.taped_end.new.tape, c.in_ok-end.ensures)

pub add_item-requires-clause-items : goal.add_item-requires-clause-items
add_item-requires-clause-items c =
    let s = c.self.inside in
    let t = c.take_taped.ensures c.args.piece.now c.taped_end.new.tape c.in_ok-end.ensures in
    (taped_fits s.examiner s.fed (map found_of s.taken) s.reader s.count.items s.count.offset s.count.bytes s.stopped s.rejected (ap (λ (p : Progress). p.stopped) c.self.view_is ∙ c.requires.going) c.self.invariant
    c.args.piece.now c.in_ok-end.end c.taped_end.new.tape c.take_taped.new.self t
    (subst (λ j. Accepts j t.next.whole.value []) c.may_tell.ensures (c.accepts_taped.ensures.accepted c.if-not-accepts_taped.false s.reader.limits.depth c.in_ok-end.end t.next.whole))).0

pub add_item-requires-clause-bytes : goal.add_item-requires-clause-bytes
add_item-requires-clause-bytes c =
    let s = c.self.inside in
    let t = c.take_taped.ensures c.args.piece.now c.taped_end.new.tape c.in_ok-end.ensures in
    (taped_fits s.examiner s.fed (map found_of s.taken) s.reader s.count.items s.count.offset s.count.bytes s.stopped s.rejected (ap (λ (p : Progress). p.stopped) c.self.view_is ∙ c.requires.going) c.self.invariant
    c.args.piece.now c.in_ok-end.end c.taped_end.new.tape c.take_taped.new.self t
    (subst (λ j. Accepts j t.next.whole.value []) c.may_tell.ensures (c.accepts_taped.ensures.accepted c.if-not-accepts_taped.false s.reader.limits.depth c.in_ok-end.end t.next.whole))).1

pub invariant_of-self : goal.invariant_of-self
invariant_of-self c = rw c.may_tell.ensures c.self.invariant

pub invariant_of-self-2 : goal.invariant_of-self-2
invariant_of-self-2 c =
    let s = c.self.inside in
    let t = c.take_taped.ensures c.args.piece.now c.taped_end.new.tape c.in_ok-end.ensures in
    rw (c.accepts_taped.ensures.kept, c.may_tell.ensures, c.add_item.ensures) (taped_kept s.examiner s.fed (map found_of s.taken) s.reader s.count.items s.count.offset s.count.bytes s.stopped s.rejected (ap (λ (p : Progress). p.stopped) c.self.view_is ∙ c.requires.going) c.self.invariant
    c.args.piece.now c.in_ok-end.end c.taped_end.new.tape c.take_taped.new.self t
    (subst (λ j. Accepts j t.next.whole.value []) c.may_tell.ensures (c.accepts_taped.ensures.accepted c.if-not-accepts_taped.false s.reader.limits.depth c.in_ok-end.end t.next.whole))
    c.extend.new.self (map found_of c.push.new.self) (grind (arith, c.extend.ensures)) (spelled_noted s.taken s.count.offset c.and.result (take c.in_ok-end.end c.args.piece.now) c.push.new.self (grind (arith, c.and.ensures, c.new.ensures)) c.push.ensures))

pub returns-clause-taken : goal.returns-clause-taken
returns-clause-taken c =
    let s = c.self.inside in
    let t = c.take_taped.ensures c.args.piece.now c.taped_end.new.tape c.in_ok-end.ensures in
    rw (c.accepts_taped.ensures.kept, c.may_tell.ensures) (taped_step s.examiner s.fed (map found_of s.taken) s.reader s.count.items s.count.offset s.count.bytes s.stopped s.rejected (ap (λ (p : Progress). p.stopped) c.self.view_is ∙ c.requires.going) c.self.invariant
    c.args.piece.now c.in_ok-end.end c.taped_end.new.tape c.take_taped.new.self t
    (subst (λ j. Accepts j t.next.whole.value []) c.may_tell.ensures (c.accepts_taped.ensures.accepted c.if-not-accepts_taped.false s.reader.limits.depth c.in_ok-end.end t.next.whole))
    c.extend.new.self (map found_of c.push.new.self) (grind (arith, c.extend.ensures)) (spelled_noted s.taken s.count.offset c.and.result (take c.in_ok-end.end c.args.piece.now) c.push.new.self (grind (arith, c.and.ensures, c.new.ensures)) c.push.ensures)
    c.args.self.now c.self.view_is)
