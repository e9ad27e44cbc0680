use Rattle.std.proofs.Common.{take, map, ap, arith, ◌∙◌}
use Rattle.std.proofs.lemmas.List.{length-take-le}
use Rattle.seq_run.specs.FoundItem.{found_of}
use Rattle.seq_run.specs.Progress.{Progress}
use Rattle.seq_run.proofs.Smalls.{smalls_fit, smalls_kept, smalls_fed}
use Rattle.seq_run.proofs.session.Session.take_smalls.Goals as goal

pub note_smalls-requires : goal.note_smalls-requires
note_smalls-requires c =
    let s = c.self.inside in
    let numbers = take c.take_marked-count.result c.args.piece.now in
    let count = length-take-le c.take_marked-count.result c.args.piece.now c.take_marked-count.ensures.within in
    omega (arith, count, (smalls_fit s.examiner s.fed (map found_of s.taken) s.reader s.count.items s.count.offset s.count.bytes s.stopped s.rejected (ap (λ (p : Progress). p.stopped) c.self.view_is ∙ c.requires) c.self.invariant numbers c.take_marked-count.result count c.take_marked-count.new.reader (rw c.ask.ensures at c.take_marked-count.ensures.taken)).1)

pub add_smalls-requires-clause-items : goal.add_smalls-requires-clause-items
add_smalls-requires-clause-items c =
    let s = c.self.inside in
    let numbers = take c.take_marked-count.result c.args.piece.now in
    let count = length-take-le c.take_marked-count.result c.args.piece.now c.take_marked-count.ensures.within in
    (smalls_fit s.examiner s.fed (map found_of s.taken) s.reader s.count.items s.count.offset s.count.bytes s.stopped s.rejected (ap (λ (p : Progress). p.stopped) c.self.view_is ∙ c.requires) c.self.invariant numbers c.take_marked-count.result count c.take_marked-count.new.reader (rw c.ask.ensures at c.take_marked-count.ensures.taken)).0

pub add_smalls-requires-clause-offset : goal.add_smalls-requires-clause-offset
add_smalls-requires-clause-offset c =
    let s = c.self.inside in
    let numbers = take c.take_marked-count.result c.args.piece.now in
    let count = length-take-le c.take_marked-count.result c.args.piece.now c.take_marked-count.ensures.within in
    (smalls_fit s.examiner s.fed (map found_of s.taken) s.reader s.count.items s.count.offset s.count.bytes s.stopped s.rejected (ap (λ (p : Progress). p.stopped) c.self.view_is ∙ c.requires) c.self.invariant numbers c.take_marked-count.result count c.take_marked-count.new.reader (rw c.ask.ensures at c.take_marked-count.ensures.taken)).1

pub add_smalls-requires-clause-bytes : goal.add_smalls-requires-clause-bytes
add_smalls-requires-clause-bytes c =
    let s = c.self.inside in
    let numbers = take c.take_marked-count.result c.args.piece.now in
    let count = length-take-le c.take_marked-count.result c.args.piece.now c.take_marked-count.ensures.within in
    (smalls_fit s.examiner s.fed (map found_of s.taken) s.reader s.count.items s.count.offset s.count.bytes s.stopped s.rejected (ap (λ (p : Progress). p.stopped) c.self.view_is ∙ c.requires) c.self.invariant numbers c.take_marked-count.result count c.take_marked-count.new.reader (rw c.ask.ensures at c.take_marked-count.ensures.taken)).2

pub invariant_of-self : goal.invariant_of-self
invariant_of-self c =
    let s = c.self.inside in
    let numbers = take c.take_marked-count.result c.args.piece.now in
    let count = length-take-le c.take_marked-count.result c.args.piece.now c.take_marked-count.ensures.within in
    rw (c.ask.ensures, c.add_smalls.ensures) (smalls_kept s.examiner s.fed (map found_of s.taken) s.reader s.count.items s.count.offset s.count.bytes s.stopped s.rejected (ap (λ (p : Progress). p.stopped) c.self.view_is ∙ c.requires) c.self.invariant numbers c.take_marked-count.result count c.take_marked-count.new.reader (rw c.ask.ensures at c.take_marked-count.ensures.taken)
    c.extend.new.self (map found_of c.note_smalls.new.taken) (grind (arith, c.extend.ensures)) (grind (arith, c.note_smalls.ensures)))

pub returns-clause-taken : goal.returns-clause-taken
returns-clause-taken c =
    let s = c.self.inside in
    let numbers = take c.take_marked-count.result c.args.piece.now in
    let count = length-take-le c.take_marked-count.result c.args.piece.now c.take_marked-count.ensures.within in
    rw c.ask.ensures (smalls_fed s.examiner s.fed (map found_of s.taken) s.reader s.count.items s.count.offset s.count.bytes s.stopped s.rejected (ap (λ (p : Progress). p.stopped) c.self.view_is ∙ c.requires) c.self.invariant numbers c.take_marked-count.result count c.take_marked-count.new.reader (rw c.ask.ensures at c.take_marked-count.ensures.taken)
    c.args.self.now c.self.view_is c.extend.new.self (map found_of c.note_smalls.new.taken) (grind (arith, c.extend.ensures)) (grind (arith, c.note_smalls.ensures)))
