use Rattle.std.proofs.Common.{rules, ◌≡◌, ◌∙◌, ◌++◌, ◌∷◌, [], ◌<◌, ◌≤◌, length}
use Rattle.graphs.proofs.OfCycles.Loops.{last_within, places_left, same_marks, same_opened, all_shut}
use Rattle.graphs.proofs.cycles.search.close.Goals as goal

pub index_mut-requires : goal.index_mut-requires
index_mut-requires c =
    let split : c.loop-opened.opened.items ≡ c.pop.new.self.items ++ c.in-Some.node ∷ [] = search rules in
    let l = last_within c.loop-opened.marks.items c.loop-opened.opened.items c.pop.new.self.items c.in-Some.node c.args.position c.args.number split c.loop-opened.invariant.places in
    search rules

pub loop-opened-preserved-in-Some : goal.loop-opened-preserved-in-Some
loop-opened-preserved-in-Some c =
    let split : c.loop-opened.opened.items ≡ c.pop.new.self.items ++ c.in-Some.node ∷ [] = search rules in
    let more : c.args.position < length c.loop-opened.opened.items = search rules in
    let places = c.loop-opened.invariant.places in
    record {
      places = places_left c.loop-opened.marks.items c.loop-opened.opened.items c.pop.new.self.items c.in-Some.node c.args.position c.args.number split places;
      marks_to = same_marks c.loop-opened.marks.items c.loop-opened.opened.items c.pop.new.self.items c.in-Some.node c.args.position c.args.number split places more ∙ c.loop-opened.invariant.marks_to;
      opened_to = same_opened c.loop-opened.marks.items c.loop-opened.opened.items c.pop.new.self.items c.in-Some.node c.args.position c.args.number split places more ∙ c.loop-opened.invariant.opened_to;
    }

pub returns-clause-marks : goal.returns-clause-marks
returns-clause-marks c =
    let few : length c.loop-opened.opened.items ≤ c.args.position = search rules in
    all_shut c.loop-opened.marks.items c.loop-opened.opened.items _ c.args.position c.args.number c.loop-opened.invariant.places few ∙ c.loop-opened.invariant.marks_to
