use Rattle.std.proofs.Common.{rules, ◌≡◌, ◌∙◌, ◌<◌, ◌/◌, refl, sym, ap, subst, None, length}
use Rattle.std.proofs.lemmas.Option.{slice_get_read}
use Rattle.lists.proofs.Lemmas.{within}
use Rattle.graphs.specs.Implications.Rules.{premises_of, IsLast}
use Rattle.graphs.specs.Implications.Search.{HasPremise, IsAhead, Nowhere, gap, places_left, state}
use Rattle.graphs.proofs.OfImplications.Places.{all_ahead, fewer_left, last_there, next_ahead, none_ahead, place_within}
use Rattle.graphs.proofs.OfImplications.Steps.{at_hand, looks_at, same_gap}
use Rattle.graphs.proofs.implications.search.Search.visit.Goals as goal

pub loop-next-init : goal.loop-next-init
loop-next-init c =
    let facts = c.args.rules.now.facts in
    let is = c.args.rules.now.implications.now in
    let premises = premises_of facts is in
    let fact = c.args.fact in
    let o = c.index-next.result.now in
    let heads = c.requires.rules.heads_are in
    let last : IsLast premises fact (length premises) o = heads.each fact o (slice_get_read c.args.rules.now.heads.items facts fact o (sym heads.all) c.requires.fact c.index-next.ensures) in
    record {
      kept = at_hand facts is (HasPremise premises fact) (IsAhead premises fact o) (state c.args.self.now) (λ k i e p. all_ahead premises fact o last k p) c.requires.kept;
      there = λ place e. last_there premises fact o (length premises) place last e;
      same = refl;
    }

pub bounds-rules-place : goal.bounds-rules-place
bounds-rules-place c = place_within c.args.rules.now.facts c.args.rules.now.implications.now c.in-Some.place c.args.fact (c.loop-next.invariant.there c.in-Some.place c.in-Some.is)

pub offset_bounds-rules-place : goal.offset_bounds-rules-place
offset_bounds-rules-place c =
    let l = place_within c.args.rules.now.facts c.args.rules.now.implications.now c.in-Some.place c.args.fact (c.loop-next.invariant.there c.in-Some.place c.in-Some.is) in search rules

pub index-next-requires-in-Some : goal.index-next-requires-in-Some
index-next-requires-in-Some c =
    let premises = premises_of c.args.rules.now.facts c.args.rules.now.implications.now in
    let l : c.in-Some.place < length premises = within premises c.in-Some.place c.args.fact (c.loop-next.invariant.there c.in-Some.place c.in-Some.is) in
    let all = c.requires.rules.all in search rules

next_last : (c : goal.After-next-in-Some-1) → IsLast (premises_of c.args.rules.now.facts c.args.rules.now.implications.now) c.args.fact c.in-Some.place c.index-next-in-Some.result.now
next_last c =
    let premises = premises_of c.args.rules.now.facts c.args.rules.now.implications.now in
    let place = c.in-Some.place in
    let o = c.index-next-in-Some.result.now in
    let at = c.loop-next.invariant.there place c.in-Some.is in
    c.requires.rules.links_are.each place c.args.fact o at c.requires.fact (slice_get_read c.args.rules.now.links.items (length premises) place o (sym c.requires.rules.all) (within premises place c.args.fact at) c.index-next-in-Some.ensures)

pub loop-next-smaller : goal.loop-next-smaller
loop-next-smaller c =
    let premises = premises_of c.args.rules.now.facts c.args.rules.now.implications.now in
    let o = c.index-next-in-Some.result.now in
    subst (λ u. places_left o < places_left u) (sym c.in-Some.is) (fewer_left premises c.args.fact o c.in-Some.place (next_last c))

pub loop-next-preserved : goal.loop-next-preserved
loop-next-preserved c =
    let facts = c.args.rules.now.facts in
    let is = c.args.rules.now.implications.now in
    let premises = premises_of facts is in
    let fact = c.args.fact in
    let place = c.in-Some.place in
    let u = c.loop-next.next in
    let o = c.index-next-in-Some.result.now in
    let at = c.loop-next.invariant.there place c.in-Some.is in
    let looked_at = looks_at facts is (IsAhead premises fact u) (state c.loop-next.self) (state c.look.new.self) (place / 2) _ (place_within facts is place fact at) c.loop-next.invariant.kept c.in_ok-look.ensures in
    record {
      kept = at_hand facts is _ (IsAhead premises fact o) (state c.look.new.self) (λ k i e p. next_ahead premises fact u o place k (next_last c) c.in-Some.is p.0 p.1) looked_at;
      there = λ q e. last_there premises fact o place q (next_last c) e;
      same = ap gap c.in_ok-look.ensures ∙ (same_gap _ (state c.loop-next.self) ∙ c.loop-next.invariant.same);
    }

pub returns-clause-kept : goal.returns-clause-kept
returns-clause-kept c =
    let facts = c.args.rules.now.facts in
    let is = c.args.rules.now.implications.now in
    let none : c.loop-next.next ≡ None = search rules in
    at_hand facts is (IsAhead (premises_of facts is) c.args.fact c.loop-next.next) Nowhere (state c.loop-next.self) (λ k i e p. none_ahead (premises_of facts is) c.args.fact c.loop-next.next k none p) c.loop-next.invariant.kept
