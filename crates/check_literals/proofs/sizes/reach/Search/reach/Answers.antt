use Rattle.std.proofs.Common.{rules, ◌≡◌, ◌<◌, ◌≤◌, ℕ, List, [], Some, length, slice_get, refl, ap, ◌∙◌, arith}
use Rattle.std.proofs.lemmas.Option.{slice_get_read}
use Rattle.check_literals.specs.Sizes.Reach.{State, looked, state, visited}
use Rattle.check_literals.specs.Sizes.Sources.{parts_in, view_at}
use Rattle.check_literals.proofs.OfSizes.Reaching.{begins_with, ends, one_more_visited, smaller, still_search, visits_mark}
use Rattle.check_literals.proofs.sizes.reach.Search.reach.Goals as goal

pub loop-next-init : goal.loop-next-init
loop-next-init c =
    let none : List ℕ = c.clear.new.self.items in
    let empty : none ≡ [] = search rules in
    let is : state c.look.new.self ≡ looked c.args.start (record { marks = c.args.self.now.marks.items; mark = c.args.mark; reached = [] }) = c.in_ok-look.ensures ∙ ap (λ (xs : List ℕ). looked c.args.start (record { marks = c.args.self.now.marks.items; mark = c.args.mark; reached = xs })) empty in
    let both = begins_with c.args.sources.now c.args.start c.args.mark c.args.self.now.marks.items c.requires.all c.requires.below (state c.look.new.self) is in
    record { mark = both.1; search = both.0; visited = λ j a l. absurd (omega (arith, l)) }

pub loop-next-smaller : goal.loop-next-smaller
loop-next-smaller c =
    let is : state c.visit.new.self ≡ visited (parts_in (view_at c.args.sources.now c.index-row.result.now)) (state c.loop-next.self) = c.in_ok-visit.ensures ∙ ap (λ (ps : List ℕ). visited ps (state c.loop-next.self)) c.parts_at.ensures in
    let less : c.loop-next.next < length c.loop-next.self.reached.items = omega arith in
    smaller c.args.sources.now c.args.start c.loop-next.next (state c.loop-next.self) (state c.visit.new.self) c.index-row.result.now is less

pub loop-next-preserved : goal.loop-next-preserved
loop-next-preserved c =
    let is : state c.visit.new.self ≡ visited (parts_in (view_at c.args.sources.now c.index-row.result.now)) (state c.loop-next.self) = c.in_ok-visit.ensures ∙ ap (λ (ps : List ℕ). visited ps (state c.loop-next.self)) c.parts_at.ensures in
    let less : c.loop-next.next < length c.loop-next.self.reached.items = omega arith in
    let at : slice_get c.loop-next.self.reached.items c.loop-next.next ≡ Some c.index-row.result.now = slice_get_read c.loop-next.self.reached.items (length c.loop-next.self.reached.items) c.loop-next.next c.index-row.result.now refl less c.index-row.ensures in
    let inv = c.loop-next.invariant in
    record {
      mark = ap (λ (s : State). s.mark) is ∙ (visits_mark (parts_in (view_at c.args.sources.now c.index-row.result.now)) (state c.loop-next.self) ∙ inv.mark);
      search = still_search c.args.sources.now c.args.start c.loop-next.next (state c.loop-next.self) inv.search inv.visited c.index-row.result.now at (state c.visit.new.self) is;
      visited = one_more_visited c.args.sources.now c.args.start c.loop-next.next (state c.loop-next.self) inv.search inv.visited c.index-row.result.now at (state c.visit.new.self) is;
    }

pub returns-clause-reached : goal.returns-clause-reached
returns-clause-reached c =
    let end : length c.loop-next.self.reached.items ≤ c.loop-next.next = omega arith in
    ends c.args.sources.now c.args.start (state c.loop-next.self) c.loop-next.invariant.search c.loop-next.next end c.loop-next.invariant.visited
