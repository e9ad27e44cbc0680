use Rattle.std.proofs.Common.{[], ◌∷◌, ◌++◌, List, ℕ, length, sym, subst, ap, ◌∙◌}
use Rattle.check_instances.specs.Search.{IsSearch}
use Rattle.check_instances.specs.Steps.{rows_of}
use Rattle.check_instances.proofs.Ending.{bodies_sound}
use Rattle.check_instances.proofs.Lists.{from_get}
use Rattle.check_instances.proofs.Walking.{search_grown}
use Rattle.check_instances.proofs.found.follow.Goals as goal

pub returns-clause-follows : goal.returns-clause-follows
returns-clause-follows c = λ xs n from first means none next so.
    let old = c.args.terms.now in
    let new = c.bodies_of.new.terms in
    let s = c.args.search.now in
    let k = c.args.call in
    let bs = c.in_ok-bodies.bodies.items in
    let awaits = c.in_ok-await_bodies.ensures in
    let waits = awaits.waiting ∙ ap (λ (ns : List ℕ). ns ++ rows_of c.deref.result.now) none ∙ ap rows_of c.deref.ensures.value in
    let it = so.reached k (from_get s.refs.items (length first) k next) in
    let sound = bodies_sound xs n new bs it.ref it.reaches (c.in_ok-bodies.ensures.stand xs it.ref means it.holds) in
    let grows = c.in_ok-bodies.ensures.grows in
    let grown = search_grown xs n old new from first s.marks.items s.refs.items grows (c.growing_keeps.ensures.tree old new grows) (subst (λ ns. IsSearch xs n old from first s.marks.items ns s.refs.items) none so) k next (rows_of bs) sound in
    let from_now = rows_of bs ++ from in
    let first_now = first ++ k ∷ [] in
    let by_marks = subst (λ ms. IsSearch xs n new from_now first_now ms (rows_of bs) s.refs.items) (sym awaits.marks) grown in
    let by_waiting = subst (λ ns. IsSearch xs n new from_now first_now c.await_bodies.new.self.marks.items ns s.refs.items) (sym waits) by_marks in
    c.in_ok-walk.ensures.keeps xs n from_now first_now (subst (λ ns. IsSearch xs n new from_now first_now c.await_bodies.new.self.marks.items c.await_bodies.new.self.waiting.items ns) (sym awaits.refs) by_waiting)
