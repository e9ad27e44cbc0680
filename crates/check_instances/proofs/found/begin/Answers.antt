use Rattle.std.proofs.Common.{[], ◌∷◌, ◌++◌, List, ℕ, sym, subst, ap, ◌∙◌}
use Rattle.check_instances.specs.Search.{IsSearch}
use Rattle.check_instances.proofs.Walking.{search_begun}
use Rattle.check_instances.proofs.found.begin.Goals as goal

pub returns-clause-begins : goal.returns-clause-begins
returns-clause-begins c = λ xs n h.
    let t = c.args.terms.now in
    let k = c.args.root in
    let new = c.new-search.result in
    let made = c.new-search.ensures in
    let waits = c.in_ok-push.ensures ∙ ap (λ (ns : List ℕ). ns ++ k ∷ []) made.waiting in
    let by_marks = subst (λ ms. IsSearch xs n t (k ∷ []) [] ms (k ∷ []) []) (sym made.marks) (search_begun xs n t k h) in
    let by_waiting = subst (λ ns. IsSearch xs n t (k ∷ []) [] new.marks.items ns []) (sym waits) by_marks in
    c.in_ok-walk.ensures.keeps xs n (k ∷ []) [] (subst (λ ns. IsSearch xs n t (k ∷ []) [] new.marks.items c.push.new.items.items ns) (sym made.refs) by_waiting)
