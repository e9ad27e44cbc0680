use Rattle.std.proofs.Common.{◌<◌, ◌≤◌, length, sym, subst, ap, ◌∙◌, arith}
use Rattle.check_instances.specs.Marks.{with_mark}
use Rattle.check_instances.specs.Search.{IsSearch}
use Rattle.check_instances.specs.Steps.{calls_after, waiting_after}
use Rattle.check_instances.proofs.Marking.{as_many_marks, so_wide}
use Rattle.check_instances.proofs.Walking.{less_work, search_step, search_widened, work}
use Rattle.check_instances.proofs.search.Search.walk.Goals as goal

pub loop-row-init : goal.loop-row-init
loop-row-init c = λ xs root from first so.
    let t = c.args.terms.now in
    let s = c.args.self.now in
    let n = c.len.result in
    let fits : length s.marks.items ≤ n = omega (arith, so.sized, c.len.ensures.value) in
    let widened = c.in_ok-widen.ensures in
    (ap length widened ∙ so_wide s.marks.items n fits ∙ c.len.ensures.value, subst (λ ms. IsSearch xs root t from first ms s.waiting.items s.refs.items) (sym widened) (search_widened xs root t from first s.marks.items s.waiting.items s.refs.items n c.len.ensures.value so))

pub loop-row-smaller : goal.loop-row-smaller
loop-row-smaller c =
    let s = c.loop-row.self in
    let k = c.in-Some.row in
    let rows = c.args.terms.now.rows in
    let left = c.pop.new.self.items in
    let new = c.take_row.new.self in
    let took = c.in_ok-take_row.ensures in
    subst (λ ms. work ms new.waiting.items < work s.marks.items s.waiting.items) (sym took.marks) (subst (λ ns. work (with_mark s.marks.items k) ns < work s.marks.items s.waiting.items) (sym took.waiting) (less_work rows s.marks.items s.waiting.items left k c.in-Some.ensures.items))

pub loop-row-preserved : goal.loop-row-preserved
loop-row-preserved c = λ xs root from first so.
    let t = c.args.terms.now in
    let s = c.loop-row.self in
    let k = c.in-Some.row in
    let left = c.pop.new.self.items in
    let new = c.take_row.new.self in
    let took = c.in_ok-take_row.ensures in
    let old = c.loop-row.invariant xs root from first so in
    let step = search_step xs root t from first s.marks.items s.waiting.items s.refs.items left k c.in-Some.ensures.items old.0 old.1 in
    let by_marks = subst (λ ms. IsSearch xs root t from first ms (waiting_after t.rows s.marks.items k left) (calls_after t.rows s.marks.items k s.refs.items)) (sym took.marks) step in
    let by_waiting = subst (λ ns. IsSearch xs root t from first new.marks.items ns (calls_after t.rows s.marks.items k s.refs.items)) (sym took.waiting) by_marks in
    (ap length took.marks ∙ as_many_marks s.marks.items k ∙ old.0, subst (λ ns. IsSearch xs root t from first new.marks.items new.waiting.items ns) (sym took.refs) by_waiting)
