use Rattle.std.proofs.Common.{◌≡◌, ◌+◌, ◌≤◌, ℕ, List, Option, Some, length, set, slice_get, get_or, sym, subst, ap, ◌∙◌, arith}
use Rattle.std.proofs.lemmas.Option.{slice_get-get_or}
use Rattle.check_literals.specs.Sizes.Depths.{depth_by}
use Rattle.check_literals.specs.Sizes.Sources.{view_at}
use Rattle.check_literals.proofs.OfSizes.Ordering.{IsDone, are_depths, one_more}
use Rattle.check_literals.proofs.sizes.depths.in_order.Goals as goal

pub loop-row-preserved : goal.loop-row-preserved
loop-row-preserved c =
    let order : List ℕ = c.args.order.now in
    let row : ℕ = get_or order c.loop-row.row-index 0 in
    let ds : List (Option ℕ) = c.loop-row.depths.items in
    let at : slice_get order c.loop-row.row-index ≡ Some row = slice_get-get_or order c.loop-row.row-index 0 c.loop-row-test.true in
    let depth : c.depth_of-depth.result ≡ depth_by ds (view_at c.args.sources.now row) = c.depth_of-depth.ensures ∙ ap (λ (es : List (Option ℕ)). depth_by es (view_at c.args.sources.now row)) c.deref.ensures.value in
    let is : c.put.new.depths.items ≡ set ds row (depth_by ds (view_at c.args.sources.now row)) = c.put.ensures ∙ ap (set ds row) depth in
    subst (IsDone c.args.sources.now order (c.loop-row.row-index + 1)) (sym is) (one_more c.args.sources.now c.args.edges.now order c.requires.edges c.requires.order c.loop-row.row-index ds c.loop-row.invariant row at)

pub returns : goal.returns
returns c =
    let end : length c.args.order.now ≤ c.loop-row.row-index = omega arith in
    are_depths c.args.sources.now c.args.edges.now c.args.order.now c.requires.edges c.requires.order c.loop-row.row-index c.loop-row.depths.items c.loop-row.invariant end
