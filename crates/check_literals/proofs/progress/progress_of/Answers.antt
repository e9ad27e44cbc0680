use Rattle.std.proofs.Common.{◌<◌, ℕ, map, get_or, sym, subst}
use Rattle.std.proofs.lemmas.List.{length-map}
use Rattle.std.proofs.lemmas.Option.{slice_get-get_or}
use Rattle.check_literals.specs.Found.{IsBlank, IsSound, IsStep}
use Rattle.check_literals.specs.Needs.{need_view}
use Rattle.check_literals.proofs.Telling.{told_none, told_more}
use Rattle.check_literals.proofs.progress.progress_of.Goals as goal

pub loop-row-init : goal.loop-row-init
loop-row-init c = told_none c.args.terms.now (map need_view c.args.needs.now) c.args.order.now c.in_ok-known.known (subst (λ n. IsBlank n c.in_ok-known.known) (sym (length-map c.args.needs.now need_view)) c.in_ok-known.ensures)

pub settle-requires-clause-row : goal.settle-requires-clause-row
settle-requires-clause-row c =
    let row : ℕ = get_or c.args.order.now c.loop-row.row-index 0 in
    subst (λ (n : ℕ). row < n) (length-map c.args.needs.now need_view) (c.requires.within_rows c.loop-row.row-index row (slice_get-get_or c.args.order.now c.loop-row.row-index 0 c.loop-row-test.true))

pub settle-requires-clause-known : goal.settle-requires-clause-known
settle-requires-clause-known c = subst (λ n. IsSound n c.loop-row.known) (length-map c.args.needs.now need_view) c.loop-row.invariant.sound

pub loop-row-preserved : goal.loop-row-preserved
loop-row-preserved c =
    let row : ℕ = get_or c.args.order.now c.loop-row.row-index 0 in
    told_more c.args.terms.now (map need_view c.args.needs.now) c.args.order.now c.requires c.loop-row.row-index row c.loop-row.known c.settle.new.known c.loop-row.invariant (slice_get-get_or c.args.order.now c.loop-row.row-index 0 c.loop-row-test.true) (λ d e. subst (λ n. IsStep c.args.terms.now n row d c.loop-row.known c.settle.new.known) (sym (length-map c.args.needs.now need_view)) (c.in_ok-settle.ensures d e))
