use Rattle.std.proofs.Common.{flat_map, take, sym}
use Rattle.seq_run.specs.Judge.{judge_of}
use Rattle.seq_run.proofs.Cutting.{cut_start, cut_more, finish_cut, joined_more, joined_all}
use Rattle.seq_run.proofs.pieces.validate_pieces.Goals as goal

pub loop-piece-init : goal.loop-piece-init
loop-piece-init c = cut_start (judge_of c.args.table.now c.args.steps) c.args.limits c.new-session.result c.new-items.result.items c.new-session.ensures c.new-items.ensures.items

pub loop-piece-preserved : goal.loop-piece-preserved
loop-piece-preserved c =
    let stream = flat_map (λ v. v.items) (take c.loop-piece.piece-index c.args.pieces.now) in
    let next = joined_more (λ v. v.items) c.args.pieces.now c.loop-piece.piece-index c.piece-item.result c.loop-piece-test.true c.piece-item.is in
    rw next (cut_more (judge_of c.args.table.now c.args.steps) c.args.limits c.loop-piece.session c.feed.new.self stream c.piece-item.result.items c.loop-piece.items.items c.feed.new.out.items c.loop-piece.invariant
    c.in_ok-feed.ensures.appends c.in_ok-feed.field-0 (rw c.deref.ensures.value at c.in_ok-feed.ensures.answer))

pub returns : goal.returns
returns c =
    rw (sym (joined_all (λ v. v.items) c.args.pieces.now c.loop-piece.piece-index c.loop-piece-test.false))
    (finish_cut (judge_of c.args.table.now c.args.steps) c.args.limits c.loop-piece.session c.finish.new.self _ c.loop-piece.items.items c.in_ok-end.end c.loop-piece.invariant c.in_ok-end.ensures)
