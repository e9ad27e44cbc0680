use Rattle.std.proofs.Common.{List, ℕ, ◌+◌, flat_map, take, drop, subst, sym}
use Rattle.seq_run.specs.Judge.{judge_of}
use Rattle.cddl_examples.proofs.SoFar.{HasEnd, at_first, one_more, ended, finished, received, joined_more, joined_all, joined_rest}
use Rattle.cddl_examples.proofs.receiving.receive.Goals as goal

pub loop-piece-init : goal.loop-piece-init
loop-piece-init c = (c.in_ok-table.table, c.in_ok-table.ensures.tabled, at_first (judge_of c.in_ok-table.table c.args.steps) c.args.limits c.new-session.result c.new-items.result.items c.new-session.ensures c.new-items.ensures.items)

pub loop-piece-preserved : goal.loop-piece-preserved
loop-piece-preserved c =
    let i = c.loop-piece.invariant in
    let stream = flat_map (λ v. v.items) (take c.loop-piece.piece-index c.args.pieces.now) in
    let next = joined_more (λ v. v.items) c.args.pieces.now c.loop-piece.piece-index c.piece-item.result c.loop-piece-test.true c.piece-item.is in (
      i.0,
      i.1,
      rw next (one_more (judge_of i.0 c.args.steps) c.args.limits c.loop-piece.session c.feed.new.self stream c.piece-item.result.items c.loop-piece.items.items c.feed.new.out.items i.2
          c.in_ok-feed.ensures.appends (rw c.in-Open.is at (rw c.deref.ensures.value at c.in_ok-feed.ensures.answer))),
    )

pub returns-in-Ended-clause-received : goal.returns-in-Ended-clause-received
returns-in-Ended-clause-received c =
    let i = c.loop-piece.invariant in
    let stream = flat_map (λ v. v.items) (take c.loop-piece.piece-index c.args.pieces.now) in
    let more = flat_map (λ v. v.items) (drop (c.loop-piece.piece-index + 1) c.args.pieces.now) in
    received c.table_has_root.ensures c.args.text.now i.0 c.args.limits c.args.steps (flat_map (λ v. v.items) c.args.pieces.now) c.feed.new.out.items c.in-Ended.end i.1
    (subst (λ (b : List ℕ). HasEnd (judge_of i.0 c.args.steps) c.args.limits b c.feed.new.out.items c.in-Ended.end)
    (joined_rest (λ v. v.items) c.args.pieces.now c.loop-piece.piece-index c.piece-item.result c.loop-piece-test.true c.piece-item.is)
    (ended (judge_of i.0 c.args.steps) c.args.limits c.loop-piece.session c.feed.new.self stream c.piece-item.result.items c.loop-piece.items.items c.feed.new.out.items i.2
    c.in_ok-feed.ensures.appends c.in-Ended.end more (rw c.in-Ended.is at (rw c.deref.ensures.value at c.in_ok-feed.ensures.answer))))

pub returns-clause-received : goal.returns-clause-received
returns-clause-received c =
    let i = c.loop-piece.invariant in
    received c.table_has_root.ensures c.args.text.now i.0 c.args.limits c.args.steps (flat_map (λ v. v.items) c.args.pieces.now) c.loop-piece.items.items c.in_ok-end.end i.1
    (rw (sym (joined_all (λ v. v.items) c.args.pieces.now c.loop-piece.piece-index c.loop-piece-test.false))
    (finished (judge_of i.0 c.args.steps) c.args.limits c.loop-piece.session c.finish.new.self _ c.loop-piece.items.items c.in_ok-end.end i.2 c.in_ok-end.ensures))
