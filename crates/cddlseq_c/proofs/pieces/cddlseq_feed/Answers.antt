use Rattle.std.proofs.Common.{refl, sym, subst}
use Rattle.cddlseq_c.specs.Fed.{Fed}
use Rattle.cddlseq_c.specs.Handles.{by_it, by_nothing}
use Rattle.cddlseq_c.specs.Pieces.{IsFedTo}
use Rattle.cddlseq_c.proofs.pieces.cddlseq_feed.Goals as goal

pub returns-in_default : goal.returns-in_default
returns-in_default c = by_nothing (sym c.in_default.ensures.taken) (record { none = c.take.ensures.left; unused = refl; end = refl })

pub returns : goal.returns
returns c =
    by_it c.in-Some.held.value (sym c.in-Some.ensures.taken) c.feed-status.result
    (record { now = c.feed-status.new.self; held = c.put.ensures; is = subst (λ (f : Fed). IsFedTo f c.feed-status.new.self c.args.piece.now c.feed-status.new.used c.args.end.now c.feed-status.new.told c.feed-status.result) c.deref_mut.ensures.value c.feed-status.ensures })
