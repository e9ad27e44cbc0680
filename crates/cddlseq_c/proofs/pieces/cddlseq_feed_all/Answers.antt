use Rattle.std.proofs.Common.{refl, sym, subst}
use Rattle.cddlseq_c.specs.Fed.{Fed}
use Rattle.cddlseq_c.specs.Handles.{by_it, by_nothing}
use Rattle.cddlseq_c.specs.Pieces.{IsFedAll}
use Rattle.cddlseq_c.proofs.pieces.cddlseq_feed_all.Goals as goal

pub returns-in_default : goal.returns-in_default
returns-in_default c = by_nothing (sym c.in_default.ensures.taken) (record { none = c.take.ensures.left; unused = refl; end = refl })

pub returns : goal.returns
returns c =
    by_it c.in-Some.held.value (sym c.in-Some.ensures.taken) c.feed_all-status.result
    (record { now = c.feed_all-status.new.self; held = c.put.ensures; is = subst (λ (f : Fed). IsFedAll f c.feed_all-status.new.self c.args.piece.now c.args.end.now c.feed_all-status.new.told c.feed_all-status.result) c.deref_mut.ensures.value c.feed_all-status.ensures })
