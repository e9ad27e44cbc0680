use Rattle.std.proofs.Common.{Ok, None, refl, ap, ◌∙◌, subst}
use Rattle.cddlseq_c.specs.Fed.{Fed}
use Rattle.cddlseq_c.specs.Pieces.{IsFedAll}
use Rattle.cddlseq_c.proofs.Steps.{fed_all}
use Rattle.cddlseq_c.proofs.feeding.Feeding.feed_all.Goals as goal

pub returns-in-Ok-Open : goal.returns-in-Ok-Open
returns-in-Ok-Open c =
    let f = c.self.inside in let now : Fed = record { progress = c.feed.new.self; item = None } in
    subst (λ (before : Fed). IsFedAll before now c.args.piece.now c.args.told.now c.so_far.result 0) c.self.view_is
    (fed_all (record { progress = f.session; item = f.item }) now c.args.piece.now c.args.told.now c.so_far.result 0 c.feed.result _ c.feed.ensures.answer (c.in-Ok-Open.is ∙ ap Ok c.in-Ok-Open.field-0-is) (refl, c.so_far.ensures) refl)

pub returns-in-Ok-Ended : goal.returns-in-Ok-Ended
returns-in-Ok-Ended c =
    let f = c.self.inside in let now : Fed = record { progress = c.feed.new.self; item = None } in
    subst (λ (before : Fed). IsFedAll before now c.args.piece.now c.args.told.now c.told_end.result c.status_after.result) c.self.view_is
    (fed_all (record { progress = f.session; item = f.item }) now c.args.piece.now c.args.told.now c.told_end.result c.status_after.result c.feed.result _ c.feed.ensures.answer (c.in-Ok-Ended.is ∙ ap Ok c.in-Ok-Ended.field-0-is) (c.status_after.ensures, c.told_end.ensures) refl)

pub returns : goal.returns
returns c =
    let f = c.self.inside in let now : Fed = record { progress = c.feed.new.self; item = None } in
    subst (λ (before : Fed). IsFedAll before now c.args.piece.now c.args.told.now c.args.told.now 3) c.self.view_is
    (fed_all (record { progress = f.session; item = f.item }) now c.args.piece.now c.args.told.now c.args.told.now 3 c.feed.result _ c.feed.ensures.answer c.in-Err.is (refl, refl) refl)
