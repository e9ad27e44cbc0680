use Rattle.std.proofs.Common.{length, Ok, None, Some, refl, ap, ◌∙◌, subst}
use Rattle.cddlseq_c.specs.Fed.{Fed}
use Rattle.cddlseq_c.specs.Pieces.{IsFedTo}
use Rattle.cddlseq_c.proofs.Steps.{fed_to}
use Rattle.cddlseq_c.proofs.feeding.Feeding.feed.Goals as goal

pub returns-in-Ok-More : goal.returns-in-Ok-More
returns-in-Ok-More c =
    let f = c.self.inside in let now : Fed = record { progress = c.feed_one.new.self; item = None } in
    subst (λ (before : Fed). IsFedTo before now c.args.piece.now (length c.args.piece.now) c.args.told.now c.so_far.result 0) c.self.view_is
    (fed_to (record { progress = f.session; item = f.item }) now c.args.piece.now (length c.args.piece.now) c.args.told.now c.so_far.result 0 c.feed_one.result _ c.feed_one.ensures (c.in-Ok-More.is ∙ ap Ok c.in-Ok-More.field-0-is) (refl, refl, c.so_far.ensures) refl)

pub returns-in-Ok-Item : goal.returns-in-Ok-Item
returns-in-Ok-Item c =
    let f = c.self.inside in let now : Fed = record { progress = c.feed_one.new.self; item = Some c.in-Ok-Item.item } in
    subst (λ (before : Fed). IsFedTo before now c.args.piece.now c.in-Ok-Item.count c.args.told.now c.so_far-in-Ok-Item.result 9) c.self.view_is
    (fed_to (record { progress = f.session; item = f.item }) now c.args.piece.now c.in-Ok-Item.count c.args.told.now c.so_far-in-Ok-Item.result 9 c.feed_one.result _ c.feed_one.ensures (c.in-Ok-Item.is ∙ ap Ok c.in-Ok-Item.field-0-is) (refl, refl, c.so_far-in-Ok-Item.ensures) refl)

pub returns-in-Ok-Ended : goal.returns-in-Ok-Ended
returns-in-Ok-Ended c =
    let f = c.self.inside in let now : Fed = record { progress = c.feed_one.new.self; item = None } in
    subst (λ (before : Fed). IsFedTo before now c.args.piece.now (length c.args.piece.now) c.args.told.now c.told_end.result c.status_after.result) c.self.view_is
    (fed_to (record { progress = f.session; item = f.item }) now c.args.piece.now (length c.args.piece.now) c.args.told.now c.told_end.result c.status_after.result c.feed_one.result _ c.feed_one.ensures (c.in-Ok-Ended.is ∙ ap Ok c.in-Ok-Ended.field-0-is) (c.status_after.ensures, refl, c.told_end.ensures) refl)

pub returns-in-Err : goal.returns-in-Err
returns-in-Err c =
    let f = c.self.inside in let now : Fed = record { progress = c.feed_one.new.self; item = None } in
    subst (λ (before : Fed). IsFedTo before now c.args.piece.now 0 c.args.told.now c.args.told.now 3) c.self.view_is
    (fed_to (record { progress = f.session; item = f.item }) now c.args.piece.now 0 c.args.told.now c.args.told.now 3 c.feed_one.result _ c.feed_one.ensures c.in-Err.is (refl, refl, refl) refl)
