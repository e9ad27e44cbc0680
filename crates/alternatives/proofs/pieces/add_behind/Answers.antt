use Rattle.std.proofs.Common.{◌++◌, ◌∙◌, ap, refl, vec_items, length}
use Rattle.std.proofs.lemmas.Option.{slice_get_read}
use Rattle.alternatives.proofs.Making.{one_behind}
use Rattle.alternatives.proofs.pieces.add_behind.Goals as goal

pub loop-after-preserved : goal.loop-after-preserved
loop-after-preserved c = one_behind vec_items c.loop-after.alternatives.items c.push.new.self.items c.in_ok-joined.field-0 c.after-item.result c.args.before.now c.args.second.now c.loop-after.after-index _ (slice_get_read c.args.second.now (length c.args.second.now) c.loop-after.after-index c.after-item.result refl c.loop-after-test.true c.after-item.is) c.in_ok-push.ensures.items (c.in_ok-joined.ensures ∙ ap (λ ms. c.args.before.now ++ ms) c.deref.ensures.value) c.loop-after.invariant
