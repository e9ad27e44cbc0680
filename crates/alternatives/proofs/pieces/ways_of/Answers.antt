use Rattle.std.proofs.Common.{◌++◌, ◌∙◌, ap, refl, vec_items, length, map}
use Rattle.std.proofs.lemmas.Option.{slice_get_read}
use Rattle.alternatives.specs.Splices.{behind}
use Rattle.alternatives.proofs.Making.{one_way}
use Rattle.alternatives.proofs.pieces.ways_of.Goals as goal

pub loop-before-preserved : goal.loop-before-preserved
loop-before-preserved c = one_way vec_items (map vec_items c.loop-before.alternatives.items) (map vec_items c.add_behind.new.alternatives.items) c.before-item.result (map vec_items c.args.second.now) c.args.first.now c.loop-before.before-index _ (slice_get_read c.args.first.now (length c.args.first.now) c.loop-before.before-index c.before-item.result refl c.loop-before-test.true c.before-item.is) (c.in_ok-add_behind.ensures ∙ ap (λ ms. map vec_items c.loop-before.alternatives.items ++ behind ms (map vec_items c.args.second.now)) c.deref.ensures.value) c.loop-before.invariant
