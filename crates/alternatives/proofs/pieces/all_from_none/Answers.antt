use Rattle.std.proofs.Common.{◌++◌, ◌∙◌, ap, refl, vec_items, length, map}
use Rattle.std.proofs.lemmas.Option.{slice_get_read}
use Rattle.alternatives.specs.Splices.{from}
use Rattle.alternatives.proofs.Making.{one_loose}
use Rattle.alternatives.proofs.pieces.all_from_none.Goals as goal

pub loop-members-preserved : goal.loop-members-preserved
loop-members-preserved c = one_loose vec_items c.loop-members.all.items c.add_from_none.new.all.items c.members-item.result c.args.alternatives.now c.loop-members.members-index _ (slice_get_read c.args.alternatives.now (length c.args.alternatives.now) c.loop-members.members-index c.members-item.result refl c.loop-members-test.true c.members-item.is) (c.in_ok-add_from_none.ensures ∙ ap (λ ms. c.loop-members.all.items ++ map (from 0) ms) c.deref.ensures.value) c.loop-members.invariant
