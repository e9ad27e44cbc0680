use Rattle.std.proofs.Common.{rules, ◌<◌, map, refl, vec_items, length}
use Rattle.std.proofs.lemmas.Option.{slice_get_read}
use Rattle.alternatives.proofs.Making.{put_one}
use Rattle.alternatives.proofs.pieces.put_behind.Goals as goal

pub loop-number-preserved : goal.loop-number-preserved
loop-number-preserved c =
    let items = c.loop-number.alternatives.items in
    let within : c.loop-number.number < length items = search rules in
    put_one vec_items items _ c.extend_from_slice.new.self c.index_mut.result.now c.args.members.now (map vec_items c.args.alternatives.now.items) c.loop-number.number (slice_get_read items (length items) c.loop-number.number c.index_mut.result.now refl within c.index_mut.ensures.value) refl c.in_ok-extend_from_slice.ensures.items c.loop-number.invariant
