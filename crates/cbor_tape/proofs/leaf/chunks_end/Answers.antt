use Rattle.read_items.proofs.OfWhole.Lemmas.{no_chunks, one_chunk_more}
use Rattle.std.proofs.Common.{[], ◌++◌, refl}
use Rattle.cbor_tape.proofs.leaf.chunks_end.Goals as goal

pub loop-at-init : goal.loop-at-init
loop-at-init c = record { content = []; there = no_chunks c.args.major c.args.bytes.now c.args.start [] refl }

pub loop-at-preserved : goal.loop-at-preserved
loop-at-preserved c =
    let read = c.loop-at.invariant in
    let chunk = c.in_ok-end.field-0-0.now in
    record {
      content = read.content ++ chunk;
      there = one_chunk_more c.args.major c.args.bytes.now c.args.start c.loop-at.at c.in_ok-end.end read.content chunk read.there c.in_ok-end.ensures;
    }
