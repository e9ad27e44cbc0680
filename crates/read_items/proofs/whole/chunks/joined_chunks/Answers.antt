use Rattle.std.proofs.Common.{sym, subst}
use Rattle.read_items.specs.Whole.Parts.{AreChunksAt}
use Rattle.read_items.proofs.OfWhole.ToBreak.{no_chunks, one_chunk_more}
use Rattle.read_items.proofs.whole.chunks.joined_chunks.Goals as goal

pub loop-chunk-init : goal.loop-chunk-init
loop-chunk-init c = no_chunks c.args.major c.args.bytes.now c.args.start c.new-joined.result.items c.new-joined.ensures.items

pub loop-chunk-preserved : goal.loop-chunk-preserved
loop-chunk-preserved c =
    let m = c.args.major in
    let b = c.args.bytes.now in
    let start = c.args.start in
    let end = c.in-Some.end in
    subst (λ content. AreChunksAt m b start content end) (sym c.in_ok-extend_from_slice.ensures.items) (one_chunk_more m b start c.loop-chunk.at end c.loop-chunk.joined.items c.in-Some.chunk.now c.loop-chunk.invariant c.in-Some.ensures)
