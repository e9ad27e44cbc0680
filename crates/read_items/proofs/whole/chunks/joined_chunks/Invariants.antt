use Rattle.std.proofs.Common.{◌-◌, length}
use Rattle.read_items.specs.Whole.Parts.{AreChunksAt}
use Rattle.read_items.proofs.whole.chunks.joined_chunks.Given as goal

abbrev pub invariant-loop-chunk : goal.invariant-loop-chunk
invariant-loop-chunk l = AreChunksAt l.major l.bytes l.start l.joined.items l.at

abbrev pub decreases-loop-chunk : goal.decreases-loop-chunk
decreases-loop-chunk l = length l.bytes - l.at
