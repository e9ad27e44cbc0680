use Rattle.std.proofs.Common.{List, ◌-◌, length}
use Rattle.hex.specs.Hex.{encode_lower}
use Rattle.cbor_data.specs.Forms.{Chunk}
use Rattle.tape_notation.specs.Heads.{AreChunksFrom}
use Rattle.tape_notation.proofs.Strings.{AreShown}
use Rattle.tape_notation.proofs.chunks.put_byte_chunks.Given as goal

-- the chunks before this one are shown
abbrev pub invariant-loop-chunk : goal.invariant-loop-chunk
invariant-loop-chunk l = (cs : List Chunk) → AreChunksFrom 2 l.bytes l.start cs → AreShown encode_lower 2 l.bytes l.fn.out l.out l.at l.chunk l.end cs

abbrev pub decreases-loop-chunk : goal.decreases-loop-chunk
decreases-loop-chunk l = length l.bytes - l.chunk
