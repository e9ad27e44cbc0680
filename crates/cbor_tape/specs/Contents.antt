-- What strings hold, in one part or in chunks.
use Rattle.std.specs.Prelude.{◌≡◌, ℕ, ◌+◌, ◌-◌, ◌<◌, List, [], ◌∷◌, ◌++◌, length, drop, Option, Some, None}
use Rattle.std.specs.Cmp.Lexicographic.{slice_cmp}
use Rattle.std.specs.Ordering.{nat_cmp}
use Rattle.std.specs.declared.cmp.Ordering.{Ordering}
use Rattle.std.specs.declared.cmp.Ordering.TheVariants.{Equal}
use Rattle.cbor_data.specs.Forms.{Chunk, AreChunksOk, chunks_bytes, joined}
use Rattle.cbor_tape.specs.declared.strings.Content.{Content}

-- chunks of a string are in b from `start` on, and a break after them
pub record AreChunksFrom (b : List ℕ) (start : ℕ) (chunks : List Chunk) (after : List ℕ) : Type 0 where
  pub major : ℕ
  pub string : major < 4
  pub ok : AreChunksOk chunks
  pub is : drop start b ≡ chunks_bytes major chunks ++ 255 ∷ after

-- chunks that begin here hold so many bytes together, and end with their break at `end`
abbrev pub AreSizedAt : List ℕ → ℕ → ℕ → ℕ → Type 0
AreSizedAt b start len end = (cs : List Chunk) (after : List ℕ) → AreChunksFrom b start cs after → (length (joined cs) ≡ len) × (drop end b ≡ after)

-- of chunks that begin here the first holds this, and the others are from `end` on
abbrev pub IsPieceAt : List ℕ → ℕ → List ℕ → ℕ → Type 0
IsPieceAt b at piece end = (cs : List Chunk) (after : List ℕ) → AreChunksFrom b at cs after → (ds : List Chunk) × (joined cs ≡ piece ++ joined ds) × AreChunksFrom b end ds after

-- the bytes of chunks from this offset on, or none
abbrev pub HasChunks : List ℕ → Option ℕ → List ℕ → Type 0
HasChunks b None s = s ≡ []
HasChunks b (Some at) s = (cs : List Chunk) × (after : List ℕ) × AreChunksFrom b at cs after × (s ≡ joined cs)

-- the content has these bytes
abbrev pub HasContent : List ℕ → Content → List ℕ → Type 0
HasContent b c s = (t : List ℕ) × HasChunks b c.chunks t × (s ≡ c.front.now ++ t)

-- the same, and its front is empty only if there are none
abbrev pub IsFilled : List ℕ → Content → List ℕ → Type 0
IsFilled b c s = HasContent b c s × (c.front.now ≡ [] → s ≡ [])

abbrev pub chunks_size : List ℕ → Option ℕ → ℕ
chunks_size b None = 0
chunks_size b (Some at) = length b - at

-- how many bytes of b there are at most to go through
abbrev pub content_size : List ℕ → Content → ℕ
content_size b c = length c.front.now + chunks_size b c.chunks

-- The lists are equal, or they are in this order whatever comes after them.
abbrev pub IsTold : Ordering → List ℕ → List ℕ → Type 0
IsTold Equal s t = s ≡ t
IsTold o s t = (u v : List ℕ) → slice_cmp nat_cmp (s ++ u) (t ++ v) ≡ o
