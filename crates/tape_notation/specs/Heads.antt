-- Heads and forms that are surely in bytes.
use Rattle.std.specs.Prelude.{◌≡◌, ℕ, ◌+◌, ◌≤◌, List, ◌∷◌, ◌++◌, drop, length}
use Rattle.cbor_data.specs.Forms.{ArgumentSize, head_in, FitsSize, Chunk, AreChunksOk, chunks_bytes, joined, Form, IsOk, flat, meaning}
use Rattle.cbor_data.specs.Notation.{notation}

-- a definite head of this major type with the argument n is in b at `at`
pub record IsHeadAt (b : List ℕ) (at major n : ℕ) : Type 0 where
  pub size : ArgumentSize
  pub fits : FitsSize size n
  pub after : List ℕ
  pub is : drop at b ≡ head_in size major n ++ after

abbrev pub HasHead : List ℕ → ℕ → Type 0
HasHead b at = (major : ℕ) × (n : ℕ) × IsHeadAt b at major n

-- n is the argument of the head of b at `at`, and the head ends at `start`
abbrev pub IsReadAt : List ℕ → ℕ → ℕ → ℕ → Type 0
IsReadAt b at n start = (major m : ℕ) → (h : IsHeadAt b at major m) → (n ≡ m) × (start ≤ length b) × (drop start b ≡ h.after)

-- the form is in b at `at`
pub record IsFormAt (b : List ℕ) (at : ℕ) (f : Form) : Type 0 where
  pub ok : IsOk f
  pub after : List ℕ
  pub is : drop at b ≡ flat f ++ after

-- a form is in b at `at`, and its notation has room in so many bytes from `start` on
pub record HasForm (b : List ℕ) (at start len : ℕ) : Type 0 where
  pub form : Form
  pub there : IsFormAt b at form
  pub room : start + length (notation (meaning form)) ≤ len

-- chunks of this major type are in b from `start` on, and a break after them
pub record AreChunksFrom (major : ℕ) (b : List ℕ) (start : ℕ) (chunks : List Chunk) : Type 0 where
  pub ok : AreChunksOk chunks
  pub after : List ℕ
  pub is : drop start b ≡ chunks_bytes major chunks ++ 255 ∷ after

-- chunks are there, and what is shown of what they hold has room in so many bytes from `at` on
pub record HaveChunks (image : List ℕ → List ℕ) (major : ℕ) (b : List ℕ) (start at len : ℕ) : Type 0 where
  pub chunks : List Chunk
  pub there : AreChunksFrom major b start chunks
  pub room : at + length (image (joined chunks)) ≤ len
