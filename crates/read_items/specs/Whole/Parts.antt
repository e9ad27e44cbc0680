-- What is read where in bytes.
use Rattle.std.specs.Prelude.{◌≡◌, ℕ, ◌+◌, ◌-◌, ◌/◌, ◌==◌, ◌<◌, ◌≤◌, List, [], ◌∷◌, ◌++◌, length, take, drop, slice_index, if◌then◌else◌, IsUtf8, Option, Some, None}
use Rattle.cbor_data.specs.declared.Width.TheVariants.{W16, W32, W64}
use Rattle.cbor_data.specs.Value.{Value, bytes, text, array, pairs, tag, simple, float, AreBytes, depth_of, values_depth, pairs_depth}
use Rattle.item_nodes.specs.View.{view}
use Rattle.item_nodes.specs.declared.item.Item.{Item}
use Rattle.cbor_data.specs.Forms.{ArgumentSize, head_in, FitsSize, Chunk, chunks_bytes, joined, AreChunksOk, AllText, Form, Forms, PairForms, forms_len, pair_forms_len, flat, forms_flat, pair_forms_flat, IsOk, AreFormsOk, ArePairFormsOk, meaning, meanings, pair_meanings, HasText, HaveText, HavePairsText}

-- a definite head with the argument n is in b from `at` up to `end`
pub record IsArgumentAt (b : List ℕ) (at n end : ℕ) : Type 0 where
  pub size : ArgumentSize
  pub fits : FitsSize size n
  pub placed : end ≡ at + length (head_in size (slice_index b at / 32) n)
  pub within : end ≤ length b
  pub is : drop at b ≡ head_in size (slice_index b at / 32) n ++ drop end b

-- the byte string x is so many bytes of b from `start` up to `end`
pub record IsBytesAt (b : List ℕ) (start len : ℕ) (x : Value) (end : ℕ) : Type 0 where
  pub within : start + len ≤ length b
  pub placed : end ≡ start + len
  pub is : x ≡ bytes (take len (drop start b))

-- the text x is so many bytes of b from `start` up to `end`
pub record IsTextAt (b : List ℕ) (start len : ℕ) (x : Value) (end : ℕ) : Type 0 where
  pub within : start + len ≤ length b
  pub placed : end ≡ start + len
  pub is : x ≡ text (take len (drop start b))
  pub text : IsUtf8 (take len (drop start b))

-- a break is in b at `at`
abbrev pub IsBreak : List ℕ → ℕ → Type 0
IsBreak b at = (at < length b) × (slice_index b at ≡ 255)

-- a chunk of this major type with this content is in b from `at` up to `end`; a text's is UTF-8 by itself
pub record IsChunkAt (major : ℕ) (b : List ℕ) (at : ℕ) (content : List ℕ) (end : ℕ) : Type 0 where
  pub size : ArgumentSize
  pub fits : FitsSize size (length content)
  pub bytes : AreBytes content
  pub text : major ≡ 3 → IsUtf8 content
  pub placed : end ≡ at + length (head_in size major (length content) ++ content)
  pub is : drop at b ≡ (head_in size major (length content) ++ content) ++ drop end b

-- chunks of this major type with this content together are in b from `start` up to `end`
pub record AreChunksAt (major : ℕ) (b : List ℕ) (start : ℕ) (content : List ℕ) (end : ℕ) : Type 0 where
  pub chunks : List Chunk
  pub ok : AreChunksOk chunks
  pub text : major ≡ 3 → AllText chunks
  pub holds : content ≡ joined chunks
  pub placed : end ≡ start + length (chunks_bytes major chunks)
  pub is : drop start b ≡ chunks_bytes major chunks ++ drop end b

-- and a break after them, with which they end
pub record AreJoinedAt (major : ℕ) (b : List ℕ) (start : ℕ) (content : List ℕ) (end : ℕ) : Type 0 where
  pub stop : ℕ
  pub there : AreChunksAt major b start content stop
  pub ends : IsBreak b stop
  pub placed : end ≡ stop + 1

-- the string x of this major type is the content of such chunks
pub record IsJoinedAt (major : ℕ) (string : List ℕ → Value) (b : List ℕ) (start : ℕ) (x : Value) (end : ℕ) : Type 0 where
  pub content : List ℕ
  pub there : AreJoinedAt major b start content end
  pub meant : x ≡ string content

-- additional information of a definite head, with the argument it may have
abbrev pub IsInfo : ℕ → ℕ → Type 0
IsInfo info n = (info < 28) × (info < 25 → n < 256)

-- the simple value or the float of a head of major type 7
pub record IsSimpleOrFloat (info n : ℕ) (x : Value) : Type 0 where
  pub is : x ≡ (if info == 25 then float W16 n else (if info == 26 then float W32 n else (if info == 27 then float W64 n else simple n)))
  pub assignable : info ≡ 24 → 32 ≤ n

-- an item no deeper than this is in b from `at` up to `end`
pub record IsItemAt (depth : ℕ) (b : List ℕ) (at : ℕ) (x : Value) (end : ℕ) : Type 0 where
  pub written : Form
  pub ok : IsOk written
  pub text : HasText written
  pub meant : x ≡ meaning written
  pub shallow : depth_of x ≤ depth
  pub placed : end ≡ at + length (flat written)
  pub is : drop at b ≡ flat written ++ drop end b

-- forms no deeper than this are in b from `start` up to `end`
pub record AreFormsAt (depth : ℕ) (b : List ℕ) (start : ℕ) (fs : Forms) (end : ℕ) : Type 0 where
  pub ok : AreFormsOk fs
  pub text : HaveText fs
  pub shallow : values_depth (meanings fs) ≤ depth
  pub placed : end ≡ start + length (forms_flat fs)
  pub is : drop start b ≡ forms_flat fs ++ drop end b

-- a list of so many parts, or of those up to a break, ends in b at `at`, where so many parts are before
abbrev pub IsEnd : Option ℕ → ℕ → List ℕ → ℕ → Type 0
IsEnd (Some count) read b at = read ≡ count
IsEnd None read b at = IsBreak b at

-- how many bytes the end has
abbrev pub end_length : Option ℕ → ℕ
end_length (Some count) = 0
end_length None = 1

-- the array x of so many members, or of those up to a break, which are in b from `start` up to `end`
pub record IsArrayAt (depth : ℕ) (count : Option ℕ) (b : List ℕ) (start : ℕ) (x : Value) (end : ℕ) : Type 0 where
  pub written : Forms
  pub stop : ℕ
  pub some : 0 < depth
  pub there : AreFormsAt (depth - 1) b start written stop
  pub ends : IsEnd count (forms_len written) b stop
  pub placed : end ≡ stop + end_length count
  pub meant : x ≡ array (meanings written)

-- forms of pairs no deeper than this are in b from `start` up to `end`
pub record ArePairsAt (depth : ℕ) (b : List ℕ) (start : ℕ) (ps : PairForms) (end : ℕ) : Type 0 where
  pub ok : ArePairFormsOk ps
  pub text : HavePairsText ps
  pub shallow : pairs_depth (pair_meanings ps) ≤ depth
  pub placed : end ≡ start + length (pair_forms_flat ps)
  pub is : drop start b ≡ pair_forms_flat ps ++ drop end b

-- the map x of so many pairs, or of those up to a break, which are in b from `start` up to `end`
pub record IsMapAt (depth : ℕ) (count : Option ℕ) (b : List ℕ) (start : ℕ) (x : Value) (end : ℕ) : Type 0 where
  pub written : PairForms
  pub stop : ℕ
  pub some : 0 < depth
  pub there : ArePairsAt (depth - 1) b start written stop
  pub ends : IsEnd count (pair_forms_len written) b stop
  pub placed : end ≡ stop + end_length count
  pub meant : x ≡ pairs (pair_meanings written)

-- the tag x of this number, whose content is in b from `start` up to `end`
pub record IsTagAt (depth number : ℕ) (b : List ℕ) (start : ℕ) (x : Value) (end : ℕ) : Type 0 where
  pub content : Value
  pub some : 0 < depth
  pub there : IsItemAt (depth - 1) b start content end
  pub meant : x ≡ tag number content

-- a member that is in b from `at` up to `end` has come to the others
pub record IsMemberAt (depth : ℕ) (b : List ℕ) (at : ℕ) (before after : List Item) (end : ℕ) : Type 0 where
  pub member : Item
  pub there : IsItemAt depth b at (view member) end
  pub more : after ≡ before ++ member ∷ []
