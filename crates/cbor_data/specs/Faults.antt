-- What is wrong with the bytes that are where an item should be: the fault of a rest, from the bytes alone.
use Rattle.std.specs.Prelude.{◌≡◌, ◌≢◌, ℕ, suc, ◌+◌, ◌-◌, ◌/◌, ◌%◌, ◌^◌, ◌<◌, ◌≤◌, ◌⊎◌, List, [], ◌∷◌, ◌++◌, length, take, slice_index, IsUtf8}
use Rattle.cbor_data.specs.Value.{Value, depth_of}
use Rattle.cbor_data.specs.Validity.{IsValid, IsFirstRepeatedKey}
use Rattle.cbor_data.specs.Preferred.{initial}
use Rattle.cbor_data.specs.Forms.{Form, text_form, text_chunks, array_form, array_to_break, pairs_form, pairs_to_break, tag_form, Forms, no_forms, form, PairForms, no_pair_forms, pair_form, Chunk, chunk_bytes, head_in, forms_len, pair_forms_len, flat, IsOk, meaning, HasText, Spells, Begins, IsUnfinished}
use Rattle.cbor_data.specs.declared.FaultKind.{FaultKind}
use Rattle.cbor_data.specs.declared.FaultKind.TheVariants.{ReservedInfo, BadIndefinite, BadBreak, BadChunk, BadSimple, TooDeep, TooLong, Truncated, BadText, DuplicateKey}

-- what is allowed: the greatest depth of an item, and the most bytes of one
pub record Bounds : Type 0 where
  pub depth : ℕ
  pub item_bytes : ℕ

-- an offset that no byte of a stream may have
abbrev pub last_offset : ℕ
last_offset = 2 ^ 64 - 1

-- After b an item is awaited: `00` may come next.
abbrev pub AwaitsItem : List ℕ → Type 0
AwaitsItem b = Begins (b ++ 0 ∷ [])

-- After b a chunk of the byte string (2) or text string (3) that is open is awaited:
-- the empty string of that major type may come next, and that of the other may not.
pub record AwaitsChunk (major : ℕ) (b : List ℕ) : Type 0 where
  pub string : (major ≡ 2) ⊎ (major ≡ 3)
  pub this : Begins (b ++ initial major 0 ∷ [])
  pub not_that : Begins (b ++ initial (5 - major) 0 ∷ []) → ⊥

-- After b the byte after `f8` is awaited: neither an item nor a chunk is, and not any byte may come.
pub record AwaitsSimple (b : List ℕ) : Type 0 where
  pub not_item : AwaitsItem b → ⊥
  pub not_chunk : (major : ℕ) → AwaitsChunk major b → ⊥

-- additional information 28 to 30
abbrev pub IsReserved : ℕ → Type 0
IsReserved byte = (28 ≤ byte % 32) × (byte % 32 ≤ 30)

-- What is wrong where `byte` comes after b and nothing well-formed begins so (RFC 8949 sections 3 to 3.3).
abbrev pub IsKindOf : List ℕ → ℕ → FaultKind → Type 0
IsKindOf b byte ReservedInfo = (AwaitsItem b × IsReserved byte) ⊎ (AwaitsChunk (byte / 32) b × IsReserved byte)
IsKindOf b byte BadIndefinite = AwaitsItem b × (byte % 32 ≡ 31) × (byte / 32 ≢ 7)
IsKindOf b byte BadBreak = AwaitsItem b × (byte ≡ 255)
IsKindOf b byte BadChunk = (major : ℕ) × AwaitsChunk major b × ((byte / 32 ≢ major) ⊎ (byte % 32 ≡ 31))
IsKindOf b byte BadSimple = AwaitsSimple b
IsKindOf b byte _ = ⊥

-- some well-formed list of an item no deeper than this begins so
pub record BeginsWithin (depth : ℕ) (b : List ℕ) : Type 0 where
  pub more : List ℕ
  pub written : Form
  pub ok : IsOk written
  pub is : b ++ more ≡ flat written
  pub shallow : depth_of (meaning written) ≤ depth

-- At p is a fault of form, and what is before it begins some well-formed list.
-- `o` is the stream's offset of b's first byte.
pub data IsFormFaultAt (l : Bounds) (o : ℕ) (b : List ℕ) (p : ℕ) : FaultKind → Type 0 where
  -- with its byte nothing well-formed begins
  malformed : {kind : FaultKind} → p < length b → (Begins (take (p + 1) b) → ⊥) → IsKindOf (take p b) (slice_index b p) kind → IsFormFaultAt l o b p kind
  -- with its byte something begins, but only what is too deep: it is the head of a container inside `depth` open ones
  deep : p < length b → Begins (take (p + 1) b) → (BeginsWithin l.depth (take (p + 1) b) → ⊥) → IsFormFaultAt l o b p TooDeep
  -- the item has all its bytes already, or its byte is at an offset that no byte may have
  long : BeginsWithin l.depth (take (p + 1) b) → (p ≡ l.item_bytes) ⊎ ((p < length b) × (o + p ≡ last_offset)) → IsFormFaultAt l o b p TooLong

-- Nothing is wrong with the form of b before p.
abbrev pub IsClearBefore : Bounds → ℕ → List ℕ → ℕ → Type 0
IsClearBefore l o b p = (q : ℕ) (kind : FaultKind) → q < p → IsFormFaultAt l o b q kind → ⊥

-- the first of the chunks that is not UTF-8 by itself has its head this far after the first chunk's
abbrev pub IsBadChunkAt : List Chunk → ℕ → Type 0
IsBadChunkAt [] i = ⊥
IsBadChunkAt (c ∷ cs) i =
    ((i ≡ 0) × (IsUtf8 c.content → ⊥))
    ⊎ ((j : ℕ) × (i ≡ length (chunk_bytes 3 c) + j) × IsUtf8 c.content × IsBadChunkAt cs j)

-- the first text chunk of a form that is not UTF-8 by itself has its head this far after the form's first byte
abbrev mutual
  pub IsBadTextAt : Form → ℕ → Type 0
  IsBadTextAt (text_form p s) i = (i ≡ 0) × (IsUtf8 s → ⊥)
  IsBadTextAt (text_chunks cs) i = (j : ℕ) × (i ≡ suc j) × IsBadChunkAt cs j
  IsBadTextAt (array_form p fs) i = (j : ℕ) × (i ≡ length (head_in p 4 (forms_len fs)) + j) × IsBadTextAmong fs j
  IsBadTextAt (array_to_break fs) i = (j : ℕ) × (i ≡ suc j) × IsBadTextAmong fs j
  IsBadTextAt (pairs_form p ps) i = (j : ℕ) × (i ≡ length (head_in p 5 (pair_forms_len ps)) + j) × IsBadTextAmongPairs ps j
  IsBadTextAt (pairs_to_break ps) i = (j : ℕ) × (i ≡ suc j) × IsBadTextAmongPairs ps j
  IsBadTextAt (tag_form p n f) i = (j : ℕ) × (i ≡ length (head_in p 6 n) + j) × IsBadTextAt f j
  IsBadTextAt _ i = ⊥

  pub IsBadTextAmong : Forms → ℕ → Type 0
  IsBadTextAmong no_forms i = ⊥
  IsBadTextAmong (form f fs) i = IsBadTextAt f i ⊎ (HasText f × ((j : ℕ) × (i ≡ length (flat f) + j) × IsBadTextAmong fs j))

  pub IsBadTextAmongPairs : PairForms → ℕ → Type 0
  IsBadTextAmongPairs no_pair_forms i = ⊥
  IsBadTextAmongPairs (pair_form k v ps) i =
      IsBadTextAt k i
      ⊎ ((HasText k × ((j : ℕ) × (i ≡ length (flat k) + j) × IsBadTextAt v j))
      ⊎ (HasText k × HasText v × ((j : ℕ) × (i ≡ length (flat k) + (length (flat v) + j)) × IsBadTextAmongPairs ps j)))

-- the first n bytes of b are well-formed and bounded, and nothing in them is wrong but what is reported for the whole
pub record IsWholeFront (l : Bounds) (o : ℕ) (b : List ℕ) (n : ℕ) (f : Form) : Type 0 where
  pub within : n ≤ length b
  pub ok : IsOk f
  pub is : take n b ≡ flat f
  pub before : IsClearBefore l o b n

-- The fault of the bytes b, which are where an item should be, b's first byte at offset o of the stream:
-- its kind, and where (an offset in the stream; for a repeated key a place in the item).
pub data IsFaultOf (l : Bounds) (o : ℕ) (b : List ℕ) : FaultKind → ℕ → Type 0 where
  -- the least place where the form goes wrong
  of_form : {kind : FaultKind} {at : ℕ} (p : ℕ) → p ≤ length b → IsUnfinished (take p b) → IsFormFaultAt l o b p kind → IsClearBefore l o b p → at ≡ o + p → IsFaultOf l o b kind at
  -- the bytes end inside an item
  of_end : {at : ℕ} → b ≢ [] → IsUnfinished b → IsClearBefore l o b (suc (length b)) → at ≡ o + length b → IsFaultOf l o b Truncated at
  -- a text chunk of a well-formed item is not UTF-8
  of_text : {at : ℕ} (n i : ℕ) (f : Form) → IsWholeFront l o b n f → IsBadTextAt f i → at ≡ o + i → IsFaultOf l o b BadText at
  -- an item repeats a key
  of_key : {at : ℕ} (n : ℕ) (f : Form) → IsWholeFront l o b n f → HasText f → IsFirstRepeatedKey (meaning f) at → IsFaultOf l o b DuplicateKey at

-- The bytes b, at offset o of the stream, spell the valid item x within the bounds.
pub record IsItem (l : Bounds) (o : ℕ) (x : Value) (b : List ℕ) : Type 0 where
  pub spells : Spells x b
  pub valid : IsValid x
  pub shallow : depth_of x ≤ l.depth
  pub short : length b ≤ l.item_bytes
  pub placed : o + length b ≤ last_offset
