-- What is at the places of a tape.
use Rattle.std.specs.Prelude.{◌≡◌, ℕ, ◌+◌, ◌<◌, List, ◌++◌, drop}
use Rattle.cbor_data.specs.Value.{Value, uint, nint, bytes, text, array, pairs, tag, simple, float, Values, value, Pairs, pair, places, values_places, pairs_places, values_place_count, pairs_place_count}
use Rattle.cbor_data.specs.Forms.{Spells}
use Rattle.cbor_tape.specs.Tape.{AreEntriesOf}
use Rattle.cbor_tape.specs.declared.entry.Entry.{Entry}
use Rattle.cbor_tape.specs.declared.places.Taped.{Taped}
use Rattle.cbor_tape.specs.declared.places.Seen.{Seen}
use Rattle.cbor_tape.specs.declared.places.Seen.TheVariants as S

-- the major type of an item (RFC 8949 section 3.1)
abbrev pub major_type : Value → ℕ
major_type (uint n) = 0
major_type (nint n) = 1
major_type (bytes s) = 2
major_type (text s) = 3
major_type (array xs) = 4
major_type (pairs ps) = 5
major_type (tag n x) = 6
major_type (simple n) = 7
major_type (float w n) = 7

-- from this place on the tape t over the bytes b has the entries of these items
pub record AreOn (b : List ℕ) (t : List Entry) (place : ℕ) (xs : List Value) : Type 0 where
  pub entries : List Entry
  pub after : List Entry
  pub stand : AreEntriesOf b place xs entries
  pub is : drop place t ≡ entries ++ after

-- the item is at this place, with all that is below it
abbrev pub IsAt : Taped → ℕ → Value → Type 0
IsAt t place x = AreOn t.bytes.now t.tape.now place (places x)

-- items, one after the other, have the places from this one up to `end`; and so do pairs
pub record AreAt (t : Taped) (place end : ℕ) (xs : Values) : Type 0 where
  pub on : AreOn t.bytes.now t.tape.now place (values_places xs)
  pub counted : end ≡ place + values_place_count xs

pub record ArePairsAt (t : Taped) (place end : ℕ) (ps : Pairs) : Type 0 where
  pub on : AreOn t.bytes.now t.tape.now place (pairs_places ps)
  pub counted : end ≡ place + pairs_place_count ps

-- the first of these items is at this place, and the others are from the place `next` on
pub record IsFirstOf (t : Taped) (place end next : ℕ) (xs : Values) : Type 0 where
  pub first : Value
  pub others : Values
  pub split : xs ≡ value first others
  pub here : IsAt t place first
  pub there : AreAt t next end others
  pub ahead : place < next

-- the key of the first of these pairs is at this place, its value at `held`, and the others are from the place `next` on
pub record IsFirstPairOf (t : Taped) (place end held next : ℕ) (ps : Pairs) : Type 0 where
  pub key : Value
  pub value : Value
  pub others : Pairs
  pub split : ps ≡ pair key value others
  pub key_here : IsAt t place key
  pub value_here : IsAt t held value
  pub there : ArePairsAt t next end others
  pub ahead : place < next

-- what is seen of an item on the tape
abbrev pub IsSeen : Taped → Value → Seen → Type 0
IsSeen t x (S.Uint n) = x ≡ uint n
IsSeen t x (S.Nint n) = x ≡ nint n
IsSeen t x (S.Bytes s) = x ≡ bytes s.now
IsSeen t x (S.Text s) = x ≡ text s.now
IsSeen t x (S.Array first end) = (xs : Values) × (x ≡ array xs) × AreAt t first end xs
IsSeen t x (S.Map first end) = (ps : Pairs) × (x ≡ pairs ps) × ArePairsAt t first end ps
IsSeen t x (S.Tag n content) = (y : Value) × (x ≡ tag n y) × IsAt t content y
IsSeen t x (S.Simple n) = x ≡ simple n
IsSeen t x (S.Float w n) = x ≡ float w n

-- the same of an item without parts
abbrev pub IsLeaf : Value → Seen → Type 0
IsLeaf x (S.Uint n) = x ≡ uint n
IsLeaf x (S.Nint n) = x ≡ nint n
IsLeaf x (S.Bytes s) = x ≡ bytes s.now
IsLeaf x (S.Text s) = x ≡ text s.now
IsLeaf x (S.Simple n) = x ≡ simple n
IsLeaf x (S.Float w n) = x ≡ float w n
IsLeaf x _ = ⊥

-- an item that bytes spell at `head` is this leaf
abbrev pub IsLeafSeen : List ℕ → ℕ → Seen → Type 0
IsLeafSeen b head seen = (x : Value) (spelling after : List ℕ) → Spells x spelling → drop head b ≡ spelling ++ after → IsLeaf x seen

-- a tag that bytes spell at `head` has this number
abbrev pub IsTagSeen : List ℕ → ℕ → ℕ → Type 0
IsTagSeen b head n = (m : ℕ) (y : Value) (spelling after : List ℕ) → Spells (tag m y) spelling → drop head b ≡ spelling ++ after → m ≡ n
