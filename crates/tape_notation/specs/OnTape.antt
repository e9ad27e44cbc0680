-- Items whose entries are on a tape.
use Rattle.std.specs.Prelude.{◌≡◌, ℕ, ◌+◌, ◌<◌, ◌≤◌, List, length, slice_index_or}
use Rattle.cbor_data.specs.Notation.{notation}
use Rattle.cbor_data.specs.Value.{Value, Values, Pairs, array, pairs, tag, places, values_places, pairs_places, values_place_count, pairs_place_count}
use Rattle.cbor_tape.specs.Places.{AreOn}
use Rattle.cbor_tape.specs.Tape.{IsWholeTape}
use Rattle.cbor_tape.specs.declared.entry.Entry.{Entry}
use Rattle.tape_notation.specs.Heads.{IsHeadAt}

-- the tape t stands for an item that the first n bytes of b spell
abbrev pub IsTaped : List ℕ → List Entry → ℕ → Type 0
IsTaped b t n = (depth : ℕ) × IsWholeTape depth b t n

-- an item is on the tape from this place on, and its notation has room in so many bytes from `at` on
pub record HasItem (b : List ℕ) (t : List Entry) (place at len : ℕ) : Type 0 where
  pub item : Value
  pub on : AreOn b t place (places item)
  pub room : at + length (notation item) ≤ len

-- the members of an array are on the tape from this place up to the place `next`
pub record AreMembersOn (b : List ℕ) (t : List Entry) (place next : ℕ) (xs : Values) : Type 0 where
  pub on : AreOn b t place (values_places xs)
  pub counted : next ≡ place + values_place_count xs

-- the same of an array
pub record HasMembers (b : List ℕ) (t : List Entry) (place next at len : ℕ) : Type 0 where
  pub members : Values
  pub on : AreMembersOn b t place next members
  pub room : at + length (notation (array members)) ≤ len

-- the pairs of a map are on the tape from this place up to the place `next`
pub record ArePairsOn (b : List ℕ) (t : List Entry) (place next : ℕ) (ps : Pairs) : Type 0 where
  pub on : AreOn b t place (pairs_places ps)
  pub counted : next ≡ place + pairs_place_count ps

-- the same of a map
pub record HasPairs (b : List ℕ) (t : List Entry) (place next at len : ℕ) : Type 0 where
  pub all : Pairs
  pub on : ArePairsOn b t place next all
  pub room : at + length (notation (pairs all)) ≤ len

-- a tag of this number is in b at `at`, and its content is on the tape from this place on
pub record IsTagOn (b : List ℕ) (at : ℕ) (t : List Entry) (place n : ℕ) (x : Value) : Type 0 where
  pub head : IsHeadAt b at 6 n
  pub on : AreOn b t place (places x)

-- the same of a tag at `head`
pub record HasTag (b : List ℕ) (head : ℕ) (t : List Entry) (place at len : ℕ) : Type 0 where
  pub number : ℕ
  pub content : Value
  pub on : IsTagOn b head t place number content
  pub room : at + length (notation (tag number content)) ≤ len

-- the initial byte of an array, a map or a tag
abbrev pub IsNested : ℕ → Type 0
IsNested n = (128 ≤ n) × (n < 224)

-- the item at this place is one of these
abbrev pub IsNestedAt : List ℕ → List Entry → ℕ → Type 0
IsNestedAt b t place = IsNested (slice_index_or b (slice_index_or t place (record { head = 0; next = 0 })).head 0)
