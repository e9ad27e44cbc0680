-- What is read where in bytes, and what of the tape is written.
use Rattle.std.specs.Prelude.{◌≡◌, ℕ, ◌+◌, ◌-◌, ◌<◌, List, [], ◌∷◌, ◌++◌, length, take, Option, false, slice_index_or}
use Rattle.cbor_data.specs.Value.{Value, place_count, values_place_count, pairs_place_count, places, values_places, pairs_places}
use Rattle.cbor_data.specs.Validity.{IsValid}
use Rattle.cbor_data.specs.Forms.{Forms, PairForms, forms_len, pair_forms_len, meanings, pair_meanings}
use Rattle.item_nodes.specs.Apart.{has_parts, AreKeysApart, ArePartsValid, AreValuesValid}
use Rattle.read_items.specs.Whole.Parts.{AreFormsAt, AreJoinedAt, ArePairsAt, IsEnd, IsItemAt, end_length}
use Rattle.cbor_tape.specs.declared.entry.Entry.{Entry}
use Rattle.cbor_tape.specs.Tape.{AreEntriesOf}

-- an item without parts is in b from `at` up to `end`
pub record IsLeafAt (b : List ℕ) (at end : ℕ) : Type 0 where
  pub value : Value
  pub plain : has_parts value ≡ false
  pub there : IsItemAt 0 b at value end

-- chunks of this major type are in b from `start` on, with a break at their end
pub record AreSomeChunksAt (major : ℕ) (b : List ℕ) (start end : ℕ) : Type 0 where
  pub content : List ℕ
  pub there : AreJoinedAt major b start content end

-- A valid item no deeper than this is in b from `at` up to `end`. From this place on the tape has its entries, up to the place
-- `next`; before, it is as it was.
pub record IsTapedAt (depth : ℕ) (b : List ℕ) (at place : ℕ) (old new : List Entry) (end next : ℕ) : Type 0 where
  pub value : Value
  pub there : IsItemAt depth b at value end
  pub valid : IsValid value
  pub counted : next ≡ place + place_count value
  pub entries : List Entry
  pub stand : AreEntriesOf b place (places value) entries
  pub tape : take next new ≡ take place old ++ entries

-- the next place that the entry of this place has
abbrev pub next_at : List Entry → ℕ → ℕ
next_at t place = (slice_index_or t place (record { head = 0; next = 0 })).next

-- forms of valid items no deeper than this are in b from `start` up to `end`, and from this place on the tape has their entries
pub record AreTapedAt (depth : ℕ) (b : List ℕ) (start place : ℕ) (old new : List Entry) (fs : Forms) (end next : ℕ) : Type 0 where
  pub there : AreFormsAt depth b start fs end
  pub valid : AreValuesValid (meanings fs)
  pub counted : next ≡ place + values_place_count (meanings fs)
  pub entries : List Entry
  pub stand : AreEntriesOf b place (values_places (meanings fs)) entries
  pub tape : take next new ≡ take place old ++ entries

-- the same of pairs
pub record ArePairsTapedAt (depth : ℕ) (b : List ℕ) (start place : ℕ) (old new : List Entry) (ps : PairForms) (end next : ℕ) : Type 0 where
  pub there : ArePairsAt depth b start ps end
  pub valid : ArePartsValid (pair_meanings ps)
  pub counted : next ≡ place + pairs_place_count (pair_meanings ps)
  pub entries : List Entry
  pub stand : AreEntriesOf b place (pairs_places (pair_meanings ps)) entries
  pub tape : take next new ≡ take place old ++ entries

-- the members of an array, so many or those up to a break, which are in b from `start` on
pub record AreMembersTapedAt (depth : ℕ) (count : Option ℕ) (b : List ℕ) (start place : ℕ) (old new : List Entry) (end next : ℕ) : Type 0 where
  pub written : Forms
  pub stop : ℕ
  pub some : 0 < depth
  pub there : AreTapedAt (depth - 1) b start place old new written stop next
  pub ends : IsEnd count (forms_len written) b stop
  pub placed : end ≡ stop + end_length count

-- the same of the pairs of a map; no key is the same as another
pub record AreMapPairsTapedAt (depth : ℕ) (count : Option ℕ) (b : List ℕ) (start place : ℕ) (old new : List Entry) (end next : ℕ) : Type 0 where
  pub written : PairForms
  pub stop : ℕ
  pub some : 0 < depth
  pub there : ArePairsTapedAt (depth - 1) b start place old new written stop next
  pub apart : AreKeysApart [] (pair_meanings written)
  pub ends : IsEnd count (pair_forms_len written) b stop
  pub placed : end ≡ stop + end_length count

-- the content of a tag
pub record IsContentTapedAt (depth : ℕ) (b : List ℕ) (start place : ℕ) (old new : List Entry) (end next : ℕ) : Type 0 where
  pub some : 0 < depth
  pub there : IsTapedAt (depth - 1) b start place old new end next

-- a valid item no deeper than this is in b from `at` up to `end`, and from this place on the tape has the entries of what is
-- below it
pub record IsInsideTapedAt (depth : ℕ) (b : List ℕ) (at place : ℕ) (old new : List Entry) (end next : ℕ) : Type 0 where
  pub value : Value
  pub there : IsItemAt depth b at value end
  pub valid : IsValid value
  pub below : List Value
  pub all : places value ≡ value ∷ below
  pub counted : next ≡ place + length below
  pub entries : List Entry
  pub stand : AreEntriesOf b place below entries
  pub tape : take next new ≡ take place old ++ entries
