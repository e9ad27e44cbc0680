-- What a tape over bytes says of an item: for each of its places, where it is in the bytes, and which place comes after it.
use Rattle.std.specs.Prelude.{◌≡◌, ℕ, suc, ◌+◌, List, [], ◌∷◌, ◌++◌, take, drop}
use Rattle.cbor_data.specs.Value.{Value, place_count, places}
use Rattle.cbor_data.specs.Validity.{IsValid}
use Rattle.cbor_data.specs.Forms.{Spells}
use Rattle.read_items.specs.Whole.Whole.{IsWholeItem}
use Rattle.cbor_tape.specs.declared.entry.Entry.{Entry}

-- The entry of the item x at this place: from its head on the bytes b have a spelling of x, and `next` is the place after x
-- and all that is below it.
pub record IsEntryOf (b : List ℕ) (place : ℕ) (x : Value) (e : Entry) : Type 0 where
  pub spelling : List ℕ
  pub after : List ℕ
  pub spells : Spells x spelling
  pub is : drop e.head b ≡ spelling ++ after
  pub next : e.next ≡ place + place_count x

-- the entries of these items, the first of which is at this place, one by one
abbrev pub AreEntriesOf : List ℕ → ℕ → List Value → List Entry → Type 0
AreEntriesOf b place [] [] = Unit {0}
AreEntriesOf b place (x ∷ xs) (e ∷ es) = IsEntryOf b place x e × AreEntriesOf b (suc place) xs es
AreEntriesOf b place _ _ = ⊥

-- The tape t over the bytes b stands for the item x: it has an entry for each place of x, in preorder.
abbrev pub StandsFor : List ℕ → List Entry → Value → Type 0
StandsFor b t x = AreEntriesOf b 0 (places x) t

-- The first n bytes of b spell a valid item no deeper than this, and the front of the tape stands for it.
pub record IsWholeTape (depth : ℕ) (b : List ℕ) (t : List Entry) (n : ℕ) : Type 0 where
  pub value : Value
  pub whole : IsWholeItem depth b value n
  pub valid : IsValid value
  pub stands : StandsFor b (take (place_count value) t) value
