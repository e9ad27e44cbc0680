-- Keys of maps, by what tells them apart.
use Rattle.std.specs.Prelude.{◌≡◌, ℕ, suc, ◌/◌, ◌%◌, ◌==◌, ◌≤◌, List, [], ◌∷◌, ◌++◌, length, take, drop, if◌then◌else◌, Option, Some, None, false}
use Rattle.std.specs.Cmp.Lexicographic.{slice_cmp}
use Rattle.std.specs.List.{AllByRecursion}
use Rattle.std.specs.Ordering.{is_gt, nat_cmp}
use Rattle.std.specs.declared.cmp.Ordering.{Ordering}
use Rattle.std.specs.declared.cmp.Ordering.TheVariants.{Equal}
use Rattle.cbor_data.specs.declared.Width.TheVariants.{W16, W32, W64}
use Rattle.cbor_data.specs.Value.{Value, uint, nint, bytes, text, array, pairs, tag, simple, float, Values, no_values, value, Pairs, no_pairs, pair, values_len, pairs_len, pairs_places}
use Rattle.cbor_data.specs.Forms.{Form, IsOk, flat, meaning}
use Rattle.item_nodes.specs.Apart.{has_parts, AreKeysApart}
use Rattle.cbor_tape.specs.Tape.{AreEntriesOf}
use Rattle.cbor_tape.specs.declared.entry.Entry.{Entry}
use Rattle.cbor_tape.specs.declared.keys.Key.{Key}
use Rattle.cbor_tape.specs.declared.keys.Keys.{Keys}
use Rattle.cbor_tape.specs.declared.keys.Keys.TheVariants as V

-- What tells keys apart: the kind, a number, and what is after them. The kind is the major type, but where that is 7 it is another
-- one for simple values and for floats of each width. The number is an integer's own, how many bytes a string has, or members an
-- array, or pairs a map, a tag's number, a simple value, or a float's bits. After it come a string's bytes, what tells the
-- members of an array, or the content of a tag. Of a map it says no more, since its pairs may come in any order.
abbrev mutual
  pub mark : Value → List ℕ
  mark (uint n) = 0 ∷ n ∷ []
  mark (nint n) = 1 ∷ n ∷ []
  mark (bytes s) = 2 ∷ length s ∷ s
  mark (text s) = 3 ∷ length s ∷ s
  mark (array xs) = 4 ∷ values_len xs ∷ marks xs
  mark (pairs ps) = 5 ∷ pairs_len ps ∷ []
  mark (tag n x) = 6 ∷ n ∷ mark x
  mark (simple n) = 7 ∷ n ∷ []
  mark (float W16 n) = 8 ∷ n ∷ []
  mark (float W32 n) = 9 ∷ n ∷ []
  mark (float W64 n) = 10 ∷ n ∷ []

  pub marks : Values → List ℕ
  marks no_values = []
  marks (value x xs) = mark x ++ marks xs

abbrev pub mark_of : Key → List ℕ
mark_of key = key.kind ∷ key.argument ∷ key.string.now

abbrev pub key_marks : Pairs → List (List ℕ)
key_marks no_pairs = []
key_marks (pair k v ps) = mark k ∷ key_marks ps

-- an item with this mark is in b at `at`, if its texts are UTF-8
pub record IsKeyAt (b : List ℕ) (at : ℕ) (m : List ℕ) : Type 0 where
  pub written : Form
  pub ok : IsOk written
  pub after : List ℕ
  pub is : drop at b ≡ flat written ++ after
  pub marked : mark (meaning written) ≡ m

-- the same of an item with no parts, and it ends at `end`
pub record IsPlainAt (b : List ℕ) (at : ℕ) (m : List ℕ) (end : ℕ) : Type 0 where
  pub written : Form
  pub ok : IsOk written
  pub is : drop at b ≡ flat written ++ drop end b
  pub plain : has_parts (meaning written) ≡ false
  pub marked : mark (meaning written) ≡ m

-- the kind of the simple value or the float that begins with this byte and has this argument
abbrev pub IsLastKind : ℕ → ℕ → ℕ → Type 0
IsLastKind initial n kind = (initial / 32 ≡ 7) × (initial % 32 ≡ 24 → 32 ≤ n) × (kind ≡ (if initial % 32 == 25 then 8 else (if initial % 32 == 26 then 9 else (if initial % 32 == 27 then 10 else 7))))

-- none of the marks is this one
abbrev pub AreOther : List ℕ → List (List ℕ) → Type 0
AreOther m ms = AllByRecursion (λ n. n ≡ m → ⊥) ms

-- the tape has the entries of these pairs from the place `first` up to the place `last`
abbrev pub ArePairsOn : List ℕ → List Entry → ℕ → ℕ → Pairs → Type 0
ArePairsOn b t first last ps = AreEntriesOf b first (pairs_places ps) (drop first (take last t))

-- the key at this offset has the highest of the marks, or there is none
abbrev pub IsHighest : List ℕ → Option ℕ → List (List ℕ) → Type 0
IsHighest b None ms = ms ≡ []
IsHighest b (Some at) ms = (m : List ℕ) × IsKeyAt b at m × AllByRecursion (λ n. is_gt (slice_cmp nat_cmp n m) ≡ false) ms

-- The key at `at`, with this mark, is none of those whose pairs are on the tape and the highest of which is at `before`; with it
-- the highest is at `after`.
pub record IsWithKey (b : List ℕ) (t : List Entry) (first last : ℕ) (before : Option ℕ) (after : ℕ) (own : List ℕ) : Type 0 where
  pub new : (ps : Pairs) → ArePairsOn b t first last ps → IsHighest b before (key_marks ps) → AreOther own (key_marks ps)
  pub highest : (ms : List (List ℕ)) → IsHighest b before ms → IsHighest b (Some after) (ms ++ own ∷ [])

-- what is known of these keys
abbrev pub IsKnown : List ℕ → Keys → Pairs → Type 0
IsKnown b (V.Differ highest) ps = AreKeysApart [] ps × IsHighest b highest (key_marks ps)
IsKnown b V.Untold ps = Unit {0}

-- what is known of them with the key at `at`
abbrev pub IsKnownWith : List ℕ → List Entry → ℕ → ℕ → Keys → ℕ → Keys → Type 0
IsKnownWith b t first last (V.Differ before) at (V.Differ (Some after)) = (own : List ℕ) → IsKeyAt b at own → IsWithKey b t first last before after own
IsKnownWith b t first last known at V.Untold = Unit {0}
IsKnownWith b t first last _ at _ = ⊥

-- no mark is there twice
abbrev pub AreApart : List (List ℕ) → Type 0
AreApart [] = Unit {0}
AreApart (m ∷ ms) = AreOther m ms × AreApart ms

-- the pair at this place begins at `head`, and the next one is at `next`
abbrev pub IsPairOn : List ℕ → List Entry → ℕ → ℕ → ℕ → ℕ → Type 0
IsPairOn b t place last head next = (k v : Value) (ps : Pairs) → ArePairsOn b t place last (pair k v ps) → IsKeyAt b head (mark k) × ArePairsOn b t next last ps

-- keys with these marks, one by one, by their offsets
abbrev pub AreKeys : List ℕ → List (List ℕ) → List Entry → Type 0
AreKeys b [] [] = Unit {0}
AreKeys b (m ∷ ms) (e ∷ es) = IsKeyAt b e.head m × AreKeys b ms es
AreKeys b _ _ = ⊥

-- the same, with numbers from this one on
abbrev pub AreListed : List ℕ → ℕ → List (List ℕ) → List Entry → Type 0
AreListed b i [] [] = Unit {0}
AreListed b i (m ∷ ms) (e ∷ es) = IsKeyAt b e.head m × (e.next ≡ i) × AreListed b (suc i) ms es
AreListed b i _ _ = ⊥

-- the key at `at`, with this mark, is above those the highest of which is at `top`
pub record IsAbove (b : List ℕ) (top : Option ℕ) (at : ℕ) (own : List ℕ) : Type 0 where
  pub other : (ms : List (List ℕ)) → IsHighest b top ms → AreOther own ms
  pub highest : (ms : List (List ℕ)) → IsHighest b top ms → IsHighest b (Some at) (ms ++ own ∷ [])

-- the order of the keys at these offsets is this one, unless it is `Equal`, which says nothing
abbrev pub IsOrder : List ℕ → ℕ → ℕ → Ordering → Type 0
IsOrder b at other o = (m n : List ℕ) → IsKeyAt b at m → IsKeyAt b other n → (o ≡ Equal → ⊥) → slice_cmp nat_cmp m n ≡ o

-- the key at this place has another mark, and the next pair is at `next`
abbrev pub IsNext : List ℕ → List Entry → ℕ → ℕ → List ℕ → ℕ → Type 0
IsNext b t place last m next = (k v : Value) (ps : Pairs) → ArePairsOn b t place last (pair k v ps) → (mark k ≡ m → ⊥) × ArePairsOn b t next last ps
