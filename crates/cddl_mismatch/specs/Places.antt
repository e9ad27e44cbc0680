-- What is shown of a place of an item: its path, and what is there.
use Rattle.std.specs.Prelude.{◌≡◌, ℕ, List, [], ◌∷◌, ◌++◌, codes, Option, Some, None, slice_get}
use Rattle.cbor_data.specs.Value.{Value, places}
use Rattle.cbor_item.specs.Place.Paths.{paths}
use Rattle.cddl_meaning.specs.Forms.{Content, bytes_in}
use Rattle.cddl_meaning.specs.Held.{Holds}
use Rattle.mismatch_words.specs.Paths.{path_words}
use Rattle.mismatch_words.specs.Floats.{IsShownValue}

-- `<<>>`, to what a byte string holds, as in embedded CBOR in diagnostic notation (RFC 8949 section 8, RFC 8610 appendix G.3)
abbrev pub content_step : List ℕ
content_step = codes "<<>>"

abbrev pub steps_or_none : Option (List ℕ) → List ℕ
steps_or_none (Some steps) = steps
steps_or_none None = []

-- the steps to a place, if there is one
abbrev pub steps_to : Value → ℕ → List ℕ
steps_to x place = steps_or_none (slice_get (paths x) place)

-- what is there, if anything is
abbrev pub IsValueShown : Option Value → List ℕ → Type 0
IsValueShown None words = words ≡ []
IsValueShown (Some x) words = IsShownValue x words

-- The path, and what is there, where this path leads to the item.
abbrev pub AreWordsAt : (path : List ℕ) → Value → (place : ℕ) → List ℕ → Type 0
AreWordsAt path x place words = (value : List ℕ) × IsValueShown (slice_get (places x) place) value × (words ≡ path_words (path ++ steps_to x place) ++ (codes ": " ++ value))

-- At the place of the item is a byte string that holds this.
abbrev pub HoldsAt : Value → ℕ × Content → Value → Type 0
HoldsAt x string y = (found : Value) × (b : List ℕ) × (slice_get (places x) string.0 ≡ Some found) × (bytes_in found ≡ Some b) × Holds string.1 b y

-- The same of a place that counts in what the last of these byte strings holds; the place of each string counts in what the one
-- before it holds. A string that holds nothing is shown itself.
pub data ArePlaceWords : (path : List ℕ) → Value → (strings : List (ℕ × Content)) → (place : ℕ) → (words : List ℕ) → Type 0 where
  here : {path : List ℕ} {x : Value} {place : ℕ} {words : List ℕ} → AreWordsAt path x place words → ArePlaceWords path x [] place words
  inside : {path : List ℕ} {x y : Value} {string : ℕ × Content} {strings : List (ℕ × Content)} {place : ℕ} {words : List ℕ} → HoldsAt x string y → ArePlaceWords ((path ++ steps_to x string.0) ++ content_step) y strings place words → ArePlaceWords path x (string ∷ strings) place words
  unheld : {path : List ℕ} {x : Value} {string : ℕ × Content} {strings : List (ℕ × Content)} {place : ℕ} {words : List ℕ} → ((y : Value) → HoldsAt x string y → ⊥) → AreWordsAt path x string.0 words → ArePlaceWords path x (string ∷ strings) place words
