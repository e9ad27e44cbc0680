-- What is found of a row from what is known of those that it needs, and what is known after that.
use Rattle.std.specs.Prelude.{◌≡◌, ◌≢◌, ◌<◌, ◌≤◌, ℕ, suc, nat_le, if◌then◌else◌, length, List, [], ◌∷◌, ◌++◌, Option, Some, None, option_map, Contains, replicate, slice_get, slice_index_or, slice_set}
use Rattle.cddl_literal.specs.Literals.{view}
use Rattle.cddl_literal.specs.Numbers.{Meaning}
use Rattle.cddl_literal.specs.declared.Literal.{Literal}
use Rattle.cddl_literal.specs.declared.Literal.TheVariants as LiteralV
use Rattle.cddl_literal.specs.declared.operators.Fault.{Fault}
use Rattle.std.specs.String.{string_len}
use Rattle.check_literals.specs.Values.Values.{Answers}
use Rattle.cddl_language.specs.Literals.{Means, computed_literal}
use Rattle.cddl_language.specs.Reach.{most_instances}
use Rattle.cddl_language.specs.Terms as L
use Rattle.check_terms.specs.Table.{Table}
use Rattle.check_literals.specs.declared.known.Outcome.{Outcome}
use Rattle.check_literals.specs.declared.known.Outcome.TheVariants as OutcomeV
use Rattle.check_literals.specs.declared.found.Found.{Found}
use Rattle.check_literals.specs.declared.found.Found.TheVariants as FoundV
use Rattle.check_literals.specs.declared.found.Progress.{Progress}
use Rattle.check_literals.specs.Literals.{literal_at, fault_at, computed_fault}
use Rattle.check_literals.specs.Needs.{Need, nothing, written, inside, choice, both, parts}
use Rattle.check_literals.specs.Written.{written_at}

-- what is reported through so many names takes as many at least
abbrev pub within : ℕ → ℕ → Option Meaning → Option Meaning
within names k v = if nat_le names k then v else None

abbrev pub names_at : Progress → ℕ → ℕ
names_at s n = slice_index_or s.names.items n 0

-- the literal of a row through so many names at most
abbrev pub value_within : Progress → ℕ → ℕ → Option Meaning
value_within s n k = within (names_at s n) k (literal_at s.literals n)

-- the place of a row's value

abbrev pub place_in : Option Outcome → Option ℕ
place_in (Some (OutcomeV.Value i)) = Some i
place_in _ = None

abbrev pub place_at : Progress → ℕ → Option ℕ
place_at s n = place_in (slice_get s.literals.rows.items n)

abbrev pub found_value : Progress → Found → ℕ → Option Meaning
found_value s FoundV.Nothing k = None
found_value s (FoundV.Faulty f) k = None
found_value s (FoundV.Shared p d) k = within d k (option_map view (slice_get s.literals.values.items p))
found_value s (FoundV.New l d) k = within d k (Some (view l))

abbrev pub found_fault : Found → Option Fault
found_fault (FoundV.Faulty f) = Some f
found_fault _ = None

-- it may be kept
abbrev pub IsFit : Progress → Found → Type 0
IsFit s FoundV.Nothing = Unit {0}
IsFit s (FoundV.Faulty f) = Unit {0}
IsFit s (FoundV.Shared p d) = (p < length s.literals.values.items) × (d ≤ most_instances)
IsFit s (FoundV.New l d) = d ≤ most_instances

-- what is known of so many rows: each value has a place, and takes as many names as there may be at most
pub record IsSound (count : ℕ) (s : Progress) : Type 0 where
  pub rows : length s.literals.rows.items ≡ count
  pub names : length s.names.items ≡ count
  pub places : (n i : ℕ) → slice_get s.literals.rows.items n ≡ Some (OutcomeV.Value i) → i < length s.literals.values.items
  pub few : (n : ℕ) → names_at s n ≤ most_instances

-- what is reported for a row that needs this, where `s` is reported for the other rows (`v`: its literal through so many names)
abbrev pub IsTold : Table → Need → (s : ℕ → ℕ → Option Meaning) (v : ℕ → Option Meaning) → Option Fault → Type 0
IsTold t nothing s v f = (k : ℕ) → v k ≡ None
IsTold t (written n) s v f = (w : L.Literal) → written_at t n ≡ Some w → (k : ℕ) → Answers (Means w) (v k)
IsTold t (inside n) s v f = (k : ℕ) → v k ≡ s n k
IsTold t (choice n) s v f = (v 0 ≡ None) × ((k : ℕ) → k < most_instances → v (suc k) ≡ s n k)
IsTold t (both c a b) s v f = ((k : ℕ) → v k ≡ computed_literal c (s a k) (s b k)) × (f ≡ computed_fault c (s a most_instances) (s b most_instances))

-- the row is known as what was found, and the others as before
pub record IsStep (t : Table) (count row : ℕ) (d : Need) (old new : Progress) : Type 0 where
  pub sound : IsSound count new
  pub told : IsTold t d (value_within old) (value_within new row) (fault_at new.literals row)
  pub values : (m : ℕ) → m ≢ row → (k : ℕ) → value_within new m k ≡ value_within old m k
  pub faults : (m : ℕ) → m ≢ row → fault_at new.literals m ≡ fault_at old.literals m

-- how what was found is kept

abbrev pub added : Found → List Literal
added (FoundV.New l d) = l ∷ []
added _ = []

-- the bytes of a string
abbrev pub literal_bytes : Literal → ℕ
literal_bytes (LiteralV.Text s) = string_len s
literal_bytes (LiteralV.Bytes v) = length v.items
literal_bytes _ = 0

-- the bytes of a string that no row had before
abbrev pub bytes_of : Found → ℕ
bytes_of (FoundV.New l d) = literal_bytes l
bytes_of _ = 0

abbrev pub outcome_of : ℕ → Found → Outcome
outcome_of n FoundV.Nothing = OutcomeV.Nothing
outcome_of n (FoundV.Faulty f) = OutcomeV.Faulty f
outcome_of n (FoundV.Shared p d) = OutcomeV.Value p
outcome_of n (FoundV.New l d) = OutcomeV.Value n

abbrev pub names_of : Found → ℕ
names_of (FoundV.Shared p d) = d
names_of (FoundV.New l d) = d
names_of _ = 0

pub record IsPut (row : ℕ) (f : Found) (old new : Progress) : Type 0 where
  pub values : new.literals.values.items ≡ old.literals.values.items ++ added f
  pub rows : new.literals.rows.items ≡ slice_set old.literals.rows.items row (outcome_of (length old.literals.values.items) f)
  pub names : new.names.items ≡ slice_set old.names.items row (names_of f)

-- nothing is known of so many rows
pub record IsBlank (count : ℕ) (s : Progress) : Type 0 where
  pub values : s.literals.values.items ≡ []
  pub rows : s.literals.rows.items ≡ replicate count OutcomeV.Nothing
  pub names : s.names.items ≡ replicate count 0

-- The rows of an order that need these: each once, and after those of the rows that it needs.
pub record IsOrdered (needs : List Need) (order : List ℕ) : Type 0 where
  pub within_rows : (i a : ℕ) → slice_get order i ≡ Some a → a < length needs
  pub once : (i j a : ℕ) → slice_get order i ≡ Some a → slice_get order j ≡ Some a → i ≡ j
  pub after : (i a b : ℕ) (d : Need) → slice_get order i ≡ Some a → slice_get needs a ≡ Some d → Contains (parts d) b → b < length needs → (j : ℕ) × (j < i) × (slice_get order j ≡ Some b)

-- So many rows of the order are reported, and nothing of others.
pub record AreTold (t : Table) (needs : List Need) (order : List ℕ) (count : ℕ) (s : Progress) : Type 0 where
  pub sound : IsSound (length needs) s
  pub told : (i n : ℕ) (d : Need) → i < count → slice_get order i ≡ Some n → slice_get needs n ≡ Some d → IsTold t d (value_within s) (value_within s n) (fault_at s.literals n)
  pub no_value : (n : ℕ) → ((i : ℕ) → i < count → slice_get order i ≡ Some n → ⊥) → (k : ℕ) → value_within s n k ≡ None
  pub no_fault : (n : ℕ) → ((i : ℕ) → i < count → slice_get order i ≡ Some n → ⊥) → fault_at s.literals n ≡ None
