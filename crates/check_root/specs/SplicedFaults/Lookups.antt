-- What is reported for one entry, and of one map, by the flags of its row and of its place.
use Rattle.std.specs.Prelude.{ℕ, Bool, true, false, ◌||◌, List, Option, Some, None, slice_get}
use Rattle.check_maps.specs.declared.map_faults.MapFaults.{MapFaults}
use Rattle.check_reached.specs.declared.asked.Asked.{Asked}
use Rattle.check_reading.specs.declared.parts.part.Question.{Question}
use Rattle.check_reading.specs.declared.parts.part.Question.TheVariants as QuestionV
use Rattle.check_maps.specs.declared.spliced.listing.Spliced.{Spliced}

abbrev pub flag_in : Option Bool → Bool
flag_in None = false
flag_in (Some b) = b

abbrev pub is_set : List Bool → ℕ → Bool
is_set flags k = flag_in (slice_get flags k)

abbrev pub told_if : Bool → ℕ → Option ℕ
told_if true at = Some at
told_if false at = None

-- a flag of the row, where there is one
abbrev pub flag_of : (MapFaults → Bool) → Option MapFaults → Bool
flag_of flag None = false
flag_of flag (Some f) = flag f

abbrev pub lacks_key : List MapFaults → ℕ → Bool
lacks_key faults n = flag_of (λ (f : MapFaults). f.lacks_key) (slice_get faults n)

abbrev pub occurs_badly : List MapFaults → ℕ → Bool
occurs_badly faults n = flag_of (λ (f : MapFaults). f.occurs_badly) (slice_get faults n)

abbrev pub has_too_many : List MapFaults → ℕ → Bool
has_too_many faults n = flag_of (λ (f : MapFaults). f.has_too_many) (slice_get faults n)

-- an entry without a key
abbrev pub keyless_at : List MapFaults → Spliced → Option ℕ
keyless_at faults x = told_if (lacks_key faults x.row) x.at

-- an entry that comes back, by the flag of its place, or occurs badly
abbrev pub shape_at : List MapFaults → List Bool → ℕ → Spliced → Option ℕ
shape_at faults coming k x = told_if (is_set coming k || occurs_badly faults x.row) x.at

-- a map with too many alternatives

abbrev pub crowded_by : Question → Option ℕ → Option ℕ
crowded_by QuestionV.MapGroup o = o
crowded_by _ o = None

abbrev pub crowded_at : List MapFaults → Asked → Option ℕ
crowded_at faults a = crowded_by a.question (told_if (has_too_many faults a.row) a.at)
