-- The lines of a report: one for each accepted item, and one for the end of the stream.
use Rattle.std.specs.Prelude.{ℕ, ◌<◌, List, [], ◌++◌, Option, Some, None, slice_get, codes, decimal}
use Rattle.std.specs.Option.{option_map}
use Rattle.cbor_data.specs.Value.{Value, places, place_count}
use Rattle.cbor_item.specs.Place.Paths.{path}
use Rattle.cbor_data.specs.Sequence.{Found}
use Rattle.cbor_data.specs.Notation.{notation}
use Rattle.cbor_data.specs.declared.FaultKind.{FaultKind}
use Rattle.cbor_data.specs.declared.FaultKind.TheVariants.{ReservedInfo, BadIndefinite, BadBreak, BadChunk, BadSimple, TooDeep, TooLong, Truncated, BadText, DuplicateKey}
use Rattle.seq_run.specs.declared.end.Cause.{Cause}
use Rattle.seq_run.specs.declared.end.Cause.TheVariants.{Fault, Mismatch, Spent}
use Rattle.seq_run.specs.declared.end.End.{End}
use Rattle.seq_run.specs.declared.end.End.TheVariants.{Clean, Failed}

-- `item N at OFFSET: `
abbrev pub head_text : ℕ → ℕ → List ℕ
head_text number offset = codes "item " ++ (decimal number ++ (codes " at " ++ (decimal offset ++ codes ": ")))

-- `item N at OFFSET: DIAG`, with the item in diagnostic notation
abbrev pub item_line : ℕ → Found → List ℕ
item_line number f =
    codes "item " ++ (decimal number ++ (codes " at " ++ (decimal f.offset ++ (codes ": " ++ (notation f.item ++ codes "\n")))))

-- a fault, up to its place
abbrev pub fault_text : FaultKind → List ℕ
fault_text ReservedInfo = codes "reserved additional information at byte "
fault_text BadIndefinite = codes "indefinite length not allowed at byte "
fault_text BadBreak = codes "break not allowed at byte "
fault_text BadChunk = codes "bad chunk at byte "
fault_text BadSimple = codes "bad simple value at byte "
fault_text TooDeep = codes "too deep at byte "
fault_text TooLong = codes "item too long at byte "
fault_text Truncated = codes "truncated at byte "
fault_text BadText = codes "text is not UTF-8 at byte "
fault_text DuplicateKey = codes "duplicate key at place "

abbrev pub or_nothing : Option (List ℕ) → List ℕ
or_nothing (Some text) = text
or_nothing None = []

-- of an item that does not match: the path of the place where it shows, and what is there
abbrev pub mismatch_text : ℕ → Value → List ℕ
mismatch_text place x = codes "mismatch at " ++ (or_nothing (path x place) ++ (codes ": " ++ or_nothing (option_map notation (slice_get (places x) place))))

-- why a stream failed
abbrev pub cause_text : Cause → Option Value → List ℕ
cause_text (Fault f) rejected = fault_text f.kind ++ decimal f.at
cause_text (Mismatch place) (Some x) = mismatch_text place x
cause_text (Mismatch place) None = []
cause_text Spent rejected = codes "step limit reached"

-- the last line, with the item that failed
abbrev pub end_line : End → Option Value → List ℕ
end_line (Clean items bytes) rejected = codes "clean: " ++ (decimal items ++ (codes " items, " ++ (decimal bytes ++ codes " bytes\n")))
end_line (Failed items offset cause) rejected =
    codes "failed: " ++ (decimal items ++ (codes " items, offset " ++ (decimal offset ++ (codes ": " ++ (cause_text cause rejected ++ codes "\n")))))

-- A mismatch comes with its item, and its place is one of that item's places.
abbrev pub IsShown : End → Option Value → Type 0
IsShown (Failed items offset (Mismatch place)) (Some x) = place < place_count x
IsShown (Failed items offset (Mismatch place)) None = ⊥
IsShown _ rejected = Unit {0}
