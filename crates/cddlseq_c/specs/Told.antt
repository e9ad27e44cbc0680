-- What is reported for a text and of a stream, by numbers.
use Rattle.std.specs.Prelude.{ℕ, ◌≡◌, List, take}
use Rattle.cbor_data.specs.Faults.{Bounds}
use Rattle.cbor_data.specs.declared.FaultKind.{FaultKind}
use Rattle.cbor_data.specs.declared.FaultKind.TheVariants.{ReservedInfo, BadIndefinite, BadBreak, BadChunk, BadSimple, TooDeep, TooLong, Truncated, BadText, DuplicateKey}
use Rattle.cddl_token.specs.declared.Code.{Code}
use Rattle.check_text.specs.declared.fault.Fault.{Fault}
use Rattle.cddl_token.specs.declared.Code.TheVariants.{NotUtf8, BadCharacter, Unclosed, BadEscape, BadNumber, FloatLiteral, NumberTooLarge, BadBytes, SourceTooLong, Unexpected, TooNested, Duplicate, KindClash, Undefined, Arity, NoRoot, BadRoot, GroupAsType, HashForm, UnknownControl, TooManyInstances, NotUnwrappable, Recursion, NotLiteral, BadRange, BadController, NoKey, MapShape, TooManyAlternatives}
use Rattle.seq_run.specs.declared.end.Cause.{Cause}
use Rattle.seq_run.specs.declared.end.Cause.TheVariants as cause
use Rattle.seq_run.specs.declared.end.End.{End}
use Rattle.seq_run.specs.declared.end.End.TheVariants as end
use Rattle.text_position.specs.Positions.{IsAt}
use Rattle.cddlseq_c.specs.declared.stop.Stop.{Stop}
use Rattle.cddlseq_c.specs.declared.stop.Stop.TheVariants as stop
use Rattle.cddlseq_c.specs.declared.told.CddlseqEnd.{CddlseqEnd}
use Rattle.cddlseq_c.specs.declared.told.CddlseqLimits.{CddlseqLimits}
use Rattle.cddlseq_c.specs.declared.told.CddlseqRefusal.{CddlseqRefusal}
use Rattle.cddlseq_c.specs.declared.told.TheConstants.{OK, FAILED, REFUSED, NO_MEMORY, BAD_ROOT, BAD_LIMITS}

abbrev pub number_of_code : Code → ℕ
number_of_code NotUtf8 = 1
number_of_code BadCharacter = 2
number_of_code Unclosed = 3
number_of_code BadEscape = 4
number_of_code BadNumber = 5
number_of_code FloatLiteral = 6
number_of_code NumberTooLarge = 7
number_of_code BadBytes = 8
number_of_code SourceTooLong = 9
number_of_code Unexpected = 10
number_of_code TooNested = 11
number_of_code Duplicate = 12
number_of_code KindClash = 13
number_of_code Undefined = 14
number_of_code Arity = 15
number_of_code NoRoot = 16
number_of_code BadRoot = 17
number_of_code GroupAsType = 18
number_of_code HashForm = 19
number_of_code UnknownControl = 20
number_of_code TooManyInstances = 21
number_of_code NotUnwrappable = 22
number_of_code Recursion = 23
number_of_code NotLiteral = 24
number_of_code BadRange = 25
number_of_code BadController = 26
number_of_code NoKey = 27
number_of_code MapShape = 28
number_of_code TooManyAlternatives = 29

abbrev pub number_of_kind : FaultKind → ℕ
number_of_kind ReservedInfo = 1
number_of_kind BadIndefinite = 2
number_of_kind BadBreak = 3
number_of_kind BadChunk = 4
number_of_kind BadSimple = 5
number_of_kind TooDeep = 6
number_of_kind TooLong = 7
number_of_kind Truncated = 8
number_of_kind BadText = 9
number_of_kind DuplicateKey = 10

abbrev pub number_of_cause : Cause → ℕ
number_of_cause (cause.Fault f) = number_of_kind f.kind
number_of_cause (cause.Mismatch place) = 11
number_of_cause cause.Spent = 12

-- the byte of the stream, or the place in the item, where a cause shows
abbrev pub place_of_cause : Cause → ℕ
place_of_cause (cause.Fault f) = f.at
place_of_cause (cause.Mismatch place) = place
place_of_cause cause.Spent = 0

-- what is reported for the end of a stream
abbrev pub told_end : End → CddlseqEnd
told_end (end.Clean items bytes) = record { items = items; offset = bytes; cause = 0; place = 0 }
told_end (end.Failed items offset why) = record { items = items; offset = offset; cause = number_of_cause why; place = place_of_cause why }

abbrev pub status_of : End → ℕ
status_of (end.Clean items bytes) = OK
status_of (end.Failed items offset why) = FAILED

-- what is reported for a text that is not refused
abbrev pub no_refusal : CddlseqRefusal
no_refusal = record { code = 0; offset = 0; line = 0; column = 0 }

-- What is reported for what is wrong with a text: the number of its code, its byte, and the line and the column of that.
pub record IsFaultTold (text : List ℕ) (f : Fault) (told : CddlseqRefusal) : Type 0 where
  pub code : told.code ≡ number_of_code f.code
  pub offset : told.offset ≡ f.at
  pub position : IsAt (take f.at text) told.line told.column

-- What is reported where a call that was given this text stops.
abbrev pub IsStopTold : List ℕ → Stop → CddlseqRefusal → Type 0
IsStopTold text (stop.Refused f) told = IsFaultTold text f told
IsStopTold text stop.Memory told = told ≡ no_refusal
IsStopTold text stop.BadRoot told = told ≡ no_refusal
IsStopTold text stop.BadLimits told = told ≡ no_refusal

abbrev pub status_of_stop : Stop → ℕ
status_of_stop (stop.Refused f) = REFUSED
status_of_stop stop.Memory = NO_MEMORY
status_of_stop stop.BadRoot = BAD_ROOT
status_of_stop stop.BadLimits = BAD_LIMITS

-- the limits of items
abbrev pub bounds_of : CddlseqLimits → Bounds
bounds_of limits = record { depth = limits.depth; item_bytes = limits.item_bytes }
