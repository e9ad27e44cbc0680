-- The bytes that a caller may ask for of a stream.
use Rattle.std.specs.Prelude.{ℕ, List, [], Option, Some, None, slice_get}
use Rattle.std.specs.Option.{option_map}
use Rattle.cbor_data.specs.Value.{Value, places}
use Rattle.cbor_data.specs.Notation.{notation}
use Rattle.cbor_data.specs.Sequence.{Found}
use Rattle.cbor_item.specs.Place.Paths.{path}
use Rattle.seq_run.specs.Output.{stream_output}
use Rattle.seq_run.specs.Report.{or_nothing}
use Rattle.seq_run.specs.declared.end.Cause.TheVariants.{Fault, Mismatch, Spent}
use Rattle.seq_run.specs.declared.end.End.{End}
use Rattle.seq_run.specs.declared.end.End.TheVariants.{Clean, Failed}
use Rattle.seq_run.specs.declared.output.Mode.{Mode}
use Rattle.seq_run.specs.declared.output.Mode.TheVariants as mode
use Rattle.cddlseq_c.specs.declared.wanted.Wanted.{Wanted}
use Rattle.cddlseq_c.specs.declared.wanted.Wanted.TheVariants.{Report, EndLine, Preferred, Deterministic, Path, Notation}

abbrev pub number_of_wanted : Wanted → ℕ
number_of_wanted Report = 0
number_of_wanted EndLine = 1
number_of_wanted Preferred = 2
number_of_wanted Deterministic = 3
number_of_wanted Path = 4
number_of_wanted Notation = 5

-- the mode in which the stream is run
abbrev pub mode_of : Wanted → Mode
mode_of Report = mode.Report
mode_of EndLine = mode.EndLine
mode_of Preferred = mode.Rewrite
mode_of Deterministic = mode.Deterministic
mode_of Path = mode.EndLine
mode_of Notation = mode.EndLine

-- the place of the mismatch, where the end is one
abbrev pub mismatch_of : End → Option ℕ
mismatch_of (Clean items bytes) = None
mismatch_of (Failed items offset (Fault f)) = None
mismatch_of (Failed items offset (Mismatch place)) = Some place
mismatch_of (Failed items offset Spent) = None

-- the path of the place of a mismatch in the item that fails
abbrev pub path_to : Option ℕ → Option Value → List ℕ
path_to (Some place) (Some x) = or_nothing (path x place)
path_to (Some place) None = []
path_to None rejected = []

-- what is there, in diagnostic notation
abbrev pub notation_at : Option ℕ → Option Value → List ℕ
notation_at (Some place) (Some x) = or_nothing (option_map notation (slice_get (places x) place))
notation_at (Some place) None = []
notation_at None rejected = []

-- the bytes that are asked for, of a stream with these items and this end; the item that fails is given where the end is a
-- mismatch
abbrev pub bytes_of : Wanted → List Found → End → Option Value → List ℕ
bytes_of Report found end rejected = stream_output mode.Report found end rejected
bytes_of EndLine found end rejected = stream_output mode.EndLine found end rejected
bytes_of Preferred found end rejected = stream_output mode.Rewrite found end rejected
bytes_of Deterministic found end rejected = stream_output mode.Deterministic found end rejected
bytes_of Path found end rejected = path_to (mismatch_of end) rejected
bytes_of Notation found end rejected = notation_at (mismatch_of end) rejected

-- the same, from the output of a run in the mode for it
abbrev pub picked : Wanted → List ℕ → End → Option Value → List ℕ
picked Report output end rejected = output
picked EndLine output end rejected = output
picked Preferred output end rejected = output
picked Deterministic output end rejected = output
picked Path output end rejected = path_to (mismatch_of end) rejected
picked Notation output end rejected = notation_at (mismatch_of end) rejected
