-- What the calls answer.
use Rattle.std.specs.Prelude.{◌≡◌, ◌≢◌, ℕ, ◌+◌, ◌<◌, ◌≤◌, ◌⊎◌, Bool, true, false, List, [], ◌∷◌, ◌++◌, length, drop, Option, Some, None, slice_get, slice_index, slice_range, IsUtf8}
use Rattle.cbor_data.specs.Value.{Value}
use Rattle.cbor_data.specs.Faults.{Bounds}
use Rattle.cbor_data.specs.Sequence.{Found}
use Rattle.cddl_check.specs.Text.{IsWrongText}
use Rattle.cddl_table.specs.Text.{IsTabledText}
use Rattle.table_nodes.specs.declared.table.Table.{Table}
use Rattle.seq_run.specs.Ends.{Ends}
use Rattle.seq_run.specs.Judge.{Judge, judge_of}
use Rattle.seq_run.specs.Output.{stream_output}
use Rattle.seq_run.specs.Parts.{IsRejected}
use Rattle.seq_run.specs.declared.end.End.{End}
use Rattle.seq_run.specs.declared.output.Mode.{Mode}
use Rattle.cddlseq_c.specs.declared.stop.Stop.{Stop}
use Rattle.cddlseq_c.specs.declared.stop.Stop.TheVariants as stop
use Rattle.cddlseq_c.specs.declared.told.CddlseqEnd.{CddlseqEnd}
use Rattle.cddlseq_c.specs.declared.told.CddlseqLimits.{CddlseqLimits}
use Rattle.cddlseq_c.specs.declared.told.CddlseqRefusal.{CddlseqRefusal}
use Rattle.cbor_read.specs.declared.limits.TheConstants.{MOST_ITEM_BYTES}
use Rattle.cddlseq_c.specs.declared.told.TheConstants.{OK, NO_MEMORY, BAD_WANTED, BAD_OFFSETS, NO_ROOM}
use Rattle.cddlseq_c.specs.declared.wanted.Wanted.{Wanted}
use Rattle.cddlseq_c.specs.Held.{Held}
use Rattle.cddlseq_c.specs.Told.{IsStopTold, bounds_of, no_refusal, status_of, status_of_stop, told_end}
use Rattle.cddlseq_c.specs.Wanted.{bytes_of, number_of_wanted}

-- the name of the root: none where it has no bytes
abbrev pub root_name : List ℕ → Option (List ℕ)
root_name [] = None
root_name (b ∷ bs) = Some (b ∷ bs)

-- A limit is 0, or over the greatest.
abbrev pub AreOutside : CddlseqLimits → Type 0
AreOutside limits = ((limits.depth ≡ 0) ⊎ (256 < limits.depth)) ⊎ ((limits.item_bytes ≡ 0) ⊎ (MOST_ITEM_BYTES < limits.item_bytes))

-- Why the text has no table, where its root is no name or has this one.
abbrev pub IsUnread : List ℕ → Option (List ℕ) → Stop → Type 0
IsUnread text name (stop.Refused f) = IsWrongText text name f
IsUnread text name stop.Memory = Unit {0}
IsUnread text name stop.BadRoot = ⊥
IsUnread text name stop.BadLimits = ⊥

-- Why there is no table. Where memory was refused nothing is known.
abbrev pub IsUntabled : List ℕ → List ℕ → Stop → Type 0
IsUntabled text root (stop.Refused f) = IsWrongText text (root_name root) f
IsUntabled text root stop.Memory = Unit {0}
IsUntabled text root stop.BadRoot = ¬ (IsUtf8 root)
IsUntabled text root stop.BadLimits = ⊥

-- Why nothing is said of a stream.
abbrev pub IsStop : CddlseqLimits → List ℕ → List ℕ → Stop → Type 0
IsStop limits text root (stop.Refused f) = IsWrongText text (root_name root) f
IsStop limits text root stop.Memory = Unit {0}
IsStop limits text root stop.BadRoot = ¬ (IsUtf8 root)
IsStop limits text root stop.BadLimits = AreOutside limits

-- The table stands for the text, and the limits and the steps are these.
pub record IsReady (text root : List ℕ) (limits : CddlseqLimits) (r : Held) : Type 0 where
  pub tabled : IsTabledText text (root_name root) r.table
  pub limits_are : r.limits ≡ bounds_of limits
  pub steps_are : r.steps ≡ limits.steps

-- The stream ends so, with this item where the end is a mismatch, and this is what the mode writes of it.
pub record IsRan (mode : Mode) (judge : Judge) (l : Bounds) (stream out : List ℕ) (end : End) (rejected : Option Value) : Type 0 where
  pub found : List Found
  pub ends : Ends judge l stream found end
  pub rejects : IsRejected judge l stream found end rejected
  pub written : out ≡ stream_output mode found end rejected

-- The stream ends so.
abbrev pub HasEnd : Judge → Bounds → List ℕ → End → Type 0
HasEnd judge l stream end = (found : List Found) × Ends judge l stream found end

-- The stream ends so, and these are the bytes that are wanted of it.
pub record IsWanted (wanted : Wanted) (judge : Judge) (l : Bounds) (stream bytes : List ℕ) (end : End) : Type 0 where
  pub found : List Found
  pub rejected : Option Value
  pub ends : Ends judge l stream found end
  pub rejects : IsRejected judge l stream found end rejected
  pub are : bytes ≡ bytes_of wanted found end rejected

-- What `cddlseq_check` answers: the text is a specification, or this is why nothing is known of it.
pub data IsChecked (text root : List ℕ) (refusal : CddlseqRefusal) : ℕ → Type 0 where
  accepted : (table : Table) → IsTabledText text (root_name root) table → refusal ≡ no_refusal → IsChecked text root refusal OK
  unchecked : (why : Stop) → IsUntabled text root why → IsStopTold text why refusal → IsChecked text root refusal (status_of_stop why)

-- The stream has an end, and it is reported; or memory was refused, and nothing is reported.
pub data IsToldEnd (judge : Judge) (l : Bounds) (stream : List ℕ) (old new : CddlseqEnd) : ℕ → Type 0 where
  end_told : (end : End) → HasEnd judge l stream end → new ≡ told_end end → IsToldEnd judge l stream old new (status_of end)
  end_untold : new ≡ old → IsToldEnd judge l stream old new NO_MEMORY

-- What `cddlseq_validate` answers: by a table that stands for the text the stream ends as is reported; or this is why nothing is
-- said of the stream.
pub data IsValidated (text root stream : List ℕ) (limits : CddlseqLimits) (refusal : CddlseqRefusal) (old new : CddlseqEnd) : ℕ → Type 0 where
  validated : (table : Table) → IsTabledText text (root_name root) table → refusal ≡ no_refusal → (status : ℕ) →
      IsToldEnd (judge_of table limits.steps) (bounds_of limits) stream old new status → IsValidated text root stream limits refusal old new status
  unvalidated : (why : Stop) → IsStop limits text root why → IsStopTold text why refusal → new ≡ old → IsValidated text root stream limits refusal old new (status_of_stop why)

-- The bytes are at the front of the buffer, if there is room for them.
abbrev pub IsPut : Bool → List ℕ → List ℕ → List ℕ → Type 0
IsPut true bytes old new = (length bytes ≤ length old) × (new ≡ bytes ++ drop (length bytes) old)
IsPut false bytes old new = (length old < length bytes) × (new ≡ old)

-- The end is reported, how many bytes are wanted of the stream, and these, where there is room for them; or memory was refused,
-- and nothing is reported.
pub data IsToldWanted (wanted : Wanted) (judge : Judge) (l : Bounds) (stream : List ℕ) (old new : CddlseqEnd) (out_old out_new : List ℕ) (needed : ℕ) : ℕ → Type 0 where
  put : (bytes : List ℕ) (end : End) → IsWanted wanted judge l stream bytes end → new ≡ told_end end → needed ≡ length bytes → IsPut true bytes out_old out_new →
      IsToldWanted wanted judge l stream old new out_old out_new needed (status_of end)
  no_room : (bytes : List ℕ) (end : End) → IsWanted wanted judge l stream bytes end → new ≡ told_end end → needed ≡ length bytes → IsPut false bytes out_old out_new →
      IsToldWanted wanted judge l stream old new out_old out_new needed NO_ROOM
  wanted_untold : new ≡ old → needed ≡ 0 → out_new ≡ out_old → IsToldWanted wanted judge l stream old new out_old out_new needed NO_MEMORY

-- What `cddlseq_write` answers: by a table that stands for the text, this is reported for the stream, and what is wanted by the
-- number is written; or this is why nothing is.
pub data IsWritten (text root stream : List ℕ) (limits : CddlseqLimits) (number : ℕ) (refusal : CddlseqRefusal) (old new : CddlseqEnd) (out_old out_new : List ℕ) (needed : ℕ) : ℕ → Type 0 where
  written : (table : Table) (wanted : Wanted) → number ≡ number_of_wanted wanted → IsTabledText text (root_name root) table → refusal ≡ no_refusal → (status : ℕ) →
      IsToldWanted wanted (judge_of table limits.steps) (bounds_of limits) stream old new out_old out_new needed status →
      IsWritten text root stream limits number refusal old new out_old out_new needed status
  bad_wanted : ((wanted : Wanted) → number ≢ number_of_wanted wanted) → refusal ≡ no_refusal → new ≡ old → needed ≡ 0 → out_new ≡ out_old →
      IsWritten text root stream limits number refusal old new out_old out_new needed BAD_WANTED
  unwritten : (why : Stop) → IsStop limits text root why → IsStopTold text why refusal → new ≡ old → needed ≡ 0 → out_new ≡ out_old →
      IsWritten text root stream limits number refusal old new out_old out_new needed (status_of_stop why)

-- What is reported for a stream and of what is wanted of it by a number: this, and what is wanted is written; or nothing is wanted by it.
pub data IsWrittenBy (number : ℕ) (judge : Judge) (l : Bounds) (stream : List ℕ) (old new : CddlseqEnd) (out_old out_new : List ℕ) (needed : ℕ) : ℕ → Type 0 where
  by_number : (wanted : Wanted) → number ≡ number_of_wanted wanted → (status : ℕ) → IsToldWanted wanted judge l stream old new out_old out_new needed status →
      IsWrittenBy number judge l stream old new out_old out_new needed status
  by_none : ((wanted : Wanted) → number ≢ number_of_wanted wanted) → new ≡ old → needed ≡ 0 → out_new ≡ out_old → IsWrittenBy number judge l stream old new out_old out_new needed BAD_WANTED

-- Stream k has the bytes from its offset up to the next one.
pub record IsStream (bytes offsets : List ℕ) (k : ℕ) : Type 0 where
  pub rises : slice_index offsets k ≤ slice_index offsets (k + 1)
  pub within : slice_index offsets (k + 1) ≤ length bytes

-- Stream k ends as is reported at its place.
pub record IsToldAt (judge : Judge) (l : Bounds) (bytes offsets : List ℕ) (ends : List CddlseqEnd) (k : ℕ) : Type 0 where
  pub stream : IsStream bytes offsets k
  pub end : End
  pub is : HasEnd judge l (slice_range bytes (slice_index offsets k) (slice_index offsets (k + 1))) end
  pub told : slice_get ends k ≡ Some (told_end end)

-- The ends of the first n streams are reported, and the other places are as they were.
pub record AreTold (judge : Judge) (l : Bounds) (bytes offsets : List ℕ) (old new : List CddlseqEnd) (n : ℕ) : Type 0 where
  pub told : (k : ℕ) → k < n → IsToldAt judge l bytes offsets new k
  pub kept : drop n new ≡ drop n old
  pub within : n ≤ length new

-- All streams have an end, and it is reported; or only of the first n, and the next one is none, or memory was refused there.
pub data IsToldMany (judge : Judge) (l : Bounds) (bytes offsets : List ℕ) (old new : List CddlseqEnd) (n : ℕ) : ℕ → Type 0 where
  all_told : AreTold judge l bytes offsets old new n → n ≡ length new → IsToldMany judge l bytes offsets old new n OK
  bad_stream : AreTold judge l bytes offsets old new n → n < length new → ¬ (IsStream bytes offsets n) → IsToldMany judge l bytes offsets old new n BAD_OFFSETS
  rest_untold : AreTold judge l bytes offsets old new n → n < length new → IsToldMany judge l bytes offsets old new n NO_MEMORY

-- What `cddlseq_validate_many` answers: by a table that stands for the text the streams end as is reported; or this is why nothing
-- is said of them.
pub data AreValidated (text root bytes offsets : List ℕ) (limits : CddlseqLimits) (refusal : CddlseqRefusal) (old new : List CddlseqEnd) (n : ℕ) : ℕ → Type 0 where
  all_validated : (table : Table) → length offsets ≡ length old + 1 → IsTabledText text (root_name root) table → refusal ≡ no_refusal → (status : ℕ) →
      IsToldMany (judge_of table limits.steps) (bounds_of limits) bytes offsets old new n status → AreValidated text root bytes offsets limits refusal old new n status
  bad_number : length offsets ≢ length old + 1 → refusal ≡ no_refusal → new ≡ old → n ≡ 0 → AreValidated text root bytes offsets limits refusal old new n BAD_OFFSETS
  none_validated : (why : Stop) → IsStop limits text root why → IsStopTold text why refusal → new ≡ old → n ≡ 0 → AreValidated text root bytes offsets limits refusal old new n (status_of_stop why)
