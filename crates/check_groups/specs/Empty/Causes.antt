-- Of what it follows that what stands at a row may be empty.
use Rattle.std.specs.Prelude.{ℕ, if◌then◌else◌, List, Option, Some, None}
use Rattle.cddl_language.specs.Terms.{Text}
use Rattle.check_groups.specs.declared.causes.cause.RowCause.{RowCause}
use Rattle.check_groups.specs.declared.causes.cause.RowCause.TheVariants as CauseV
use Rattle.check_groups.specs.declared.causes.rows.GroupRow.{GroupRow}
use Rattle.check_groups.specs.declared.causes.rows.GroupRow.TheVariants as RowV
use Rattle.check_groups.specs.Causes.Rows.{occurrence_at}
use Rattle.check_groups.specs.Empty.Occurrences.{is_optional_at}

abbrev pub cause_from : Option ℕ → RowCause
cause_from None = CauseV.Never
cause_from (Some n) = CauseV.One n

abbrev pub cause_in : GroupRow → RowCause
cause_in RowV.Other = CauseV.Never
cause_in (RowV.Sole n) = CauseV.One n
cause_in (RowV.OrElse n m) = CauseV.Either n m
cause_in RowV.NoEntries = CauseV.Always
cause_in (RowV.Entries n m) = CauseV.Both n m
cause_in (RowV.Type k) = CauseV.Never
cause_in (RowV.Pair k) = CauseV.Never
cause_in (RowV.Group k n) = cause_from n

-- an entry that may stand no time may be empty, whatever it is
abbrev pub empty_cause : List Text → GroupRow → RowCause
empty_cause texts row = if is_optional_at texts (occurrence_at row) then CauseV.Always else cause_in row
