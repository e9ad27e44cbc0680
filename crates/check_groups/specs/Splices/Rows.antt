-- The part of a row, by what stands there.
use Rattle.std.specs.Prelude.{ℕ, Option, Some, None}
use Rattle.alternatives.specs.declared.Bounds.{Bounds}
use Rattle.alternatives.specs.declared.Part.{Part}
use Rattle.alternatives.specs.declared.Part.TheVariants.{Refused, Entry as AnEntry, Empty, Same, Both, Either, Occurs}
use Rattle.check_groups.specs.declared.causes.rows.GroupRow.{GroupRow}
use Rattle.check_groups.specs.declared.causes.rows.GroupRow.TheVariants as RowV

-- the row of a group, or the number of one without alternatives
abbrev pub row_or : Option ℕ → ℕ → ℕ
row_or (Some n) nothing = n
row_or None nothing = nothing

-- where an entry may stand so often
abbrev pub part_of : GroupRow → Bounds → (nothing : ℕ) → Part
part_of RowV.Other b nothing = Refused
part_of (RowV.Sole n) b nothing = Same n
part_of (RowV.OrElse n m) b nothing = Either n m
part_of RowV.NoEntries b nothing = Empty
part_of (RowV.Entries n m) b nothing = Both n m
part_of (RowV.Type k) b nothing = Refused
part_of (RowV.Pair k) b nothing = AnEntry b
part_of (RowV.Group k n) b nothing = Occurs b (row_or n nothing)
