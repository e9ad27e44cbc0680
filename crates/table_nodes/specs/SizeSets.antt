-- What contracts see of a set of sizes.
use Rattle.std.specs.Prelude.{ℕ, List}
use Rattle.std.specs.Arc.{arc_slice_items}
use Rattle.table_nodes.specs.declared.sizes.NumberSet.{NumberSet}
use Rattle.table_nodes.specs.Sizes.{sizes_view}

-- its ranges, each by its first and its last number
abbrev pub set_view : NumberSet → List (ℕ × ℕ)
set_view z = sizes_view (arc_slice_items z.ranges)
