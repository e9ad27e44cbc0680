-- The item that bytes spell, as a function of them.
use Rattle.std.specs.Prelude.{ℕ, List, [], Option, Some, None}
use Rattle.cbor_data.specs.Value.{Value, simple}
use Rattle.read_building.specs.Building.{State, item, done, Text, steps}

-- what was built, if it is whole; else any item
abbrev built_in : State → Value
built_in (done x) = x
built_in _ = simple 0

abbrev pub built_by : Option (List Text × State) → Value
built_by None = simple 0
built_by (Some r) = built_in r.1

-- what is built of these bytes: the item that they spell, if they spell one
unfoldable pub spelled_by : List ℕ → Value
spelled_by b = built_by (steps 0 [] (item []) b)
