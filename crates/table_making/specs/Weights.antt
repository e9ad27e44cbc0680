-- How many parts forms have: what many of them may share is counted for each.
use Rattle.std.specs.Prelude.{List, ℕ, ◌+◌, ◌/◌, length, sum_by}
use Rattle.std.specs.declared.alloc.Global.{Global}
use Rattle.std.specs.declared.vec.Vec.{Vec}
use Rattle.cbor_data.specs.Value as V
use Rattle.cbor_data.specs.Value.{Value}
use Rattle.item_nodes.specs.View.{view}
use Rattle.table_nodes.specs.declared.nodes.Test.{Test}
use Rattle.table_nodes.specs.declared.nodes.Test.TheVariants as S
use Rattle.table_making.specs.declared.form.EntryForm.{EntryForm}
use Rattle.table_making.specs.declared.form.TypeForm.{TypeForm}
use Rattle.table_making.specs.declared.form.TypeForm.TheVariants as T
use Rattle.table_making.specs.declared.form.GroupForm.{GroupForm}
use Rattle.table_making.specs.declared.form.GroupForm.TheVariants as G

-- a part for each 64 bytes of a string
abbrev pub item_parts : Value → ℕ
item_parts (V.text bs) = length bs / 64
item_parts (V.bytes bs) = length bs / 64
item_parts _ = 0

abbrev pub test_parts : Test → ℕ
test_parts (S.Equals i) = item_parts (view i)
test_parts (S.Differs i) = item_parts (view i)
test_parts _ = 0

-- an alternative of a map, and the entries in it
abbrev pub entry_parts : Vec EntryForm Global → ℕ
entry_parts es = 1 + length es.items

-- the alternatives of a map, and the entries in them
abbrev pub map_parts : List (Vec EntryForm Global) → ℕ
map_parts ess = sum_by entry_parts ess

abbrev pub type_parts : TypeForm → ℕ
type_parts (T.Plain t) = test_parts t
type_parts (T.Such _ t) = test_parts t
type_parts (T.Choice os) = length os.items
type_parts (T.MapOf ess) = map_parts ess.items
type_parts _ = 0

abbrev pub group_parts : GroupForm → ℕ
group_parts (G.Sequence os) = length os.items
group_parts (G.Alternatives os) = length os.items
group_parts _ = 0
