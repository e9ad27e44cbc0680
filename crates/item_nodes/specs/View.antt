-- The value that an item stands for.
use Rattle.std.specs.Prelude.{List, map, string_bytes}
use Rattle.cbor_data.specs.Value.{Value, uint, nint, bytes, text, array, pairs, tag, simple, float, Values, Pairs, values_of, pairs_of}
use Rattle.item_nodes.specs.declared.item.Item.{Item, fold-Item}
use Rattle.item_nodes.specs.declared.item.Item.TheOpen.{Item-F}

-- one level, with each item inside already seen as its value
abbrev pub view_step : Item-F Value → Value
view_step (Item-F.Uint n) = uint n
view_step (Item-F.Nint n) = nint n
view_step (Item-F.Bytes v) = bytes v.items
view_step (Item-F.Text s) = text (string_bytes s)
view_step (Item-F.Array v) = array (values_of v.items)
view_step (Item-F.Map v) = pairs (pairs_of v.items)
view_step (Item-F.Tag n x) = tag n x.value
view_step (Item-F.Simple n) = simple n
view_step (Item-F.Float w n) = float w n

abbrev pub view : Item → Value
view = fold-Item Value view_step

abbrev pub values_view : List Item → Values
values_view xs = values_of (map view xs)

abbrev pub pairs_view : List (Item × Item) → Pairs
pairs_view ps = pairs_of (map (λ p. (view p.0, view p.1)) ps)
