-- The value of an item, by its form.
use Rattle.std.proofs.Common.{◌≡◌, Vec, Box, String, Global, ℕ, rules, string_bytes}
use Rattle.cbor_data.specs.Value.{uint, nint, bytes, text, array, pairs, tag}
use Rattle.item_nodes.specs.View.{view, values_view, pairs_view}
use Rattle.item_nodes.specs.declared.item.Item.{Item, Uint, Nint, Bytes, Text, Array, Map, Tag, the_lemmas}

pub view-Uint : (n : ℕ) → view (Uint n) ≡ uint n
view-Uint n = search (rules, the_lemmas)

pub view-Nint : (n : ℕ) → view (Nint n) ≡ nint n
view-Nint n = search (rules, the_lemmas)

pub view-Bytes : (v : Vec ℕ Global) → view (Bytes v) ≡ bytes v.items
view-Bytes v = search (rules, the_lemmas)

pub view-Text : (s : String Global) → view (Text s) ≡ text (string_bytes s)
view-Text s = search (rules, the_lemmas)

pub view-Array : (v : Vec Item Global) → view (Array v) ≡ array (values_view v.items)
view-Array v = search (rules, the_lemmas)

pub view-Map : (v : Vec (Item × Item) Global) → view (Map v) ≡ pairs (pairs_view v.items)
view-Map v = search (rules, the_lemmas)

pub view-Tag : (n : ℕ) (x : Box Item Global) → view (Tag n x) ≡ tag n (view x.value)
view-Tag n x = search (rules, the_lemmas)
