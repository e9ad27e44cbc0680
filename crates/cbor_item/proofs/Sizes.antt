-- The depths of what an item holds, as Rattle weighs it.
use Rattle.std.proofs.Common.{◌<◌, ℕ, Vec, Box, Global, rules}
use Rattle.item_nodes.specs.declared.item.Item.{Item, Array, Map, Tag, the_lemmas}
use Rattle.item_nodes.proofs.item.Item.TheLaws.{the_size}
use Rattle.item_nodes.proofs.Lemmas.{pair_size}
use denote.Param.Weighed.{most}

pub tag_size : (n : ℕ) (x : Box Item Global) → the_size x.value < the_size (Tag n x)
tag_size n x = search (rules, the_lemmas)

pub array_size : (v : Vec Item Global) → most the_size v.items < the_size (Array v)
array_size v = search (rules, the_lemmas)

pub map_size : (v : Vec (Item × Item) Global) → most pair_size v.items < the_size (Map v)
map_size v = search (rules, the_lemmas)
