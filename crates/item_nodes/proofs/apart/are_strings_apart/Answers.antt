use Rattle.item_nodes.proofs.Differing.{strings_apart}
use Rattle.item_nodes.proofs.apart.are_strings_apart.Goals as goal

pub returns-in-Some : goal.returns-in-Some
returns-in-Some c t =
    strings_apart c.args.pairs.now c.in-Some.strings.items c.as_slice.result.now c.in-Some.ensures (rw c.as_slice.ensures.value c.sort_unstable.ensures.permutation) (c.is_ascending.ensures t)
