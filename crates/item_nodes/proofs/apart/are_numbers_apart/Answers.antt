use Rattle.item_nodes.proofs.Differing.{numbers_apart}
use Rattle.item_nodes.proofs.apart.are_numbers_apart.Goals as goal

pub returns-in-Some : goal.returns-in-Some
returns-in-Some c t =
    numbers_apart c.args.pairs.now c.in-Some.numbers.items c.as_slice.result.now c.in-Some.ensures (rw c.as_slice.ensures.value c.sort_unstable.ensures.permutation) (c.is_rising.ensures t)
