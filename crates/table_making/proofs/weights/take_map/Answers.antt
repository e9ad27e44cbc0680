use Rattle.std.proofs.Common.{◌+◌, ◌∙◌, take, arith, ap, sym}
use Rattle.std.proofs.lemmas.List.Sums.{sum_by_more}
use Rattle.table_making.specs.Weights.{entry_parts, map_parts}
use Rattle.table_making.proofs.weights.take_map.Goals as goal

pub loop-entries-preserved : goal.loop-entries-preserved
loop-entries-preserved c =
    let xs = c.args.alternatives.now in
    let x = c.entries-item.result in
    let more = sum_by_more entry_parts xs c.loop-entries.entries-index x c.loop-entries-test.true ∙ ap (λ y. map_parts (take c.loop-entries.entries-index xs) + entry_parts y) (sym c.entries-item.is) in
    omega (arith, more, c.loop-entries.invariant, c.in_ok-take.ensures, c.in_ok-take-2.ensures, c.len.ensures)
