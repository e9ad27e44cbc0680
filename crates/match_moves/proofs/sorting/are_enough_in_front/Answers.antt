use Rattle.std.proofs.Common.{◌&&◌, ap, sym, refl, ◌∙◌, take}
use Rattle.cddl_meaning.specs.Moves.{enough_of, no_counts}
use Rattle.match_moves.specs.Views.{counts_view}
use Rattle.table_nodes.specs.Nodes.{entries_view}
use Rattle.match_moves.proofs.Lists.{front_is_enough}
use Rattle.match_moves.proofs.sorting.are_enough_in_front.Goals as goal

pub returns-then-enough : goal.returns-then-enough
returns-then-enough c =
    let others = entries_view c.split_at.result.1.now in
    c.need_none.ensures ∙ ap (λ a. a && enough_of others (no_counts others)) (sym c.if-enough.true ∙ c.requires.enough) ∙ front_is_enough c.args.entries.now (take c.args.told c.args.entries.now) c.split_at.result.1.now (counts_view c.args.tally.now.counts) c.args.told c.requires.there c.requires.counted refl c.split_at.ensures.back

pub returns-else-enough : goal.returns-else-enough
returns-else-enough c =
    let others = entries_view c.split_at.result.1.now in
    c.if-enough.false ∙ ap (λ a. a && enough_of others (no_counts others)) (sym c.if-enough.false ∙ c.requires.enough) ∙ front_is_enough c.args.entries.now (take c.args.told c.args.entries.now) c.split_at.result.1.now (counts_view c.args.tally.now.counts) c.args.told c.requires.there c.requires.counted refl c.split_at.ensures.back
