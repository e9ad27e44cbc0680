use Rattle.table_nodes.specs.Nodes.{entries_view}
use Rattle.tape_match.proofs.Left.{lacks_after, lacks_again, sorting_again}
use Rattle.tape_match.proofs.pairs.sorts_still.Goals as goal

pub returns-then-front-sorted : goal.returns-then-front-sorted
returns-then-front-sorted c = λ l t place end before cost alike same h ps on.
    let s = c.args.sorted.now in
    let es = entries_view c.args.entries.now in
    sorting_again l before es ps s c.lacking-sorted.result cost c.requires.none same (λ k. lacks_after c.args.front s.lacks c.lacking-sorted.result before es s.counts alike c.if-front-sorted.true k c.lacking-sorted.ensures) (h ps on)

pub returns-else-front-sorted : goal.returns-else-front-sorted
returns-else-front-sorted c = λ l t place end before cost alike same h ps on.
    let s = c.args.sorted.now in
    let es = entries_view c.args.entries.now in
    sorting_again l before es ps s s.lacks cost c.requires.none same (lacks_again c.args.front s.lacks before es s.counts alike c.if-front-sorted.false) (h ps on)
