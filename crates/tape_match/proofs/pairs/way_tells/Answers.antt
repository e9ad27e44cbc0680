use Rattle.std.proofs.Common.{◌<◌, ◌≤◌, length, true, false, arith}
use Rattle.std.proofs.lemmas.List.{length-map}
use Rattle.table_nodes.specs.Nodes.{entries_view, entry_view}
use Rattle.tape_match.proofs.Left.{enough_by, lacking_by, sorting_falls, sorting_says}
use Rattle.tape_match.proofs.pairs.way_tells.Goals as goal

pub returns-then-sorted-clause-told : goal.returns-then-sorted-clause-told
returns-then-sorted-clause-told c = λ l ps h. sorting_falls l (entries_view c.args.entries.now) ps c.args.sorted.now c.in-Some.asked c.in-Some.is c.if-sorted.true h

pub returns-then-sorted-entries-clause-told : goal.returns-then-sorted-entries-clause-told
returns-then-sorted-entries-clause-told c = λ l ps h.
    let s = c.args.sorted.now in
    let es = entries_view c.args.entries.now in
    let less : s.lacks < length es = omega (arith, c.if-sorted-entries.true, length-map c.args.entries.now entry_view) in
    sorting_says l es ps s false c.in-Some.asked c.in-Some.is c.if-sorted.false (lacking_by es s.counts s.lacks less) h

pub returns-clause-told : goal.returns-clause-told
returns-clause-told c = λ l ps h.
    let s = c.args.sorted.now in
    let es = entries_view c.args.entries.now in
    let most : length es ≤ s.lacks = omega (arith, c.if-sorted-entries.false, length-map c.args.entries.now entry_view) in
    sorting_says l es ps s true c.in-Some.asked c.in-Some.is c.if-sorted.false (enough_by es s.counts s.lacks most) h
