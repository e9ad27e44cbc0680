use Rattle.std.proofs.Common.{◌≡◌, map, take, length}
use Rattle.graphs.specs.Cycles.Search.{ArePlaces, shut}
use Rattle.graphs.proofs.cycles.search.close.Given as goal

abbrev pub invariant-loop-opened : goal.invariant-loop-opened
invariant-loop-opened l = record {
  places : ArePlaces (length l.marks.items) l.marks.items l.opened.items;
  marks_to : map (shut l.position l.number) l.marks.items ≡ map (shut l.position l.number) l.fn.marks.items;
  opened_to : take l.position l.opened.items ≡ take l.position l.fn.opened.items;
}

abbrev pub decreases-loop-opened : goal.decreases-loop-opened
decreases-loop-opened l = length l.opened.items
