use Rattle.std.proofs.Common.{◌≡◌, ◌-◌}
use Rattle.check_literals.specs.Sizes.Reach.{AreVisited, IsSearch, gap, state}
use Rattle.check_literals.proofs.sizes.reach.Search.reach.Given as goal

abbrev pub invariant-loop-next : goal.invariant-loop-next
invariant-loop-next l = record {
  mark : l.self.mark ≡ l.mark;
  search : IsSearch l.sources l.start (state l.self);
  visited : AreVisited l.sources l.next l.self.reached.items;
}

abbrev pub decreases-loop-next : goal.decreases-loop-next
decreases-loop-next l = gap (state l.self) - l.next
