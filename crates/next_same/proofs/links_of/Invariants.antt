use Rattle.std.proofs.Common.{◌≡◌, length, ◌≤◌}
use Rattle.next_same.specs.Chains.{AreHeads, AreLinks}
use Rattle.next_same.proofs.links_of.Given as goal

-- those from here on are linked
abbrev pub invariant-loop-left : goal.invariant-loop-left
invariant-loop-left l = record {
  within : l.left ≤ length l.fn.numbers;
  many : length l.links.items ≡ length l.fn.numbers;
  kept : length l.heads.items ≡ length l.fn.heads.items;
  heads : AreHeads l.fn.numbers l.left l.heads.items;
  links : AreLinks l.fn.numbers l.left l.links.items;
}

abbrev pub decreases-loop-left : goal.decreases-loop-left
decreases-loop-left l = l.left
