use Rattle.std.proofs.Common.{◌≡◌, ◌<◌, ◌^◌, drop}
use Rattle.cddl_meaning.specs.Moves.{plus}
use Rattle.item_nodes.specs.View.{pairs_view}
use Rattle.match_held.specs.Allowance.{work_of_keys}
use Rattle.match_held.proofs.allowance.work_of_keys.Given as goal

-- what is counted so far and what is left are all
abbrev pub invariant-loop-key : goal.invariant-loop-key
invariant-loop-key l = record {
  within : l.work < 2 ^ 64;
  told : plus l.work (work_of_keys (pairs_view (drop l.key-index l.pairs))) ≡ plus 0 (work_of_keys (pairs_view l.pairs));
}
