use Rattle.std.proofs.Common.{◌≡◌, ◌<◌, ◌^◌, drop}
use Rattle.cbor_data.specs.Value.{pairs_place_count}
use Rattle.cddl_meaning.specs.Moves.{plus}
use Rattle.item_nodes.specs.View.{pairs_view}
use Rattle.match_held.proofs.allowance.places_of.Given as goal

-- what is counted so far and what is left are all
abbrev pub invariant-loop-key : goal.invariant-loop-key
invariant-loop-key l = record {
  within : l.next < 2 ^ 64;
  told : plus l.next (pairs_place_count (pairs_view (drop l.key-index l.pairs))) ≡ plus 0 (pairs_place_count (pairs_view l.pairs));
}
