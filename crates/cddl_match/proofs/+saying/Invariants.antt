use Rattle.std.proofs.Common.{◌≡◌, ◌+◌, ◌-◌, ◌*◌, ◌<◌, ◌≤◌, List, None, Some, drop, length, slice_get}
use Rattle.std.specs.Prelude.{IfSome}
use Rattle.item_nodes.specs.View.{pairs_view, view}
use Rattle.cddl_meaning.specs.Forms as F
use Rattle.cddl_meaning.specs.Judges.{Reply, Fails}
use Rattle.cddl_meaning.specs.Moves as M
use Rattle.table_nodes.specs.Fronts as Fronts
use Rattle.table_nodes.specs.Language.{language_of}
use Rattle.table_nodes.specs.Nodes.{alternatives_view, entries_view}
use Rattle.table_nodes.specs.declared.nodes.TypeId.{TypeId}
use Rattle.cddl_match.specs.Ahead.{ComesTo}
use Rattle.cddl_match.specs.Choosing.{IsAsking, left_of}
use Rattle.cddl_match.specs.Entering.{IsLead, IsLedTo}
use Rattle.cddl_match.specs.Tellings.{AreTold, BeginAlike, HandsOn, IsTallied}
use Rattle.match_moves.specs.Views.{parts_move, rounds_move, tally_view, values}
use Rattle.cddl_match.specs.Within.{Replied, said_view}
use Rattle.cddl_match.proofs.+saying.Given as goal

-- Each loop: what was asked so far comes to what is left, in the steps that were taken.

abbrev pub invariant-saying::choice_says-loop-member : goal.invariant-saying::choice_says-loop-member
invariant-saying::choice_says-loop-member l = record {
  within : l.means.left ≤ l.fn.means.left;
  shown : l.fn.place ≤ l.far;
  asking : IsAsking (language_of l.fn.table) (view l.fn.item) l.left;
  comes : ComesTo (language_of l.fn.table) (M.next_member (left_of l.fn.members) l.fn.place (view l.fn.item) l.fn.place) (M.next_member (left_of l.left) l.fn.place (view l.fn.item) l.far) (l.fn.means.left - l.means.left);
}

abbrev pub invariant-mapping::map_says-loop-way : goal.invariant-mapping::map_says-loop-way
invariant-mapping::map_says-loop-way l = record {
  known : IsTallied (language_of l.fn.table) l.fn.base (pairs_view l.fn.pairs) l.tallied;
  alike : (some : List (F.MapEntry TypeId)) → slice_get (alternatives_view l.fn.alternatives) (l.way - 1) ≡ Some some → Fronts.BeginAlike l.tallied.alike (entries_view l.tallied.entries.now) some;
  led : (some : List (F.MapEntry TypeId)) → slice_get (alternatives_view l.fn.alternatives) (l.way - 1) ≡ Some some → IfSome l.lead (IsLead (language_of l.fn.table) some);
  within : l.means.left ≤ l.fn.means.left;
  comes : (r : Reply) × (said_view l.sofar ≡ Replied r) × ComesTo (language_of l.fn.table) (M.next_way (alternatives_view l.fn.alternatives) l.fn.base (pairs_view l.fn.pairs) (Fails l.fn.base)) (M.next_way (alternatives_view (drop l.way l.fn.alternatives)) l.fn.base (pairs_view l.fn.pairs) r) (l.fn.means.left - l.means.left);
}

abbrev pub invariant-mapping::tally_pairs-loop-pair : goal.invariant-mapping::tally_pairs-loop-pair
invariant-mapping::tally_pairs-loop-pair l = record {
  within : l.means.left ≤ l.fn.means.left;
  none : l.tallied.told ≡ None;
  alike : BeginAlike l.tallied.alike l.tallied.entries.now l.fn.entries;
  comes : ComesTo (language_of l.fn.table) (M.next_pair (entries_view l.fn.entries) l.fn.base (M.plus l.fn.base 1) (pairs_view l.fn.pairs) (M.fresh (entries_view l.fn.entries))) (M.next_pair (entries_view l.fn.entries) l.fn.base l.place (pairs_view l.left) (tally_view l.tallied.tally)) (l.fn.means.left - l.means.left);
  known : IfSome l.told (λ told. AreTold (language_of l.fn.table) (entries_view l.fn.entries) l.fn.base (pairs_view l.fn.pairs) l.place (pairs_view l.left) (tally_view l.tallied.tally) told (l.fn.means.left - l.means.left));
}

abbrev pub invariant-mapping::pair_fate-loop-entry : goal.invariant-mapping::pair_fate-loop-entry
invariant-mapping::pair_fate-loop-entry l = record {
  within : l.means.left ≤ l.fn.means.left;
  comes : HandsOn (language_of l.fn.table) l.fn.place l.fn.pair (entries_view l.fn.entries) (entries_view l.left) (l.fn.means.left - l.means.left);
}

abbrev pub invariant-mapping::led_fate-loop-entry : goal.invariant-mapping::led_fate-loop-entry
invariant-mapping::led_fate-loop-entry l = record {
  within : l.means.left ≤ l.fn.means.left;
  led : l.at < l.fn.lead.entries → IsLedTo (language_of l.fn.table) (view l.fn.pair.0) (entries_view l.fn.entries) l.fn.lead l.next l.at;
  comes : HandsOn (language_of l.fn.table) l.fn.place l.fn.pair (entries_view l.fn.entries) (drop l.at (entries_view l.fn.entries)) (l.fn.means.left - l.means.left);
}

abbrev pub invariant-saying::parts_do-loop-part : goal.invariant-saying::parts_do-loop-part
invariant-saying::parts_do-loop-part l = record {
  within : l.means.left ≤ l.fn.means.left;
  comes : ComesTo (language_of l.fn.table) (parts_move l.fn.parts) (parts_move l.left) (l.fn.means.left - l.means.left);
}

abbrev pub invariant-saying::alternatives_do-loop-part : goal.invariant-saying::alternatives_do-loop-part
invariant-saying::alternatives_do-loop-part l = record {
  within : l.means.left ≤ l.fn.means.left;
  comes : ComesTo (language_of l.fn.table) (M.next_alternative l.fn.parts l.fn.base l.fn.place (values l.fn.items) l.fn.base) (M.next_alternative l.parts l.fn.base l.fn.place (values l.fn.items) l.far) (l.fn.means.left - l.means.left);
}

abbrev pub invariant-saying::rounds_do-loop-group : goal.invariant-saying::rounds_do-loop-group
invariant-saying::rounds_do-loop-group l = record {
  within : l.means.left ≤ l.fn.means.left;
  comes : ComesTo (language_of l.fn.table) (rounds_move l.fn.rounds) (rounds_move l.rounds) (l.fn.means.left - l.means.left);
}

abbrev pub decreases-saying::choice_says-loop-member : goal.decreases-saying::choice_says-loop-member
decreases-saying::choice_says-loop-member l = length (left_of l.left)

abbrev pub decreases-mapping::tally_pairs-loop-pair : goal.decreases-mapping::tally_pairs-loop-pair
decreases-mapping::tally_pairs-loop-pair l = length l.left

abbrev pub decreases-mapping::pair_fate-loop-entry : goal.decreases-mapping::pair_fate-loop-entry
decreases-mapping::pair_fate-loop-entry l = length l.left

abbrev pub decreases-mapping::led_fate-loop-entry : goal.decreases-mapping::led_fate-loop-entry
decreases-mapping::led_fate-loop-entry l = length l.fn.entries - l.at

abbrev pub decreases-saying::parts_do-loop-part : goal.decreases-saying::parts_do-loop-part
decreases-saying::parts_do-loop-part l = length l.left.parts.now

abbrev pub decreases-saying::alternatives_do-loop-part : goal.decreases-saying::alternatives_do-loop-part
decreases-saying::alternatives_do-loop-part l = length l.parts

-- A round takes a step at least.
abbrev pub decreases-saying::rounds_do-loop-group : goal.decreases-saying::rounds_do-loop-group
decreases-saying::rounds_do-loop-group l = l.means.left

-- Each type and group that is asked takes from the depth.

abbrev pub decreases-saying::type_says : goal.decreases-saying::type_says
decreases-saying::type_says l = 16 * l.depth + 1

abbrev pub decreases-saying::type_says_here : goal.decreases-saying::type_says_here
decreases-saying::type_says_here l = 16 * l.depth

abbrev pub decreases-saying::group_does_here : goal.decreases-saying::group_does_here
decreases-saying::group_does_here l = 16 * l.depth + 2

abbrev pub decreases-saying::entry_does : goal.decreases-saying::entry_does
decreases-saying::entry_does l = 16 * l.depth + 1

abbrev pub decreases-saying::group_does : goal.decreases-saying::group_does
decreases-saying::group_does l = 16 * l.depth

abbrev pub decreases-saying::form_says : goal.decreases-saying::form_says
decreases-saying::form_says l = 16 * l.depth + 15

abbrev pub decreases-saying::group_form_does : goal.decreases-saying::group_form_does
decreases-saying::group_form_does l = 16 * l.depth + 15

abbrev pub decreases-saying::choice_says : goal.decreases-saying::choice_says
decreases-saying::choice_says l = 16 * l.depth + 2

abbrev pub decreases-saying::array_says : goal.decreases-saying::array_says
decreases-saying::array_says l = 16 * l.depth + 3

abbrev pub decreases-saying::simple_says : goal.decreases-saying::simple_says
decreases-saying::simple_says l = 16 * l.depth + 3

abbrev pub decreases-saying::such_says : goal.decreases-saying::such_says
decreases-saying::such_says l = 16 * l.depth + 4

abbrev pub decreases-saying::holding_says : goal.decreases-saying::holding_says
decreases-saying::holding_says l = 16 * l.depth + 4

abbrev pub decreases-saying::tag_says : goal.decreases-saying::tag_says
decreases-saying::tag_says l = 16 * l.depth + 3

abbrev pub decreases-saying::held_says : goal.decreases-saying::held_says
decreases-saying::held_says l = 16 * l.depth + 3

abbrev pub decreases-saying::apart_says : goal.decreases-saying::apart_says
decreases-saying::apart_says l = 16 * l.depth + 2

abbrev pub decreases-mapping::map_says : goal.decreases-mapping::map_says
decreases-mapping::map_says l = 16 * l.depth + 7

abbrev pub decreases-mapping::alternative_says : goal.decreases-mapping::alternative_says
decreases-mapping::alternative_says l = 16 * l.depth + 6

abbrev pub decreases-mapping::tally_pairs : goal.decreases-mapping::tally_pairs
decreases-mapping::tally_pairs l = 16 * l.depth + 5

abbrev pub decreases-mapping::pair_fate : goal.decreases-mapping::pair_fate
decreases-mapping::pair_fate l = 16 * l.depth + 4

abbrev pub decreases-mapping::led_fate : goal.decreases-mapping::led_fate
decreases-mapping::led_fate l = 16 * l.depth + 3

abbrev pub decreases-mapping::entry_meets : goal.decreases-mapping::entry_meets
decreases-mapping::entry_meets l = 16 * l.depth + 2

abbrev pub decreases-mapping::key_says : goal.decreases-mapping::key_says
decreases-mapping::key_says l = 16 * l.depth + 1

abbrev pub decreases-saying::parts_do : goal.decreases-saying::parts_do
decreases-saying::parts_do l = 16 * l.depth + 3

abbrev pub decreases-saying::alternatives_do : goal.decreases-saying::alternatives_do
decreases-saying::alternatives_do l = 16 * l.depth + 1

abbrev pub decreases-saying::rounds_do : goal.decreases-saying::rounds_do
decreases-saying::rounds_do l = 16 * l.depth + 1
