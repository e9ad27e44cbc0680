use Rattle.std.proofs.Common.{◌≡◌, ℕ, ◌+◌, ◌-◌, ◌*◌, ◌≤◌, List, Some, length, drop, get_or, slice_get}
use Rattle.cbor_data.specs.Value.{Value, Values, Pairs}
use Rattle.cbor_tape.specs.Places.{IsAt, AreAt, ArePairsAt}
use Rattle.cddl_meaning.specs.Forms as F
use Rattle.cddl_meaning.specs.Forms.{list_of, pairs_in}
use Rattle.table_nodes.specs.Language.{language_of}
use Rattle.table_nodes.specs.declared.nodes.TypeId.{TypeId}
use Rattle.table_nodes.specs.Nodes.{alternatives_view, entries_view, most_view}
use Rattle.tape_match.specs.Says.{ChoiceComes, SequenceComes, AlternativesCome, RoundsCome, EntriesCome, PairsCome, MapComes}
use Rattle.tape_match.specs.Told.{AreMet, AreSortedAt, IsNextOf, IsRest}
use Rattle.tape_match.proofs.+asking.Given as goal

-- Each loop: what is left says what the whole does, in so many judgements more.

abbrev pub invariant-asking::choice_tells-loop-member : goal.invariant-asking::choice_tells-loop-member
invariant-asking::choice_tells-loop-member l = record {
  some : 1 ≤ l.asked;
  within : l.asked ≤ l.fn.most;
  comes : (x : Value) → IsAt l.fn.on.taped l.fn.place x → ChoiceComes (language_of l.fn.on.table.now) l.fn.members l.left x l.asked;
}

abbrev pub decreases-asking::choice_tells-loop-member : goal.decreases-asking::choice_tells-loop-member
decreases-asking::choice_tells-loop-member l = length l.left

abbrev pub invariant-asking::sequence_does-loop-part : goal.invariant-asking::sequence_does-loop-part
invariant-asking::sequence_does-loop-part l = record {
  some : 1 ≤ l.asked;
  within : l.asked ≤ l.fn.most;
  comes : (xs : Values) → AreAt l.fn.on.taped l.fn.place l.fn.end xs → (mid : Values) × IsRest l.fn.on.taped l.fn.place l.fn.end xs l.at mid × SequenceComes (language_of l.fn.on.table.now) l.fn.parts l.left (list_of xs) (list_of mid) l.asked;
}

abbrev pub decreases-asking::sequence_does-loop-part : goal.decreases-asking::sequence_does-loop-part
decreases-asking::sequence_does-loop-part l = length l.left

abbrev pub invariant-asking::alternatives_do-loop-part : goal.invariant-asking::alternatives_do-loop-part
invariant-asking::alternatives_do-loop-part l = record {
  some : 1 ≤ l.asked;
  within : l.asked ≤ l.fn.most;
  comes : (xs : Values) → AreAt l.fn.on.taped l.fn.place l.fn.end xs → AlternativesCome (language_of l.fn.on.table.now) l.fn.parts l.left (list_of xs) l.asked;
}

abbrev pub decreases-asking::alternatives_do-loop-part : goal.decreases-asking::alternatives_do-loop-part
decreases-asking::alternatives_do-loop-part l = length l.left

abbrev pub invariant-asking::rounds_do-loop-rest : goal.invariant-asking::rounds_do-loop-rest
invariant-asking::rounds_do-loop-rest l = record {
  some : 1 ≤ l.asked;
  within : l.asked ≤ l.fn.most;
  comes : (xs : Values) → AreAt l.fn.on.taped l.fn.place l.fn.end xs → (mid : Values) × IsRest l.fn.on.taped l.fn.place l.fn.end xs l.at mid × RoundsCome (language_of l.fn.on.table.now) (F.Repeat l.fn.least (most_view l.fn.times) l.fn.group) l.fewest (most_view l.rest) l.fn.group (list_of xs) (list_of mid) l.asked;
}

abbrev pub decreases-asking::rounds_do-loop-rest : goal.decreases-asking::rounds_do-loop-rest
decreases-asking::rounds_do-loop-rest l = l.fn.end - l.at

abbrev pub invariant-pairs::ways_tell-loop-way : goal.invariant-pairs::ways_tell-loop-way
invariant-pairs::ways_tell-loop-way l = record {
  some : 1 ≤ l.asked;
  within : l.asked ≤ l.fn.most;
  at : l.left ≡ drop l.number l.fn.ways;
  met : AreMet (language_of l.fn.on.table.now) (alternatives_view l.fn.ways) l.fn.on.taped l.met;
  sorted : (before : List (F.MapEntry TypeId)) → slice_get (alternatives_view l.fn.ways) (l.number - 1) ≡ Some before → AreSortedAt (language_of l.fn.on.table.now) before l.fn.on.taped l.fn.place l.fn.end l.sorted;
  comes : (ps : Pairs) → ArePairsAt l.fn.on.taped l.fn.place l.fn.end ps → MapComes (language_of l.fn.on.table.now) (alternatives_view l.fn.ways) (alternatives_view l.left) ps l.says l.asked;
}

abbrev pub decreases-pairs::ways_tell-loop-way : goal.decreases-pairs::ways_tell-loop-way
decreases-pairs::ways_tell-loop-way l = length l.left

abbrev pub invariant-pairs::each_sorts-loop-held : goal.invariant-pairs::each_sorts-loop-held
invariant-pairs::each_sorts-loop-held l = record {
  within : l.asked ≤ l.fn.most;
  many : length l.counts ≡ 16;
  reached : l.reach ≤ length l.fn.entries;
  none : (i : ℕ) → l.reach ≤ i → get_or l.counts i 0 ≡ 0;
  met : (ws : List (List (F.MapEntry TypeId))) → IsNextOf ws l.fn.number l.fn.same (entries_view l.fn.entries) → AreMet (language_of l.fn.on.table.now) ws l.fn.on.taped l.fn.met → AreMet (language_of l.fn.on.table.now) ws l.fn.on.taped l.met;
  comes : (ws : List (List (F.MapEntry TypeId))) → IsNextOf ws l.fn.number l.fn.same (entries_view l.fn.entries) → AreMet (language_of l.fn.on.table.now) ws l.fn.on.taped l.fn.met → (ps : Pairs) → ArePairsAt l.fn.on.taped l.fn.place l.fn.end ps → (left : Pairs) × ArePairsAt l.fn.on.taped l.at l.fn.end left × PairsCome (language_of l.fn.on.table.now) (entries_view l.fn.entries) ps left l.counts l.fallen l.asked;
}

abbrev pub decreases-pairs::each_sorts-loop-held : goal.decreases-pairs::each_sorts-loop-held
decreases-pairs::each_sorts-loop-held l = l.fn.end - l.at

abbrev pub invariant-pairs::pair_meets-loop-entry : goal.invariant-pairs::pair_meets-loop-entry
invariant-pairs::pair_meets-loop-entry l = record {
  within : l.asked ≤ l.fn.most;
  fewer : length l.left ≤ length l.fn.entries;
  comes : (k x : Value) → IsAt l.fn.on.taped l.fn.key k → IsAt l.fn.on.taped l.fn.held x → EntriesCome (language_of l.fn.on.table.now) (entries_view l.fn.entries) (entries_view l.left) k x l.asked;
}

abbrev pub decreases-pairs::pair_meets-loop-entry : goal.decreases-pairs::pair_meets-loop-entry
decreases-pairs::pair_meets-loop-entry l = length l.left

-- Each form that is asked takes from the depth.

abbrev pub decreases-asking::type_tells : goal.decreases-asking::type_tells
decreases-asking::type_tells l = 16 * l.depth

abbrev pub decreases-asking::part_tells : goal.decreases-asking::part_tells
decreases-asking::part_tells l = 16 * l.depth + 1

abbrev pub decreases-asking::form_tells : goal.decreases-asking::form_tells
decreases-asking::form_tells l = 16 * l.depth + 15

abbrev pub decreases-asking::choice_tells : goal.decreases-asking::choice_tells
decreases-asking::choice_tells l = 16 * l.depth + 8

abbrev pub decreases-asking::array_tells : goal.decreases-asking::array_tells
decreases-asking::array_tells l = 16 * l.depth + 8

abbrev pub decreases-asking::tag_tells : goal.decreases-asking::tag_tells
decreases-asking::tag_tells l = 16 * l.depth + 8

abbrev pub decreases-asking::both_tell : goal.decreases-asking::both_tell
decreases-asking::both_tell l = 16 * l.depth + 8

abbrev pub decreases-asking::such_tells : goal.decreases-asking::such_tells
decreases-asking::such_tells l = 16 * l.depth + 8

abbrev pub decreases-asking::holder_tells : goal.decreases-asking::holder_tells
decreases-asking::holder_tells l = 16 * l.depth + 8

abbrev pub decreases-asking::held_tells : goal.decreases-asking::held_tells
decreases-asking::held_tells l = 16 * l.depth + 1

abbrev pub decreases-asking::group_does : goal.decreases-asking::group_does
decreases-asking::group_does l = 16 * l.depth + 2

abbrev pub decreases-asking::entry_does : goal.decreases-asking::entry_does
decreases-asking::entry_does l = 16 * l.depth + 1

abbrev pub decreases-asking::sequence_does : goal.decreases-asking::sequence_does
decreases-asking::sequence_does l = 16 * l.depth + 4

abbrev pub decreases-asking::alternatives_do : goal.decreases-asking::alternatives_do
decreases-asking::alternatives_do l = 16 * l.depth + 4

abbrev pub decreases-asking::rounds_do : goal.decreases-asking::rounds_do
decreases-asking::rounds_do l = 16 * l.depth + 5

abbrev pub decreases-pairs::map_tells : goal.decreases-pairs::map_tells
decreases-pairs::map_tells l = 16 * l.depth + 13

abbrev pub decreases-pairs::long_ways_tell : goal.decreases-pairs::long_ways_tell
decreases-pairs::long_ways_tell l = 16 * l.depth + 12

abbrev pub decreases-asking::own_form_tells : goal.decreases-asking::own_form_tells
decreases-asking::own_form_tells l = 16 * l.depth + 14

abbrev pub decreases-asking::own_group_does : goal.decreases-asking::own_group_does
decreases-asking::own_group_does l = 16 * l.depth + 1

abbrev pub decreases-asking::part_does : goal.decreases-asking::part_does
decreases-asking::part_does l = 16 * l.depth + 3

abbrev pub decreases-asking::named_does : goal.decreases-asking::named_does
decreases-asking::named_does l = 16 * l.depth + 4

abbrev pub decreases-pairs::ways_tell : goal.decreases-pairs::ways_tell
decreases-pairs::ways_tell l = 16 * l.depth + 11

abbrev pub decreases-pairs::way_sorts : goal.decreases-pairs::way_sorts
decreases-pairs::way_sorts l = 16 * l.depth + 10

abbrev pub decreases-pairs::long_pairs_sort : goal.decreases-pairs::long_pairs_sort
decreases-pairs::long_pairs_sort l = 16 * l.depth + 9

abbrev pub decreases-pairs::pairs_sort : goal.decreases-pairs::pairs_sort
decreases-pairs::pairs_sort l = 16 * l.depth + 9

abbrev pub decreases-pairs::each_sorts : goal.decreases-pairs::each_sorts
decreases-pairs::each_sorts l = 16 * l.depth + 8

abbrev pub decreases-pairs::pair_met : goal.decreases-pairs::pair_met
decreases-pairs::pair_met l = 16 * l.depth + 7

abbrev pub decreases-pairs::pair_meets : goal.decreases-pairs::pair_meets
decreases-pairs::pair_meets l = 16 * l.depth + 6

abbrev pub decreases-pairs::entry_meets : goal.decreases-pairs::entry_meets
decreases-pairs::entry_meets l = 16 * l.depth + 5

abbrev pub decreases-pairs::value_meets : goal.decreases-pairs::value_meets
decreases-pairs::value_meets l = 16 * l.depth + 4
