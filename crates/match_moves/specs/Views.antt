-- What the code's questions, replies and frames stand for.
use Rattle.std.specs.Prelude.{ℕ, List, map, take, nat_le, if◌then◌else◌}
use Rattle.cbor_data.specs.Value.{Value, place_count}
use Rattle.item_nodes.specs.View.{pairs_view, view}
use Rattle.item_nodes.specs.declared.item.Item.{Item}
use Rattle.cddl_meaning.specs.Forms.{bits_asked, passes}
use Rattle.cddl_meaning.specs.Judges as J
use Rattle.cddl_meaning.specs.Moves as M
use Rattle.table_nodes.specs.declared.nodes.TypeId.{TypeId}
use Rattle.table_nodes.specs.declared.nodes.GroupId.{GroupId}
use Rattle.table_nodes.specs.Nodes.{alternatives_view, content_view, entries_view, entry_view, most_view, test_view}
use Rattle.match_moves.specs.declared.counts.Counts.{Counts}
use Rattle.match_tests.specs.Views.{subject_view}
use Rattle.match_moves.specs.declared.questions.Question.{Question}
use Rattle.match_moves.specs.declared.questions.Question.TheVariants.{OfType, OfGroup, OfAlternative}
use Rattle.match_moves.specs.declared.questions.Reply.{Reply}
use Rattle.match_moves.specs.declared.questions.Reply.TheVariants.{Takes, Fails}
use Rattle.match_moves.specs.declared.questions.Tally.{Tally}
use Rattle.match_moves.specs.declared.questions.Fate.{Fate}
use Rattle.match_moves.specs.declared.questions.Fate.TheVariants as F
use Rattle.match_moves.specs.declared.questions.Sorting.{Sorting}
use Rattle.match_moves.specs.declared.questions.Entering.{Entering}
use Rattle.match_moves.specs.declared.questions.Pending.{Pending}
use Rattle.match_moves.specs.declared.questions.Pending.TheVariants as P
use Rattle.match_moves.specs.declared.questions.PendingType.{PendingType}
use Rattle.match_moves.specs.declared.questions.PendingType.TheVariants as T
use Rattle.match_moves.specs.declared.questions.PendingGroup.{PendingGroup}
use Rattle.match_moves.specs.declared.questions.PendingGroup.TheVariants as G
use Rattle.match_moves.specs.declared.questions.PendingMap.{PendingMap}
use Rattle.match_moves.specs.declared.questions.PendingMap.TheVariants as W
use Rattle.match_moves.specs.declared.questions.Round.{Round}
use Rattle.match_moves.specs.declared.questions.Round.TheVariants.{Another, Over}
use Rattle.match_moves.specs.declared.questions.Rounds.{Rounds}
use Rattle.match_moves.specs.declared.questions.Parts.{Parts}
use Rattle.match_moves.specs.declared.questions.Reading.{Reading}
use Rattle.match_moves.specs.declared.questions.Weighing.{Weighing}
use Rattle.match_moves.specs.declared.questions.Move.{Move}
use Rattle.match_moves.specs.declared.questions.Move.TheVariants.{Answered, Asks, Tries, Enters, Reads, Weighs}

-- items, as contracts see them
abbrev pub values : List Item → List Value
values xs = map view xs

-- counts, those of few entries and those of more
abbrev pub counts_view : Counts → List ℕ
counts_view c = if nat_le c.entries 16 then take c.entries c.few else c.many.items

-- a tally, what becomes of a pair, and a pair that is sorted
abbrev pub tally_view : Tally → M.Tally
tally_view t = record { counts = counts_view t.counts; stray = t.stray; failing = t.failing }

abbrev pub fate_view : Fate → J.Fate
fate_view (F.Matches n) = J.BelongsTo n J.Yes
fate_view (F.Fails n far) = J.BelongsTo n (J.No far)
fate_view (F.Stray p) = J.Stray p

abbrev pub sorting_view : Sorting → M.Sorting TypeId
sorting_view s = record {
  entries = entries_view s.entries.now;
  base = s.base;
  key_place = s.place;
  key = view s.pair.now.0;
  value_place = M.plus s.place (place_count (view s.pair.now.0));
  held = view s.pair.now.1;
  next_place = M.plus (M.plus s.place (place_count (view s.pair.now.0))) (place_count (view s.pair.now.1));
  rest = pairs_view s.rest.now;
  tally = tally_view s.tally.value;
}

-- a question, a reply and what waits, each as the definitions have it
abbrev pub question_view : Question → M.Question TypeId GroupId
question_view (OfType n p x) = M.OfType n p (subject_view x)
question_view (OfGroup g base q xs) = M.OfGroup g base q (values xs.now)
question_view (OfAlternative es base ps) = M.OfAlternative (entries_view es.now) base (pairs_view ps.now)

abbrev pub reply_view : Reply → J.Reply
reply_view (Takes left next far) = J.Takes (values left.now) next far
reply_view (Fails far) = J.Fails far

abbrev pub pending_type_view : PendingType → M.Pending TypeId GroupId
pending_type_view (T.Choice ms p x far) = M.InChoice ms.now p (subject_view x) far
pending_type_view T.Array = M.InArray
pending_type_view (T.Head m p y) = M.InHead m p (view y.now)
pending_type_view (T.Simple p) = M.InSimple p
pending_type_view (T.Left m p x) = M.InLeft m p (subject_view x)
pending_type_view (T.Such t p x) = M.InSuch (test_view t.now) p (subject_view x)
pending_type_view (T.Holder c m p x) = M.InHolder (content_view c) m p (subject_view x)
pending_type_view (T.Held p next) = M.InHeld p next

abbrev pub pending_group_view : PendingGroup → M.Pending TypeId GroupId
pending_group_view (G.Entry base xs) = M.InEntry base (values xs.now)
pending_group_view (G.Sequence gs base far) = M.InSequence gs.now base far
pending_group_view (G.Alternatives gs base q xs far) = M.InAlternatives gs.now base q (values xs.now) far
pending_group_view (G.Repeat r) = M.InRepeat r.least (most_view r.most) r.group r.base r.place (values r.items.now) r.far

abbrev pub pending_map_view : PendingMap → M.Pending TypeId GroupId
pending_map_view (W.Ways ess base ps sofar) = M.InMap (alternatives_view ess.now) base (pairs_view ps.now) (reply_view sofar)
pending_map_view (W.Key e es s) = M.InKey (entry_view e.now) (entries_view es.now) (sorting_view s)
pending_map_view (W.Value e es s) = M.InValue (entry_view e.now) (entries_view es.now) (sorting_view s)

abbrev pub pending_view : Pending → M.Pending TypeId GroupId
pending_view P.Ref = M.InRef
pending_view (P.Type t) = pending_type_view t
pending_view (P.Group g) = pending_group_view g
pending_view (P.Map m) = pending_map_view m

abbrev pub rounds_move : Rounds → M.Move TypeId GroupId
rounds_move r = M.repetition r.least (most_view r.most) r.group r.base r.place (values r.items.now) r.far

-- what becomes of a repetition
abbrev pub round_move : Round → M.Move TypeId GroupId
round_move (Another r) = rounds_move r
round_move (Over r) = M.Answered (reply_view r)

abbrev pub parts_move : Parts → M.Move TypeId GroupId
parts_move p = M.next_part p.parts.now p.base p.place (values p.items.now) p.far

abbrev pub entering_move : Entering → M.Move TypeId GroupId
entering_move e = M.Enters (entry_view e.entry.now) (entries_view e.others.now) (sorting_view e.sorting)

abbrev pub reading_move : Reading → M.Move TypeId GroupId
reading_move r = M.Reads (content_view r.content) r.bytes.now r.node r.place r.next

abbrev pub weighing_move : Weighing → M.Move TypeId GroupId
weighing_move w = M.Weighs (bits_asked (test_view w.test.now) (subject_view w.subject)) (M.such_reply w.place w.next (passes (test_view w.test.now) (subject_view w.subject)))

-- a move, with what waits for the reply to what it asks
abbrev pub move_view : Move → M.Pending TypeId GroupId → M.Move TypeId GroupId
move_view (Answered r) o = M.Answered (reply_view r)
move_view (Asks q) o = M.Asks (question_view q) o
move_view (Tries s) o = M.Tries (sorting_view s)
move_view (Enters e) o = entering_move e
move_view (Reads r) o = reading_move r
move_view (Weighs w) o = weighing_move w
