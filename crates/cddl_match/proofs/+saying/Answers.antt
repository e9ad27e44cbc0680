use Rattle.std.proofs.Common.{◌≡◌, suc, ◌+◌, ◌-◌, [], ◌∷◌, Some, drop, length, slice_get, max, true, false, refl, sym, ap, subst, ◌∙◌, arith}
use Rattle.std.specs.Prelude.{Err, IfSome, option_map}
use Rattle.std.specs.declared.alloc.Global.{Global}
use Rattle.std.specs.declared.vec.Vec.{Vec}
use Rattle.std.proofs.lemmas.List.{length-map}
use Rattle.std.proofs.lemmas.Option.{slice_get-map, slice_get_read}
use Rattle.std.proofs.lemmas.Result.{err_from_is_err_and}
use Rattle.lists.proofs.Lemmas.{next_drop, none_left, same_some, there}
use Rattle.cbor_data.specs.Value.{place_count, uint}
use Rattle.item_nodes.specs.View.{pairs_view, view}
use Rattle.cddl_meaning.specs.Forms.{passes}
use Rattle.cddl_meaning.specs.Judges as J
use Rattle.cddl_meaning.specs.Moves as M
use Rattle.table_nodes.specs.Fronts as Fronts
use Rattle.table_nodes.specs.Language.{language_of}
use Rattle.table_nodes.specs.Majors.{told_view}
use Rattle.table_nodes.specs.Nodes.{alternatives_view, content_view, entries_view, entry_view, most_view, test_view, type_view}
use Rattle.table_nodes.specs.declared.nodes.GroupId.{GroupId}
use Rattle.cddl_match.specs.Ahead.{ComesTo}
use Rattle.match_moves.specs.Views.{reply_view, rounds_move, tally_view, values}
use Rattle.cddl_match.specs.Within.{Replied, Stopped, Says, done_view, said_view}
use Rattle.item_nodes.proofs.Lemmas.{view-Uint}
use Rattle.cddl_match.specs.Choosing.{left_of}
use Rattle.cddl_match.specs.Entering.{ArePassed, IsLead}
use Rattle.cddl_match.specs.Tellings.{HandsOn}
use Rattle.table_nodes.specs.Entries.{entry_buckets_in}
use Rattle.table_nodes.specs.declared.nodes.MapEntry.{MapEntry}
use Rattle.cddl_match.proofs.Passed.{choice_ends, member_asked}
use Rattle.cddl_match.proofs.Outcomes.{answered, begins, ends_on, passes_on, says_on, took, asks}
use Rattle.cddl_match.proofs.Passing.{after_first, alike_on, begins_led, goes_led, none_passed, one_more_passed, some_left}
use Rattle.cddl_match.proofs.Sayings.{has_said, type_on, type_few, group_on, group_few, no_passes, yes_passes, array_ends, simple_ends, meant_ends, held_ends, nothing_held, entry_ends, goes_on, ends_so, stops, round_stops}
use Rattle.cddl_match.proofs.Handing.{handed_on, handed_past, is_stray, its_value, kept, key_asked, key_few, key_passed, met, met_stops, none_tried, other_value, value_spent}
use Rattle.cddl_match.proofs.Tellings.{as_many_entries, no_pair_told, pair_few, pair_sorted, pair_stops, pair_told, told_and, told_fits}
use Rattle.cddl_match.proofs.Ways.{and_on, a_round, itself, opens}
use Rattle.cddl_match.proofs.+saying.Goals as goal

pub saying::type_says_here-returns-in_default-checked_sub : goal.saying::type_says_here-returns-in_default-checked_sub
saying::type_says_here-returns-in_default-checked_sub t c = type_few (language_of c.args.table.now) c.args.place (view c.args.item.now) c.args.means.now.left c.args.means.now.left c.type_behind-behind.ensures.passed (omega (arith, c.ranges.place.fits)) (omega (arith, c.in_default-checked_sub.ensures, c.from.ensures))

pub saying::type_says_here-returns-in-Yes : goal.saying::type_says_here-returns-in-Yes
saying::type_says_here-returns-in-Yes t c = c.counted_for.ensures (language_of c.args.table.now) (M.OfType c.args.node c.args.place (view c.args.item.now)) c.args.means.now.left c.said_in-said.new.means.left (c.said_in-said.ensures (language_of c.args.table.now) c.args.node (c.told_of-told.ensures (true, c.in-Yes.steps) (ap told_view c.in-Yes.is)))

pub saying::type_says_here-returns-in-No : goal.saying::type_says_here-returns-in-No
saying::type_says_here-returns-in-No t c = c.said_in.ensures (language_of c.args.table.now) c.args.node (c.told_of-told.ensures (false, c.in-No.steps) (ap told_view c.in-No.is))

pub saying::type_says_here-returns-in-Some-Plain : goal.saying::type_says_here-returns-in-Some-Plain
saying::type_says_here-returns-in-Some-Plain t c = c.counted_for-in-Some-Plain.ensures (language_of c.args.table.now) (M.OfType c.args.node c.args.place (view c.args.item.now)) c.args.means.now.left c.test_says-said.new.means.left (c.test_says-said.ensures (language_of c.args.table.now) c.args.node (rw c.in-Some-Plain.field-0-is at c.in-Some-Plain.ensures.found))

pub saying::type_says_here-returns-in_default-form : goal.saying::type_says_here-returns-in_default-form
saying::type_says_here-returns-in_default-form t c = type_on (language_of c.args.table.now) c.args.place (view c.args.item.now) c.args.means.now.left c.in-Some.left c.in-Some.left (Replied (J.Fails c.args.place)) c.type_behind-behind.ensures.passed (omega (arith, c.ranges.place.fits)) (rw c.in_default-form.is at c.type_behind-behind.ensures.form) (omega (arith, c.in-Some.ensures, c.from.ensures)) (answered (language_of c.args.table.now) c.in-Some.left (J.Fails c.args.place))

pub saying::type_says_here-returns-else-not-may_test-2 : goal.saying::type_says_here-returns-else-not-may_test-2
saying::type_says_here-returns-else-not-may_test-2 t c =
    let reply = M.test_reply c.args.place (view c.args.item.now) (passes (test_view c.in-Plain.test) (view c.args.item.now)) in
    let said : Says (language_of c.args.table.now) (M.OfType c.args.node c.args.place (view c.args.item.now)) c.args.means.now.left c.in-Some.left (said_view c.tested-said.result) = rw c.tested-said.ensures (type_on (language_of c.args.table.now) c.args.place (view c.args.item.now) c.args.means.now.left c.in-Some.left c.in-Some.left (Replied reply) c.type_behind-behind.ensures.passed (omega (arith, c.ranges.place.fits)) (rw c.in-Some-form.is at c.type_behind-behind.ensures.form ∙ ap type_view c.in-Plain.is) (omega (arith, c.in-Some.ensures, c.from.ensures)) (answered (language_of c.args.table.now) c.in-Some.left reply)) in
    c.counted_for-in-Plain.ensures (language_of c.args.table.now) (M.OfType c.args.node c.args.place (view c.args.item.now)) c.args.means.now.left c.in-Some.left said

pub saying::type_says_here-returns-in-Choice : goal.saying::type_says_here-returns-in-Choice
saying::type_says_here-returns-in-Choice t c = type_on (language_of c.args.table.now) c.args.place (view c.args.item.now) c.args.means.now.left c.in-Some.left c.choice_says.new.means.left (said_view c.choice_says.result) c.type_behind-behind.ensures.passed (omega (arith, c.ranges.place.fits)) (rw c.in-Some-form.is at c.type_behind-behind.ensures.form ∙ ap type_view c.in-Choice.is) (omega (arith, c.in-Some.ensures, c.from.ensures)) (rw (c.of-members.ensures.left, c.deref.ensures.value) at c.choice_says.ensures)

pub saying::type_says_here-returns-in_default-form-2 : goal.saying::type_says_here-returns-in_default-form-2
saying::type_says_here-returns-in_default-form-2 t c = type_on (language_of c.args.table.now) c.args.place (view c.args.item.now) c.args.means.now.left c.in-Some.left c.form_says.new.means.left (said_view c.form_says.result) c.type_behind-behind.ensures.passed (omega (arith, c.ranges.place.fits)) (rw c.in-Some-form.is at c.type_behind-behind.ensures.form) (omega (arith, c.in-Some.ensures, c.from.ensures)) c.form_says.ensures

pub saying::group_does-returns-in_default : goal.saying::group_does-returns-in_default
saying::group_does-returns-in_default t c = group_few (language_of c.args.table.now) c.args.base c.args.place (values c.args.items.now) c.args.means.now.left c.args.means.now.left c.group_behind-passed.ensures (omega (arith, c.in_default.ensures, c.from.ensures))

pub saying::group_does-returns-in-Some-group : goal.saying::group_does-returns-in-Some-group
saying::group_does-returns-in-Some-group t c = group_on (language_of c.args.table.now) c.args.base c.args.place (values c.args.items.now) c.args.means.now.left c.in-Some.left c.group_form_does.new.means.left _ c.group_behind-passed.ensures c.in-Some-group.ensures.found (omega (arith, c.in-Some.ensures, c.from.ensures)) c.group_form_does.ensures

pub saying::group_does-returns-in-None : goal.saying::group_does-returns-in-None
saying::group_does-returns-in-None t c = group_on (language_of c.args.table.now) c.args.base c.args.place (values c.args.items.now) c.args.means.now.left c.in-Some.left c.in-Some.left (Replied (J.Fails c.args.base)) c.group_behind-passed.ensures c.in-None.ensures.none (omega (arith, c.in-Some.ensures, c.from.ensures)) (answered (language_of c.args.table.now) c.in-Some.left (J.Fails c.args.base))

pub saying::form_says-returns-in-Ref : goal.saying::form_says-returns-in-Ref
saying::form_says-returns-in-Ref t c = rw c.in-Ref.is (passes_on (language_of c.args.table.now) (M.OfType c.in-Ref.to c.args.place (view c.args.item.now)) c.args.means.now.left c.type_says.new.means.left (said_view c.type_says.result) c.type_says.ensures)

pub saying::array_says-returns-in-Some : goal.saying::array_says-returns-in-Some
saying::array_says-returns-in-Some t c = rw (c.in-Some.ensures, c.array_said.ensures) (array_ends (language_of c.args.table.now) c.args.group c.args.place (values c.in-Some.items.now) c.args.means.now.left c.group_does.new.means.left _ (rw c.plus-first.ensures at c.group_does.ensures))

pub saying::simple_says-returns-in-Some : goal.saying::simple_says-returns-in-Some
saying::simple_says-returns-in-Some t c = rw (c.in-Some.ensures, c.simple_said.ensures) (simple_ends (language_of c.args.table.now) c.args.head c.args.place c.in-Some.number c.args.means.now.left c.apart_says.new.means.left _ (rw (view-Uint c.in-Some.number) at c.apart_says.ensures))

pub saying::form_says-returns-in-Yes : goal.saying::form_says-returns-in-Yes
saying::form_says-returns-in-Yes t c =
    let l = language_of c.args.table.now in
    let right = passes_on l (M.OfType c.in-Both.right c.args.place (view c.args.item.now)) c.type_says-in-Both.new.means.left c.type_says-in-Yes.new.means.left (said_view c.type_says-in-Yes.result) c.type_says-in-Yes.ensures in
    rw c.in-Both.is (asks l c.args.means.now.left c.type_says-in-Both.new.means.left c.type_says-in-Yes.new.means.left (M.InLeft c.in-Both.right c.args.place (view c.args.item.now)) (said_view c.type_says-in-Yes.result) c.in-Yes.ensures right)

pub saying::form_says-returns-in_default-type_says : goal.saying::form_says-returns-in_default-type_says
saying::form_says-returns-in_default-type_says t c = rw c.in-Both.is (no_passes (language_of c.args.table.now) (M.OfType c.in-Both.left c.args.place (view c.args.item.now)) c.args.means.now.left c.type_says-in-Both.new.means.left (M.InLeft c.in-Both.right c.args.place (view c.args.item.now)) c.type_says-in-Both.result (λ far. refl) c.in_default-type_says.not-Yes c.type_says-in-Both.ensures)

pub saying::such_says-returns-in-Yes : goal.saying::such_says-returns-in-Yes
saying::such_says-returns-in-Yes t c = asks (language_of c.args.table.now) c.args.means.now.left c.type_says.new.means.left c.test_behind.new.means.left (M.InSuch (test_view c.args.test.now) c.args.place (view c.args.item.now)) (said_view c.test_behind.result) c.in-Yes.ensures (c.test_behind.ensures (language_of c.args.table.now))

pub saying::such_says-returns-in_default : goal.saying::such_says-returns-in_default
saying::such_says-returns-in_default t c = no_passes (language_of c.args.table.now) (M.OfType c.args.of c.args.place (view c.args.item.now)) c.args.means.now.left c.type_says.new.means.left (M.InSuch (test_view c.args.test.now) c.args.place (view c.args.item.now)) c.type_says.result (λ far. refl) c.in_default.not-Yes c.type_says.ensures

pub saying::holding_says-returns-in-Yes : goal.saying::holding_says-returns-in-Yes
saying::holding_says-returns-in-Yes t c = asks (language_of c.args.table.now) c.args.means.now.left c.type_says.new.means.left c.held_says.new.means.left (M.InHolder (content_view c.args.content) c.args.node c.args.place (view c.args.item.now)) (said_view c.held_says.result) c.in-Yes.ensures c.held_says.ensures

pub saying::holding_says-returns-in_default : goal.saying::holding_says-returns-in_default
saying::holding_says-returns-in_default t c = no_passes (language_of c.args.table.now) (M.OfType c.args.of c.args.place (view c.args.item.now)) c.args.means.now.left c.type_says.new.means.left (M.InHolder (content_view c.args.content) c.args.node c.args.place (view c.args.item.now)) c.type_says.result (λ far. refl) c.in_default.not-Yes c.type_says.ensures

pub saying::choice_says-loop-member-init : goal.saying::choice_says-loop-member-init
saying::choice_says-loop-member-init t c = record {
  within = omega arith;
  shown = omega arith;
  asking = c.requires;
  comes = begins (language_of c.args.table.now) _ c.args.means.now.left;
}

pub saying::choice_says-returns-in_default-type_says_here : goal.saying::choice_says-returns-in_default-type_says_here
saying::choice_says-returns-in_default-type_says_here t c =
    let l = language_of c.args.table.now in
    let kept = c.loop-member.invariant in
    let asked = rw c.in-Some.is at (c.next.ensures l (view c.args.item.now) c.args.place c.loop-member.far kept.asking kept.shown) in
    let here = member_asked l (view c.args.item.now) c.args.place c.loop-member.far c.loop-member.left c.next.new.self c.args.means.now.left c.loop-member.means.left c.next.new.means.left kept.comes kept.within asked in
    ends_so l c.args.means.now.left c.next.new.means.left c.type_says_here.new.means.left (said_view c.type_says_here.result) here.0 here.1 (yes_passes l (M.OfType c.in-Some.member c.args.place (view c.args.item.now)) c.next.new.means.left c.type_says_here.new.means.left (M.InChoice (left_of c.next.new.self) c.args.place (view c.args.item.now) c.loop-member.far) c.type_says_here.result (λ next. refl) c.in_default-type_says_here.not-No c.type_says_here.ensures)

pub saying::choice_says-loop-member-preserved : goal.saying::choice_says-loop-member-preserved
saying::choice_says-loop-member-preserved t c =
    let l = language_of c.args.table.now in
    let kept = c.loop-member.invariant in
    let asked = rw c.in-Some.is at (c.next.ensures l (view c.args.item.now) c.args.place c.loop-member.far kept.asking kept.shown) in
    let here = member_asked l (view c.args.item.now) c.args.place c.loop-member.far c.loop-member.left c.next.new.self c.args.means.now.left c.loop-member.means.left c.next.new.means.left kept.comes kept.within asked in
    let e : c.max-far.result ≡ max c.loop-member.far c.in-No.later = omega (arith, c.max-far.ensures) in
    record {
      within = omega (arith, here.1, c.in-No.ensures.1);
      shown = omega (arith, kept.shown, e);
      asking = asked.0;
      comes = rw e (goes_on l (M.InChoice (left_of c.next.new.self) c.args.place (view c.args.item.now) c.loop-member.far) c.args.means.now.left c.next.new.means.left c.type_says_here.new.means.left here.0 here.1 c.in-No.ensures);
    }

pub saying::choice_says-loop-member-smaller : goal.saying::choice_says-loop-member-smaller
saying::choice_says-loop-member-smaller t c =
    let kept = c.loop-member.invariant in
    let asked = rw c.in-Some.is at (c.next.ensures (language_of c.args.table.now) (view c.args.item.now) c.args.place c.loop-member.far kept.asking kept.shown) in
    asked.1.0

pub saying::form_says-choice_says-requires : goal.saying::form_says-choice_says-requires
saying::form_says-choice_says-requires t c = (omega arith, c.all.ensures.asking (language_of c.args.table.now) (view c.args.item.now))

pub saying::choice_says-returns : goal.saying::choice_says-returns
saying::choice_says-returns t c =
    let l = language_of c.args.table.now in
    let kept = c.loop-member.invariant in
    let ended = rw c.in_default.is at (c.next.ensures l (view c.args.item.now) c.args.place c.loop-member.far kept.asking kept.shown) in
    rw c.said.ensures (choice_ends l (view c.args.item.now) c.args.place c.loop-member.far c.loop-member.left c.next.new.self c.args.means.now.left c.loop-member.means.left c.next.new.means.left kept.comes kept.within ended c.next.new.self.spent refl)

pub saying::tag_says-returns-in-Any : goal.saying::tag_says-returns-in-Any
saying::tag_says-returns-in-Any t c = rw c.in-Any.is (passes_on (language_of c.args.table.now) (M.OfType c.args.node (M.plus c.args.place 1) (view c.args.content.now)) c.args.means.now.left c.type_says.new.means.left (said_view c.type_says.result) (rw c.plus-after.ensures at c.type_says.ensures))

pub saying::tag_says-returns-in-Exactly : goal.saying::tag_says-returns-in-Exactly
saying::tag_says-returns-in-Exactly t c =
    let l = language_of c.args.table.now in
    let content = passes_on l (M.OfType c.args.node (M.plus c.args.place 1) (view c.args.content.now)) c.args.means.now.left c.type_says-in-Exactly.new.means.left (said_view c.type_says-in-Exactly.result) (rw c.plus-after.ensures at c.type_says-in-Exactly.ensures) in
    rw c.in-Exactly.is (meant_ends l c.in-Exactly.wanted c.args.found c.args.node c.args.place (view c.args.content.now) c.args.means.now.left c.type_says-in-Exactly.new.means.left (said_view c.type_says-in-Exactly.result) c.if-wanted-found.true content)

pub saying::tag_says-returns-in-Yes : goal.saying::tag_says-returns-in-Yes
saying::tag_says-returns-in-Yes t c =
    let l = language_of c.args.table.now in
    let content = passes_on l (M.OfType c.args.node (M.plus c.args.place 1) (view c.args.content.now)) c.apart_says.new.means.left c.type_says-in-Yes.new.means.left (said_view c.type_says-in-Yes.result) (rw c.plus-after.ensures at c.type_says-in-Yes.ensures) in
    rw c.in-SuchAs.is (asks l c.args.means.now.left c.apart_says.new.means.left c.type_says-in-Yes.new.means.left (M.InHead c.args.node c.args.place (view c.args.content.now)) (said_view c.type_says-in-Yes.result) (rw (view-Uint c.args.found) at c.in-Yes.ensures) content)

pub saying::tag_says-returns-in-No : goal.saying::tag_says-returns-in-No
saying::tag_says-returns-in-No t c = rw c.in-SuchAs.is (asks (language_of c.args.table.now) c.args.means.now.left c.apart_says.new.means.left c.apart_says.new.means.left (M.InHead c.args.node c.args.place (view c.args.content.now)) (Replied (J.Fails c.args.place)) (rw (view-Uint c.args.found) at c.in-No.ensures) (answered (language_of c.args.table.now) c.apart_says.new.means.left (J.Fails c.args.place)))

pub saying::tag_says-returns-in_default : goal.saying::tag_says-returns-in_default
saying::tag_says-returns-in_default t c = rw c.in-SuchAs.is (stops (language_of c.args.table.now) (M.OfType c.in-SuchAs.head c.args.place (uint c.args.found)) c.args.means.now.left c.apart_says.new.means.left (M.InHead c.args.node c.args.place (view c.args.content.now)) c.apart_says.result c.in_default.not-Yes c.in_default.not-No (rw (view-Uint c.args.found) at c.apart_says.ensures))

pub saying::held_says-returns-in-Ok-None : goal.saying::held_says-returns-in-Ok-None
saying::held_says-returns-in-Ok-None t c = rw c.in-Some.ensures (nothing_held (language_of c.args.table.now) (content_view c.args.content) c.in-Some.bytes.now c.args.node c.args.place c.args.next c.args.means.now.left (rw c.in-Ok-None.field-0-is at c.in-Ok-None.ensures.held))

pub saying::held_says-returns-in-Ok-Some : goal.saying::held_says-returns-in-Ok-Some
saying::held_says-returns-in-Ok-Some t c = rw (c.in-Some.ensures, c.held_said.ensures) (held_ends (language_of c.args.table.now) (content_view c.args.content) c.in-Some.bytes.now c.args.node c.args.place c.args.next (view c.in-Ok-Some.held) c.args.means.now.left c.apart_says.new.means.left _ (rw c.in-Ok-Some.field-0-is at c.in-Ok-Some.ensures.held) c.apart_says.ensures)

pub saying::type_says_here-form_says-requires : goal.saying::type_says_here-form_says-requires
saying::type_says_here-form_says-requires t c = (omega arith, rw c.in-Some-form.is at c.type_behind-behind.ensures.form)

pub saying::form_says-map_says-requires : goal.saying::form_says-map_says-requires
saying::form_says-map_says-requires t c = (omega arith, rw c.deref-in-Some.ensures.value (c.requires ∙ ap type_view c.in-MapOf.is))

pub mapping::map_says-loop-way-init : goal.mapping::map_says-loop-way-init
mapping::map_says-loop-way-init t c = record {
  alike = λ some e. rw c.nothing_tallied-tallied.ensures.alike (omega arith, refl);
  led = λ some e. tt;
  known = rw c.nothing_tallied-tallied.ensures.told tt;
  within = omega arith;
  comes = (J.Fails c.args.base, refl, begins (language_of c.args.table.now) (M.next_way {G = GroupId} (alternatives_view c.args.alternatives.now) c.args.base (pairs_view c.args.pairs.now) (J.Fails c.args.base)) c.args.means.now.left);
}

pub mapping::map_says-alternative_says-requires : goal.mapping::map_says-alternative_says-requires
mapping::map_says-alternative_says-requires t c =
    let l = language_of c.args.table.now in
    let alts = c.args.alternatives.now in
    let ways = alternatives_view alts in
    let way = c.loop-way.way in
    let entries_of = λ (es : Vec MapEntry Global). entries_view es.items in
    let es = entries_view c.index-alternatives-way.result.items in
    let here : slice_get ways way ≡ Some es = slice_get-map entries_of alts way ∙ ap (option_map entries_of) (slice_get_read alts _ way c.index-alternatives-way.result refl c.loop-way-test.true c.index-alternatives-way.is) in
    let before = there ways (way - 1) (omega (arith, c.loop-way-test.true, length-map alts entries_of)) in
    let front : Fronts.BeginAlike c.front_for-front.result before.0 es = rw c.deref.ensures.value at (c.front_for-front.ensures ways before.0 c.requires before.1 (here ∙ ap (λ xs. Some (entries_view xs)) (sym c.deref.ensures.value))) in
    let led : IfSome c.lead_for-lead.result (IsLead l es) = rw c.deref-in-loop-way.ensures.value at (c.lead_for-lead.ensures ways before.0 c.requires (here ∙ ap (λ xs. Some (entries_view xs)) (sym c.deref-in-loop-way.ensures.value)) (subst (λ xs. Fronts.BeginAlike c.front_for-front.result before.0 (entries_view xs)) (sym c.deref-in-loop-way.ensures.value) front) (c.loop-way.invariant.led before.0 before.1)) in
    let both = alike_on c.loop-way.tallied.alike c.front_for-front.result (entries_view c.loop-way.tallied.entries.now) before.0 es (c.loop-way.invariant.alike before.0 before.1) front in
    let same = sym c.deref-in-loop-way-2.ensures.value in (
      omega arith,
      (
        c.loop-way.invariant.known,
        (
          subst (λ xs. Fronts.BeginAlike c.min.result (entries_view c.loop-way.tallied.entries.now) (entries_view xs)) same (subst (λ n. Fronts.BeginAlike n (entries_view c.loop-way.tallied.entries.now) es) (omega (arith, c.min.ensures)) both),
          subst (λ xs. IfSome c.lead_for-lead.result (IsLead l (entries_view xs))) same led,
        ),
      ),
    )

pub mapping::map_says-loop-way-preserved : goal.mapping::map_says-loop-way-preserved
mapping::map_says-loop-way-preserved t c =
    let l = language_of c.args.table.now in
    let alts = c.args.alternatives.now in
    let ways = alternatives_view alts in
    let way = c.loop-way.way in
    let entries_of = λ (es : Vec MapEntry Global). entries_view es.items in
    let es = entries_view c.index-alternatives-way.result.items in
    let here : slice_get ways way ≡ Some es = slice_get-map entries_of alts way ∙ ap (option_map entries_of) (slice_get_read alts _ way c.index-alternatives-way.result refl c.loop-way-test.true c.index-alternatives-way.is) in
    let before = there ways (way - 1) (omega (arith, c.loop-way-test.true, length-map alts entries_of)) in
    let front : Fronts.BeginAlike c.front_for-front.result before.0 es = rw c.deref.ensures.value at (c.front_for-front.ensures ways before.0 c.requires before.1 (here ∙ ap (λ xs. Some (entries_view xs)) (sym c.deref.ensures.value))) in
    let led : IfSome c.lead_for-lead.result (IsLead l es) = rw c.deref-in-loop-way.ensures.value at (c.lead_for-lead.ensures ways before.0 c.requires (here ∙ ap (λ xs. Some (entries_view xs)) (sym c.deref-in-loop-way.ensures.value)) (subst (λ xs. Fronts.BeginAlike c.front_for-front.result before.0 (entries_view xs)) (sym c.deref-in-loop-way.ensures.value) front) (c.loop-way.invariant.led before.0 before.1)) in
    let both = alike_on c.loop-way.tallied.alike c.front_for-front.result (entries_view c.loop-way.tallied.entries.now) before.0 es (c.loop-way.invariant.alike before.0 before.1) front in
    let i = c.loop-way.invariant.comes in
    let ps = pairs_view c.args.pairs.now in
    let taken = c.args.means.now.left - c.loop-way.means.left in
    let next : drop way alts ≡ c.index-alternatives-way.result ∷ drop (way + 1) alts = next_drop alts way c.index-alternatives-way.result c.loop-way-test.true c.index-alternatives-way.is in
    let so_far = subst (λ ws. ComesTo l (M.next_way {G = GroupId} ways c.args.base ps (J.Fails c.args.base)) (M.next_way {G = GroupId} (alternatives_view ws) c.args.base ps i.0) taken) next i.2 in
    let x = has_said c.alternative_says.result c.in_default.not-Spent c.in_default.not-NoMemory in
    let q = M.OfAlternative (entries_view c.index-alternatives-way.result.items) c.args.base ps in
    let told : Says l q c.loop-way.means.left c.alternative_says.new.means.left (Replied x.0) = subst (λ o. Says l q c.loop-way.means.left c.alternative_says.new.means.left o) x.1 (rw c.deref-in-loop-way-2.ensures.value at c.alternative_says.ensures.says) in
    record {
      known = c.alternative_says.ensures.known;
      alike = λ some e. subst (Fronts.BeginAlike c.alternative_says.new.tallied.alike (entries_view c.alternative_says.new.tallied.entries.now)) (same_some (sym here ∙ ap (slice_get ways) (let k : way ≡ way + 1 - 1 = omega arith in k) ∙ e)) (rw c.deref-in-loop-way-2.ensures.value at c.alternative_says.ensures.alike);
      led = λ some e. subst (λ es. IfSome c.lead_for-lead.result (IsLead l es)) (same_some (sym here ∙ ap (slice_get ways) (let k : way ≡ way + 1 - 1 = omega arith in k) ∙ e)) led;
      within = omega (arith, c.loop-way.invariant.within, told.1);
      comes = (M.either_reply i.0 x.0, c.either_said-sofar.ensures i.0 x.0 i.1 x.1, goes_on l (M.InMap (alternatives_view (drop (way + 1) alts)) c.args.base ps i.0) c.args.means.now.left c.loop-way.means.left c.alternative_says.new.means.left so_far c.loop-way.invariant.within told);
    }

pub mapping::alternative_says-returns-in-Ok-clause-says : goal.mapping::alternative_says-returns-in-Ok-clause-says
mapping::alternative_says-returns-in-Ok-clause-says t c =
    let l = language_of c.args.table.now in
    let es = entries_view c.args.entries.now in
    let come = c.in-Ok.ensures.comes in
    let tally = tally_view c.tally_pairs.new.tallied.tally in
    let next = c.tally_pairs.new.tallied.next in
    let e = c.says.ensures ∙ ap (λ (xs : _). Replied (M.answer_reply next (M.tally_says xs c.args.base tally))) come.0 in
    rw e (says_on l c.args.means.now.left c.in-Some-checked_sub.left c.tally_pairs.new.means.left (Replied (M.answer_reply next (M.tally_says es c.args.base tally))) (opens l (M.OfAlternative es c.args.base (pairs_view c.args.pairs.now))) (omega (arith, c.in-Some-checked_sub.ensures)) (come.1, come.2))

pub mapping::tally_pairs-loop-pair-init : goal.mapping::tally_pairs-loop-pair-init
mapping::tally_pairs-loop-pair-init t c =
    let l = language_of c.args.table.now in
    let es = entries_view c.args.entries.now in
    let ps = pairs_view c.args.pairs.now in
    record {
      within = omega arith;
      none = refl;
      alike = c.requires.alike;
      comes = rw (c.plus-place.ensures, c.in-Ok.ensures) (begins l (M.next_pair es c.args.base (M.plus c.args.base 1) ps (M.fresh es)) c.args.means.now.left);
      known = rw (c.plus-place.ensures, c.in-Ok.ensures) (no_pair_told l (λ n. refl) es c.args.base ps c.args.means.now.left);
    }

pub mapping::tally_pairs-returns-in_default-checked_sub-clause-comes : goal.mapping::tally_pairs-returns-in_default-checked_sub-clause-comes
mapping::tally_pairs-returns-in_default-checked_sub-clause-comes t c =
    let here = rw c.in-Some.ensures.cases.0 at c.loop-pair.invariant.comes in
    pair_few (language_of c.args.table.now) (λ n. refl) (entries_view c.args.entries.now) c.args.base c.loop-pair.place c.in-Some.pair.now (pairs_view c.in-Some.others.now) (pairs_view c.args.pairs.now) (tally_view c.loop-pair.tallied.tally) c.loop-pair.tallied c.args.means.now.left c.loop-pair.means.left here c.loop-pair.invariant.within (omega (arith, c.in_default-checked_sub.ensures))

pub mapping::tally_pairs-returns-in_err-fate-clause-comes : goal.mapping::tally_pairs-returns-in_err-fate-clause-comes
mapping::tally_pairs-returns-in_err-fate-clause-comes t c =
    let here = rw c.in-Some.ensures.cases.0 at c.loop-pair.invariant.comes in
    let e = err_from_is_err_and c.from_residual.result c.from_residual.ensures.1 in
    rw (e.1 ∙ ap Err e.2) (pair_stops (language_of c.args.table.now) (λ n. refl) (entries_view c.args.entries.now) c.args.base c.loop-pair.place c.in-Some.pair.now (pairs_view c.in-Some.others.now) (pairs_view c.args.pairs.now) (tally_view c.loop-pair.tallied.tally) c.loop-pair.tallied _ c.args.means.now.left c.loop-pair.means.left c.in-Some-checked_sub.some c.pair_fate.new.means.left here c.loop-pair.invariant.within (omega (arith, c.in-Some-checked_sub.ensures)) c.in_err-fate.ensures)

pub mapping::tally_pairs-loop-pair-preserved : goal.mapping::tally_pairs-loop-pair-preserved
mapping::tally_pairs-loop-pair-preserved t c =
    let l = language_of c.args.table.now in
    let es = entries_view c.args.entries.now in
    let both = c.in-Some.pair.now in
    let rest = pairs_view c.in-Some.others.now in
    let ps = pairs_view c.args.pairs.now in
    let tally = tally_view c.loop-pair.tallied.tally in
    let here = rw c.in-Some.ensures.cases.0 at c.loop-pair.invariant.comes in
    let known = rw c.in-Some.ensures.cases.0 at c.loop-pair.invariant.known in
    let place = c.place_after-place.ensures ∙ ap (λ k. M.plus k (place_count (view both.1))) c.place_after.ensures in
    let one : 1 + c.in-Some-checked_sub.some ≡ c.loop-pair.means.left = omega (arith, c.in-Some-checked_sub.ensures) in
    record {
      within = omega (arith, c.loop-pair.invariant.within, c.in_ok-fate.ensures.1, one);
      none = c.loop-pair.invariant.none;
      alike = c.loop-pair.invariant.alike;
      comes = rw (place, c.tally_pair.ensures) (pair_sorted l (λ n. refl) es c.args.base c.loop-pair.place both rest ps tally c.in_ok-fate.fate c.args.means.now.left c.loop-pair.means.left c.in-Some-checked_sub.some c.pair_fate.new.means.left here c.loop-pair.invariant.within one c.in_ok-fate.ensures);
      known = rw (c.told_with-told.ensures, place, c.tally_pair.ensures) (pair_told l (λ n. refl) es c.args.base c.loop-pair.place both rest ps tally c.loop-pair.told c.in_ok-fate.fate (length c.args.entries.now) c.args.means.now.left c.loop-pair.means.left c.in-Some-checked_sub.some c.pair_fate.new.means.left (as_many_entries c.args.entries.now) c.loop-pair.invariant.within one known c.in_ok-fate.ensures);
    }

pub mapping::tally_pairs-first_are_enough-tallied-requires : goal.mapping::tally_pairs-first_are_enough-tallied-requires
mapping::tally_pairs-first_are_enough-tallied-requires t c = told_fits (language_of c.args.table.now) c.args.entries.now c.args.base c.loop-pair.place (c.args.means.now.left - c.loop-pair.means.left) (pairs_view c.args.pairs.now) (pairs_view c.loop-pair.left.now) (tally_view c.loop-pair.tallied.tally) c.loop-pair.told c.loop-pair.invariant.known

pub mapping::tally_pairs-returns-clause-known : goal.mapping::tally_pairs-returns-clause-known
mapping::tally_pairs-returns-clause-known t c = told_and c.loop-pair.told _ _ (rw (none_left _ c.in_default-split_first.ensures.cases) at c.loop-pair.invariant.known) c.first_are_enough-tallied.ensures

pub mapping::key_says-returns-in-Some-Plain : goal.mapping::key_says-returns-in-Some-Plain
mapping::key_says-returns-in-Some-Plain t c = c.key_tested.ensures (entry_view c.args.entry.now) (rw c.in-Some-Plain.field-0-is at c.in-Some-Plain.ensures.found)

pub mapping::key_says-returns-then-is_passed_over : goal.mapping::key_says-returns-then-is_passed_over
mapping::key_says-returns-then-is_passed_over t c = key_passed (language_of c.args.table.now) c.args.place c.args.pair.now (entry_view c.args.entry.now) c.args.place c.args.means.now.left (sym c.is_passed_over.ensures ∙ c.if-is_passed_over.true)

pub mapping::key_says-returns-in_default-checked_sub : goal.mapping::key_says-returns-in_default-checked_sub
mapping::key_says-returns-in_default-checked_sub t c = key_few (language_of c.args.table.now) c.args.place c.args.pair.now (entry_view c.args.entry.now) c.args.means.now.left c.args.means.now.left (sym c.is_passed_over.ensures ∙ c.if-is_passed_over.false) (omega (arith, c.in_default-checked_sub.ensures))

pub mapping::key_says-returns : goal.mapping::key_says-returns
mapping::key_says-returns t c = key_asked (language_of c.args.table.now) c.args.place c.args.pair.now (entry_view c.args.entry.now) c.args.means.now.left c.in-Some.left c.type_says_here.new.means.left (said_view c.type_says_here.result) (sym c.is_passed_over.ensures ∙ c.if-is_passed_over.false) (omega (arith, c.in-Some.ensures)) c.type_says_here.ensures

pub mapping::entry_meets-returns-in-Spent : goal.mapping::entry_meets-returns-in-Spent
mapping::entry_meets-returns-in-Spent t c = c.in-Spent.ensures

pub mapping::entry_meets-returns-in-No : goal.mapping::entry_meets-returns-in-No
mapping::entry_meets-returns-in-No t c = c.in-No.ensures

pub mapping::entry_meets-returns-in-Yes-type_says_here : goal.mapping::entry_meets-returns-in-Yes-type_says_here
mapping::entry_meets-returns-in-Yes-type_says_here t c = (refl, its_value (language_of c.args.table.now) c.args.place c.args.pair.now (entry_view c.args.entry.now) c.args.means.now.left c.key_says.new.means.left c.type_says_here.new.means.left c.in-Yes.ensures (rw c.place_after-value_place.ensures at c.in-Yes-type_says_here.ensures))

pub mapping::entry_meets-returns-then-entry : goal.mapping::entry_meets-returns-then-entry
mapping::entry_meets-returns-then-entry t c = (refl, kept (language_of c.args.table.now) c.args.place c.args.pair.now (entry_view c.args.entry.now) c.args.means.now.left c.key_says.new.means.left c.type_says_here.new.means.left c.in-Yes.ensures c.if-entry.true (rw c.place_after-value_place.ensures at c.in-No-type_says_here.ensures))

pub mapping::entry_meets-returns : goal.mapping::entry_meets-returns
mapping::entry_meets-returns t c = other_value (language_of c.args.table.now) c.args.place c.args.pair.now (entry_view c.args.entry.now) c.args.means.now.left c.key_says.new.means.left c.type_says_here.new.means.left c.in-Yes.ensures c.if-entry.false (rw c.place_after-value_place.ensures at c.in-No-type_says_here.ensures)

pub mapping::entry_meets-returns-in-Spent-type_says_here : goal.mapping::entry_meets-returns-in-Spent-type_says_here
mapping::entry_meets-returns-in-Spent-type_says_here t c = value_spent (language_of c.args.table.now) c.args.place c.args.pair.now (entry_view c.args.entry.now) c.args.means.now.left c.key_says.new.means.left c.type_says_here.new.means.left c.in-Yes.ensures c.args.after (rw c.place_after-value_place.ensures at c.in-Spent-type_says_here.ensures)

pub mapping::pair_fate-loop-entry-init : goal.mapping::pair_fate-loop-entry-init
mapping::pair_fate-loop-entry-init t c = record {
  within = omega arith;
  comes = none_tried (language_of c.args.table.now) c.args.place c.args.pair.now (entries_view c.args.entries.now) c.args.means.now.left;
}

pub mapping::pair_fate-loop-entry-preserved : goal.mapping::pair_fate-loop-entry-preserved
mapping::pair_fate-loop-entry-preserved t c =
    let met = rw c.in_default-2.is at c.in_ok-fate.ensures in
    record {
      within = omega (arith, c.loop-entry.invariant.within, met.1);
      comes = handed_on (language_of c.args.table.now) c.args.place c.args.pair.now (entries_view c.args.entries.now) (entry_view c.in-Some-split_first.entry.now) (entries_view c.in-Some-split_first.others.now) c.args.means.now.left c.loop-entry.means.left (rw c.in-Some-split_first.ensures.cases.0 at c.loop-entry.invariant.comes) c.loop-entry.invariant.within c.entry_meets.new.means.left met;
    }

pub mapping::pair_fate-loop-entry-preserved-then-is_passed_at_once : goal.mapping::pair_fate-loop-entry-preserved-then-is_passed_at_once
mapping::pair_fate-loop-entry-preserved-then-is_passed_at_once t c =
    let l = language_of c.args.table.now in
    let e = entry_view c.in-Some-split_first.entry.now in
    let os = entries_view c.in-Some-split_first.others.now in
    let key = view c.args.pair.now.0 in
    let here = rw c.in-Some-split_first.ensures.cases.0 at c.loop-entry.invariant.comes in
    let passed = one_more_passed l key e (e ∷ os) (e ∷ os) os refl (c.is_passed_at_once.ensures c.if-is_passed_at_once.true) (none_passed l key (e ∷ os)) in
    record {
      within = c.loop-entry.invariant.within;
      comes = handed_past l c.args.place c.args.pair.now (entries_view c.args.entries.now) (e ∷ os) os (c.args.means.now.left - c.loop-entry.means.left) here passed;
    }

pub mapping::pair_fate-returns-in-Some-2 : goal.mapping::pair_fate-returns-in-Some-2
mapping::pair_fate-returns-in-Some-2 t c = met (language_of c.args.table.now) c.args.place c.args.pair.now (entries_view c.args.entries.now) (entry_view c.in-Some-split_first.entry.now) (entries_view c.in-Some-split_first.others.now) c.args.means.now.left c.loop-entry.means.left (rw c.in-Some-split_first.ensures.cases.0 at c.loop-entry.invariant.comes) c.loop-entry.invariant.within (length c.in-Some-split_first.others.now) c.entry_meets.new.means.left c.in-Some-2.fate (sym (as_many_entries c.in-Some-split_first.others.now)) (rw c.in-Some-2.is at c.in_ok-fate.ensures)

pub mapping::pair_fate-returns-in_err-fate : goal.mapping::pair_fate-returns-in_err-fate
mapping::pair_fate-returns-in_err-fate t c =
    let e = err_from_is_err_and c.from_residual.result c.from_residual.ensures.1 in
    rw (e.1 ∙ ap Err e.2) (met_stops (language_of c.args.table.now) c.args.place c.args.pair.now (entries_view c.args.entries.now) (entry_view c.in-Some-split_first.entry.now) (entries_view c.in-Some-split_first.others.now) c.args.means.now.left c.loop-entry.means.left (rw c.in-Some-split_first.ensures.cases.0 at c.loop-entry.invariant.comes) c.loop-entry.invariant.within (length c.in-Some-split_first.others.now) c.entry_meets.new.means.left _ c.in_err-fate.ensures)

pub mapping::pair_fate-returns : goal.mapping::pair_fate-returns
mapping::pair_fate-returns t c =
    let taken = c.args.means.now.left - c.loop-entry.means.left in
    (is_stray (language_of c.args.table.now) c.args.place c.args.pair.now (entries_view c.args.entries.now) taken (rw (none_left _ c.in_default-split_first.ensures.cases) at c.loop-entry.invariant.comes), c.loop-entry.invariant.within)

pub mapping::led_fate-loop-entry-init : goal.mapping::led_fate-loop-entry-init
mapping::led_fate-loop-entry-init t c =
    let l = language_of c.args.table.now in
    let es = entries_view c.args.entries.now in
    let led = begins_led l (view c.args.pair.now.0) es c.args.lead c.first-next.result c.min-at.result refl c.requires (λ owners index many. c.first-next.ensures (entry_buckets_in l.type_at owners) (length owners) index many) (omega (arith, c.min-at.ensures, c.first.ensures)) in
    record {
      within = omega arith;
      led = λ inside. led.0;
      comes = handed_past l c.args.place c.args.pair.now es es (drop c.min-at.result es) (c.args.means.now.left - c.args.means.now.left) (none_tried l c.args.place c.args.pair.now es c.args.means.now.left) led.1;
    }

pub mapping::led_fate-loop-entry-preserved : goal.mapping::led_fate-loop-entry-preserved
mapping::led_fate-loop-entry-preserved t c =
    let l = language_of c.args.table.now in
    let es = entries_view c.args.entries.now in
    let os = entries_view c.in-Some.others.now in
    let e = entry_view c.in-Some.entry.now in
    let at = c.loop-entry.at in
    let first : drop at es ≡ e ∷ os = sym c.entries_from.ensures ∙ ap entries_view c.in-Some.ensures.cases.0 in
    let taken = c.args.means.now.left - c.loop-entry.means.left in
    let here : HandsOn l c.args.place c.args.pair.now es (e ∷ os) taken = subst (λ xs. HandsOn l c.args.place c.args.pair.now es xs taken) first c.loop-entry.invariant.comes in
    let met = rw c.in_default-2.is at c.in_ok-fate.ensures in
    let on = handed_on l c.args.place c.args.pair.now es e os c.args.means.now.left c.loop-entry.means.left here c.loop-entry.invariant.within c.entry_meets.new.means.left met in
    let next : os ≡ drop (at + 1) es = sym (after_first at es e os first) ∙ ap (λ n. drop n es) (let k : suc at ≡ at + 1 = omega arith in k) in
    record {
      within = omega (arith, c.loop-entry.invariant.within, met.1);
      led = λ below. absurd (omega (arith, below, c.if-at-lead.false));
      comes = subst (λ xs. HandsOn l c.args.place c.args.pair.now es xs (c.args.means.now.left - c.entry_meets.new.means.left)) next on;
    }

pub mapping::led_fate-loop-entry-preserved-then-at-lead : goal.mapping::led_fate-loop-entry-preserved-then-at-lead
mapping::led_fate-loop-entry-preserved-then-at-lead t c =
    let l = language_of c.args.table.now in
    let es = entries_view c.args.entries.now in
    let os = entries_view c.in-Some.others.now in
    let e = entry_view c.in-Some.entry.now in
    let at = c.loop-entry.at in
    let first : drop at es ≡ e ∷ os = sym c.entries_from.ensures ∙ ap entries_view c.in-Some.ensures.cases.0 in
    let taken = c.args.means.now.left - c.loop-entry.means.left in
    let here : HandsOn l c.args.place c.args.pair.now es (e ∷ os) taken = subst (λ xs. HandsOn l c.args.place c.args.pair.now es xs taken) first c.loop-entry.invariant.comes in
    let met = rw c.in_default-2.is at c.in_ok-fate.ensures in
    let on = handed_on l c.args.place c.args.pair.now es e os c.args.means.now.left c.loop-entry.means.left here c.loop-entry.invariant.within c.entry_meets.new.means.left met in
    let led = goes_led l (view c.args.pair.now.0) es c.args.lead c.loop-entry.next c.after-next.result at c.min-at-then-at-lead.result refl (c.loop-entry.invariant.led c.if-at-lead.true) c.if-at-lead.true (λ owners from index next below. c.after-next.ensures (entry_buckets_in l.type_at owners) (length owners) (view c.args.pair.now.0) from index next below) (omega (arith, c.min-at-then-at-lead.ensures, c.first-then-at-lead.ensures)) in
    record {
      within = omega (arith, c.loop-entry.invariant.within, met.1);
      led = λ below. led.0;
      comes = handed_past l c.args.place c.args.pair.now es os (drop c.min-at-then-at-lead.result es) (c.args.means.now.left - c.entry_meets.new.means.left) on (subst (λ xs. ArePassed l (view c.args.pair.now.0) xs (drop c.min-at-then-at-lead.result es)) (after_first at es e os first) led.1.0);
    }

pub mapping::led_fate-loop-entry-smaller : goal.mapping::led_fate-loop-entry-smaller
mapping::led_fate-loop-entry-smaller t c =
    let l = language_of c.args.table.now in
    let es = entries_view c.args.entries.now in
    let os = entries_view c.in-Some.others.now in
    let e = entry_view c.in-Some.entry.now in
    let at = c.loop-entry.at in
    let first : drop at es ≡ e ∷ os = sym c.entries_from.ensures ∙ ap entries_view c.in-Some.ensures.cases.0 in
    omega (arith, some_left at es e os first, as_many_entries c.args.entries.now)

pub mapping::led_fate-loop-entry-smaller-then-at-lead : goal.mapping::led_fate-loop-entry-smaller-then-at-lead
mapping::led_fate-loop-entry-smaller-then-at-lead t c =
    let l = language_of c.args.table.now in
    let es = entries_view c.args.entries.now in
    let os = entries_view c.in-Some.others.now in
    let e = entry_view c.in-Some.entry.now in
    let at = c.loop-entry.at in
    let first : drop at es ≡ e ∷ os = sym c.entries_from.ensures ∙ ap entries_view c.in-Some.ensures.cases.0 in
    let led = goes_led l (view c.args.pair.now.0) es c.args.lead c.loop-entry.next c.after-next.result at c.min-at-then-at-lead.result refl (c.loop-entry.invariant.led c.if-at-lead.true) c.if-at-lead.true (λ owners from index next below. c.after-next.ensures (entry_buckets_in l.type_at owners) (length owners) (view c.args.pair.now.0) from index next below) (omega (arith, c.min-at-then-at-lead.ensures, c.first-then-at-lead.ensures)) in
    omega (arith, led.1.1, some_left at es e os first, as_many_entries c.args.entries.now)

pub mapping::led_fate-returns-in-Some-2 : goal.mapping::led_fate-returns-in-Some-2
mapping::led_fate-returns-in-Some-2 t c =
    let l = language_of c.args.table.now in
    let es = entries_view c.args.entries.now in
    let os = entries_view c.in-Some.others.now in
    let e = entry_view c.in-Some.entry.now in
    let at = c.loop-entry.at in
    let first : drop at es ≡ e ∷ os = sym c.entries_from.ensures ∙ ap entries_view c.in-Some.ensures.cases.0 in
    let taken = c.args.means.now.left - c.loop-entry.means.left in
    let here : HandsOn l c.args.place c.args.pair.now es (e ∷ os) taken = subst (λ xs. HandsOn l c.args.place c.args.pair.now es xs taken) first c.loop-entry.invariant.comes in
    met l c.args.place c.args.pair.now es e os c.args.means.now.left c.loop-entry.means.left here c.loop-entry.invariant.within (length c.in-Some.others.now) c.entry_meets.new.means.left c.in-Some-2.fate (sym (as_many_entries c.in-Some.others.now)) (rw c.in-Some-2.is at c.in_ok-fate.ensures)

pub mapping::led_fate-returns-in_err-fate : goal.mapping::led_fate-returns-in_err-fate
mapping::led_fate-returns-in_err-fate t c =
    let l = language_of c.args.table.now in
    let es = entries_view c.args.entries.now in
    let os = entries_view c.in-Some.others.now in
    let e = entry_view c.in-Some.entry.now in
    let at = c.loop-entry.at in
    let first : drop at es ≡ e ∷ os = sym c.entries_from.ensures ∙ ap entries_view c.in-Some.ensures.cases.0 in
    let taken = c.args.means.now.left - c.loop-entry.means.left in
    let here : HandsOn l c.args.place c.args.pair.now es (e ∷ os) taken = subst (λ xs. HandsOn l c.args.place c.args.pair.now es xs taken) first c.loop-entry.invariant.comes in
    let err = err_from_is_err_and c.from_residual.result c.from_residual.ensures.1 in
    rw (err.1 ∙ ap Err err.2) (met_stops l c.args.place c.args.pair.now es e os c.args.means.now.left c.loop-entry.means.left here c.loop-entry.invariant.within (length c.in-Some.others.now) c.entry_meets.new.means.left _ c.in_err-fate.ensures)

pub mapping::led_fate-returns : goal.mapping::led_fate-returns
mapping::led_fate-returns t c =
    let l = language_of c.args.table.now in
    let es = entries_view c.args.entries.now in
    let taken = c.args.means.now.left - c.loop-entry.means.left in
    let none : drop c.loop-entry.at es ≡ [] = sym c.entries_from.ensures ∙ ap entries_view (none_left _ c.in_default.ensures.cases) in
    let here : HandsOn l c.args.place c.args.pair.now es [] taken = subst (λ xs. HandsOn l c.args.place c.args.pair.now es xs taken) none c.loop-entry.invariant.comes in
    (is_stray l c.args.place c.args.pair.now es taken here, c.loop-entry.invariant.within)

pub saying::entry_does-returns-in-Some : goal.saying::entry_does-returns-in-Some
saying::entry_does-returns-in-Some t c = rw (c.in-Some.ensures.cases.0, c.entry_done.ensures) (entry_ends (language_of c.args.table.now) c.args.node c.args.base c.args.place (view c.in-Some.item.now) (values c.in-Some.rest.now) c.args.means.now.left c.type_says_here-said.new.means.left _ c.type_says_here-said.ensures)

pub saying::group_does_here-returns-in-Some : goal.saying::group_does_here-returns-in-Some
saying::group_does_here-returns-in-Some t c =
    let l = language_of c.args.table.now in
    group_on l c.args.base c.args.place (values c.args.items.now) c.args.means.now.left c.in-Some.left c.entry_does.new.means.left _ (λ base q xs. itself l (M.OfGroup c.args.group base q xs)) (rw c.in-Some-Entry.field-0-is at c.in-Some-Entry.ensures.found) (omega (arith, c.in-Some.ensures)) c.entry_does.ensures

pub saying::group_form_does-returns-in-Entry : goal.saying::group_form_does-returns-in-Entry
saying::group_form_does-returns-in-Entry t c = rw c.in-Entry.is c.entry_does.ensures

pub saying::group_form_does-returns-in-Ref : goal.saying::group_form_does-returns-in-Ref
saying::group_form_does-returns-in-Ref t c = rw c.in-Ref.is (passes_on (language_of c.args.table.now) (M.OfGroup c.in-Ref.to c.args.base c.args.place (values c.args.items.now)) c.args.means.now.left c.group_does.new.means.left (done_view c.group_does.result) c.group_does.ensures)

pub saying::parts_do-loop-part-preserved : goal.saying::parts_do-loop-part-preserved
saying::parts_do-loop-part-preserved t c =
    let l = language_of c.args.table.now in
    let here = rw c.in-Some.ensures.cases.0 at c.loop-part.invariant.comes in
    let told = rw c.in-Takes.is at c.in_ok-items.ensures in
    let e : c.max.result ≡ max c.loop-part.left.far c.in-Takes.far = omega (arith, c.max.ensures) in
    record {
      within = omega (arith, c.loop-part.invariant.within, told.1);
      comes = rw e (goes_on l (M.InSequence c.in-Some.others.now c.loop-part.left.base c.loop-part.left.far) c.args.means.now.left c.loop-part.means.left c.group_does_here.new.means.left here c.loop-part.invariant.within told);
    }

pub saying::parts_do-returns-in-Fails : goal.saying::parts_do-returns-in-Fails
saying::parts_do-returns-in-Fails t c =
    let l = language_of c.args.table.now in
    let here = rw c.in-Some.ensures.cases.0 at c.loop-part.invariant.comes in
    let told = rw c.in-Fails.is at c.in_ok-items.ensures in
    let e : c.max-in-Fails.result ≡ max c.loop-part.left.far c.in-Fails.far = omega (arith, c.max-in-Fails.ensures) in
    rw e (goes_on l (M.InSequence c.in-Some.others.now c.loop-part.left.base c.loop-part.left.far) c.args.means.now.left c.loop-part.means.left c.group_does_here.new.means.left here c.loop-part.invariant.within told, omega (arith, c.loop-part.invariant.within, told.1))

pub saying::alternatives_do-returns-in-Takes : goal.saying::alternatives_do-returns-in-Takes
saying::alternatives_do-returns-in-Takes t c =
    let l = language_of c.args.table.now in
    let here = rw c.in-Some.ensures.cases.0 at c.loop-part.invariant.comes in
    let told = rw c.in-Takes.is at c.in_ok-left.ensures in
    let e : c.max.result ≡ max c.loop-part.far c.in-Takes.later = omega (arith, c.max.ensures) in
    rw e (goes_on l (M.InAlternatives c.in-Some.others.now c.args.base c.args.place (values c.args.items.now) c.loop-part.far) c.args.means.now.left c.loop-part.means.left c.group_does.new.means.left here c.loop-part.invariant.within told, omega (arith, c.loop-part.invariant.within, told.1))

pub saying::alternatives_do-loop-part-preserved : goal.saying::alternatives_do-loop-part-preserved
saying::alternatives_do-loop-part-preserved t c =
    let l = language_of c.args.table.now in
    let here = rw c.in-Some.ensures.cases.0 at c.loop-part.invariant.comes in
    let told = rw c.in-Fails.is at c.in_ok-left.ensures in
    let e : c.max-far.result ≡ max c.loop-part.far c.in-Fails.later = omega (arith, c.max-far.ensures) in
    record {
      within = omega (arith, c.loop-part.invariant.within, told.1);
      comes = rw e (goes_on l (M.InAlternatives c.in-Some.others.now c.args.base c.args.place (values c.args.items.now) c.loop-part.far) c.args.means.now.left c.loop-part.means.left c.group_does.new.means.left here c.loop-part.invariant.within told);
    }

pub saying::rounds_do-loop-group-smaller : goal.saying::rounds_do-loop-group-smaller
saying::rounds_do-loop-group-smaller t c = took (language_of c.args.table.now) c.loop-group.means.left c.group_does.new.means.left c.in_ok-reply.ensures

pub saying::rounds_do-loop-group-preserved : goal.saying::rounds_do-loop-group-preserved
saying::rounds_do-loop-group-preserved t c =
    let l = language_of c.args.table.now in
    let r = c.loop-group.rounds in
    let round = a_round l r.least (most_view r.most) r.group r.base r.place (values r.items.now) r.far c.in_ok-reply.ensures.0 (sym c.is_over.ensures ∙ c.loop-group-test.true) c.in-Another-after_round.ensures.next in
    record {
      within = omega (arith, c.loop-group.invariant.within, c.in_ok-reply.ensures.1);
      comes = and_on l c.loop-group.invariant.comes round (omega (arith, c.loop-group.invariant.within, c.in_ok-reply.ensures.1));
    }

pub saying::rounds_do-returns-in-Over : goal.saying::rounds_do-returns-in-Over
saying::rounds_do-returns-in-Over t c = ends_on (language_of c.args.table.now) c.args.means.now.left (c.args.means.now.left - c.rounds_told-asked.result.1) (c.args.means.now.left - c.rounds_told-asked.result.1) (Replied (reply_view c.in-Over.reply)) (rw c.in-Over.is at c.rounds_told-asked.ensures.comes) (omega (arith, c.rounds_told-asked.ensures.within)) (answered (language_of c.args.table.now) (c.args.means.now.left - c.rounds_told-asked.result.1) (reply_view c.in-Over.reply))

pub saying::rounds_do-loop-group-init : goal.saying::rounds_do-loop-group-init
saying::rounds_do-loop-group-init t c = record {
  within = omega arith;
  comes = subst (λ k. ComesTo (language_of c.args.table.now) (rounds_move c.args.rounds) (rounds_move c.in-Another.rounds) k) (omega (arith, c.rounds_told-asked.ensures.within)) (rw c.in-Another.is at c.rounds_told-asked.ensures.comes);
}

pub saying::rounds_do-returns-in_err-reply : goal.saying::rounds_do-returns-in_err-reply
saying::rounds_do-returns-in_err-reply t c =
    let l = language_of c.args.table.now in
    let r = c.loop-group.rounds in
    let e = err_from_is_err_and c.from_residual.result c.from_residual.ensures.1 in
    rw (e.1 ∙ ap Err e.2) (ends_so l c.args.means.now.left c.loop-group.means.left c.group_does.new.means.left (Stopped _) c.loop-group.invariant.comes c.loop-group.invariant.within (round_stops l r.least (most_view r.most) r.group r.base r.place (values r.items.now) r.far _ c.loop-group.means.left c.group_does.new.means.left (sym c.is_over.ensures ∙ c.loop-group-test.true) c.in_err-reply.ensures))

pub saying::rounds_do-returns-in-Over-after_round : goal.saying::rounds_do-returns-in-Over-after_round
saying::rounds_do-returns-in-Over-after_round t c =
    let l = language_of c.args.table.now in
    let r = c.loop-group.rounds in
    let round = a_round l r.least (most_view r.most) r.group r.base r.place (values r.items.now) r.far c.in_ok-reply.ensures.0 (sym c.is_over.ensures ∙ c.loop-group-test.true) c.in-Over-after_round.ensures.next in
    (and_on l c.loop-group.invariant.comes round (omega (arith, c.loop-group.invariant.within, c.in_ok-reply.ensures.1)), omega (arith, c.loop-group.invariant.within, c.in_ok-reply.ensures.1))
