use Rattle.std.proofs.Common.{◌≡◌, ℕ, suc, ◌+◌, ◌-◌, ◌<◌, List, [], ◌∷◌, Some, replicate, set, IfSome, true, false, length, get_or, slice_get, refl, sym, ap, ◌∙◌, subst, arith}
use Rattle.std.proofs.lemmas.Bool.Decides.{nat_tests}
use Rattle.std.proofs.lemmas.List.{get_or-set_other, length-map, length-set}
use Rattle.lists.proofs.Lemmas.{none_left, same_some}
use Rattle.cddl_meaning.specs.Forms as F
use Rattle.cddl_meaning.specs.Forms.{list_of, members_in, pairs_in}
use Rattle.table_nodes.specs.Fronts.{BeginAlike}
use Rattle.table_nodes.specs.Language.{language_of}
use Rattle.table_nodes.specs.Majors.{told_view}
use Rattle.table_nodes.specs.Nodes.{alternatives_view, entries_view, entry_view, group_view, most_view, tag_number_view, test_view, type_view}
use Rattle.tape_match.specs.Says.{BeginSame, FormSays, GroupTakes, IsMeant, MapComes, PairsCome, RoundsCome}
use Rattle.tape_match.specs.Told.{AreSortedAt, IsPairTold, IsPairToldAt, IsFormTold, IsGroupTold, IsSorting, one_more, one_more_done}
use Rattle.tape_match.proofs.Left.{no_more_met, alike_same, all_left, fewer_same, next_way, some_at, way_view, as_many, done_as, said_as, counted_pair, entry_falls, entry_handed, entry_taken, fewer_left, further_left, item_fails, item_taken, named_done, held_told, named_told, no_item_fails, or_false, or_true, tag_told, told_says, zeros}
use Rattle.tape_match.proofs.Says.{alternatives_fail, alternatives_no, alternatives_start, alternatives_take, array_fails, array_left, array_taken, both_says, choice_no, choice_none, choice_start, choice_yes, entries_start, entry_passed, held_of, holder_no_says, holds_none_says, left_no_says, map_done, map_more, map_start, none_such_says, not_meant, pair_falls, pair_stray, pairs_done, pairs_start, rounds_empty, rounds_end, rounds_fail, rounds_full, rounds_more, rounds_start, sequence_done, sequence_fails, sequence_more, sequence_start}
use Rattle.tape_match.proofs.+asking.Goals.{pairs::pair_met-in-Some, pairs::pair_met-in-None, pairs::ways_tell-in-Yes, pairs::ways_tell-in-No}
use Rattle.tape_match.proofs.+asking.Goals as goal

-- types

pub asking::type_tells-returns-in-Yes-clause-told : goal.asking::type_tells-returns-in-Yes-clause-told
asking::type_tells-returns-in-Yes-clause-told t c x on =
    let l = language_of c.args.on.now.table.now in
    let says = told_says l c.args.node c.in-Some.major true c.in-Yes.asked x (c.told.ensures.says (true, c.in-Yes.asked) (ap told_view c.in-Yes.is)) (c.in-Some.ensures x on) in
    c.within.ensures.told l (l.type_at c.args.node) x (subst (λ k. FormSays l (l.type_at c.args.node) x true k) (sym c.from.ensures) says)

pub asking::type_tells-returns-in-No-clause-told : goal.asking::type_tells-returns-in-No-clause-told
asking::type_tells-returns-in-No-clause-told t c x on =
    let l = language_of c.args.on.now.table.now in
    let says = told_says l c.args.node c.in-Some.major false c.in-No.asked x (c.told.ensures.says (false, c.in-No.asked) (ap told_view c.in-No.is)) (c.in-Some.ensures x on) in
    c.within-in-No.ensures.told l (l.type_at c.args.node) x (subst (λ k. FormSays l (l.type_at c.args.node) x false k) (sym c.from-in-No.ensures) says)

pub asking::form_tells-returns-clause-told : goal.asking::form_tells-returns-clause-told
asking::form_tells-returns-clause-told t c x on =
    let l = language_of c.args.on.now.table.now in
    subst (λ r. IsFormTold l (l.type_at c.args.node) x r) (sym c.more_told.ensures.more) (said_as l (l.type_at c.args.node) (l.type_at c.behind_names-names.result.0) c.behind_names-names.result.1 x c.own_form_tells-told.result c.behind_names-names.ensures.stands (c.own_form_tells-told.ensures.told x on))

pub asking::own_form_tells-returns-in-Plain-clause-told : goal.asking::own_form_tells-returns-in-Plain-clause-told
asking::own_form_tells-returns-in-Plain-clause-told t c x on =
    let l = language_of c.args.on.now.table.now in
    subst (λ f. IsFormTold l f x c.test_tells.result) (sym (c.in-Some.ensures.found ∙ ap type_view c.in-Plain.is)) (c.test_tells.ensures.told l x on)

pub asking::own_form_tells-returns-in-Ref-clause-told : goal.asking::own_form_tells-returns-in-Ref-clause-told
asking::own_form_tells-returns-in-Ref-clause-told t c x on =
    let l = language_of c.args.on.now.table.now in
    subst (λ r. IsFormTold l (l.type_at c.args.node) x r) (sym c.one_more.ensures.more) (subst (λ f. IsFormTold l f x (one_more c.type_tells.result)) (sym (c.in-Some.ensures.found ∙ ap type_view c.in-Ref.is)) (named_told l _ x c.type_tells.result (c.type_tells.ensures.told x on)))

pub asking::choice_tells-loop-member-init : goal.asking::choice_tells-loop-member-init
asking::choice_tells-loop-member-init t c = record {
  some = omega arith;
  within = omega (arith, c.requires);
  comes = λ x on. choice_start (language_of c.args.on.now.table.now) c.args.members.now x;
}

pub asking::choice_tells-returns-in-Yes-clause-told : goal.asking::choice_tells-returns-in-Yes-clause-told
asking::choice_tells-returns-in-Yes-clause-told t c x on =
    choice_yes (language_of c.args.on.now.table.now) c.args.members.now c.in-Some.others.now c.in-Some.member.now x c.loop-member.asked c.in-Yes.more ((rw c.in-Some.ensures.cases.0 at c.loop-member.invariant.comes) x on) (c.in-Yes.ensures.told x on)

pub asking::choice_tells-loop-member-preserved : goal.asking::choice_tells-loop-member-preserved
asking::choice_tells-loop-member-preserved t c = record {
  some = omega (arith, c.loop-member.invariant.some);
  within = omega (arith, c.loop-member.invariant.within, c.in-No.ensures.within);
  comes = λ x on. choice_no (language_of c.args.on.now.table.now) c.args.members.now c.in-Some.others.now c.in-Some.member.now x c.loop-member.asked c.in-No.more ((rw c.in-Some.ensures.cases.0 at c.loop-member.invariant.comes) x on) (c.in-No.ensures.told x on);
}

pub asking::choice_tells-returns-clause-told : goal.asking::choice_tells-returns-clause-told
asking::choice_tells-returns-clause-told t c x on = choice_none (language_of c.args.on.now.table.now) c.args.members.now x c.loop-member.asked ((rw (none_left _ c.in_default.ensures.cases) at c.loop-member.invariant.comes) x on)

pub asking::both_tell-returns-in-Yes-type_tells-clause-told : goal.asking::both_tell-returns-in-Yes-type_tells-clause-told
asking::both_tell-returns-in-Yes-type_tells-clause-told t c x on = both_says (language_of c.args.on.now.table.now) c.args.first c.args.second x true c.in-Yes.asked c.in-Yes-type_tells.more (c.in-Yes.ensures.told x on) (c.in-Yes-type_tells.ensures.told x on)

pub asking::both_tell-returns-in-No-type_tells-clause-told : goal.asking::both_tell-returns-in-No-type_tells-clause-told
asking::both_tell-returns-in-No-type_tells-clause-told t c x on = both_says (language_of c.args.on.now.table.now) c.args.first c.args.second x false c.in-Yes.asked c.in-No-type_tells.more (c.in-Yes.ensures.told x on) (c.in-No-type_tells.ensures.told x on)

pub asking::both_tell-returns-in-No-clause-told : goal.asking::both_tell-returns-in-No-clause-told
asking::both_tell-returns-in-No-clause-told t c x on = left_no_says (language_of c.args.on.now.table.now) c.args.first c.args.second x c.in-No.asked (c.in-No.ensures.told x on)

pub asking::holder_tells-returns-in-Yes-held_tells-clause-told : goal.asking::holder_tells-returns-in-Yes-held_tells-clause-told
asking::holder_tells-returns-in-Yes-held_tells-clause-told t c x on =
    let l = language_of c.args.on.now.table.now in
    let is = (rw c.in-Some-Bytes.field-0-is at c.in-Some-Bytes.ensures) x on in
    held_of l c.args.of c.args.node x c.in-Some-Bytes.bytes.now true c.in-Yes.asked c.in-Yes-held_tells.inner is (c.in-Yes.ensures.told x on) c.in-Yes-held_tells.ensures.told

pub asking::holder_tells-returns-in-No-held_tells-clause-told : goal.asking::holder_tells-returns-in-No-held_tells-clause-told
asking::holder_tells-returns-in-No-held_tells-clause-told t c x on =
    let l = language_of c.args.on.now.table.now in
    let is = (rw c.in-Some-Bytes.field-0-is at c.in-Some-Bytes.ensures) x on in
    held_of l c.args.of c.args.node x c.in-Some-Bytes.bytes.now false c.in-Yes.asked c.in-No-held_tells.inner is (c.in-Yes.ensures.told x on) c.in-No-held_tells.ensures.told

pub asking::holder_tells-returns-then-is_empty-clause-told : goal.asking::holder_tells-returns-then-is_empty-clause-told
asking::holder_tells-returns-then-is_empty-clause-told t c x on =
    let l = language_of c.args.on.now.table.now in
    let is = (rw c.in-Some-Bytes.field-0-is at c.in-Some-Bytes.ensures) x on in
    let none : length c.in-Some-Bytes.bytes.now ≡ 0 = grind (arith, nat_tests, c.is_empty.ensures, c.if-is_empty.true) in
    holds_none_says l c.args.of c.args.node x c.in-Some-Bytes.bytes.now c.in-Yes.asked is none (c.in-Yes.ensures.told x on)

pub asking::holder_tells-returns-in-No-clause-told : goal.asking::holder_tells-returns-in-No-clause-told
asking::holder_tells-returns-in-No-clause-told t c x on = holder_no_says (language_of c.args.on.now.table.now) c.args.of c.args.node x c.in-No.asked (c.in-No.ensures.told x on)

pub asking::held_tells-returns-clause-told : goal.asking::held_tells-returns-clause-told
asking::held_tells-returns-clause-told t c =
    let l = language_of c.args.table.now in
    let whole = c.in-Some.ensures in
    held_told l (l.type_at c.args.node) c.args.bytes.now _ c.in-Some.end whole c.if-end-bytes.true c.type_tells-told.result (c.type_tells-told.ensures.told whole.value (c.new.ensures _ _ whole))

pub asking::such_tells-returns-in-Yes-clause-told : goal.asking::such_tells-returns-in-Yes-clause-told
asking::such_tells-returns-in-Yes-clause-told t c x on = c.test_after.ensures.told (language_of c.args.on.now.table.now) c.args.of x (c.in-Yes.ensures.told x on) on

pub asking::such_tells-returns-in-No-clause-told : goal.asking::such_tells-returns-in-No-clause-told
asking::such_tells-returns-in-No-clause-told t c x on = none_such_says (language_of c.args.on.now.table.now) c.args.of (test_view c.args.test.now) x c.in-No.asked (c.in-No.ensures.told x on)

pub asking::tag_tells-returns-in-Some-true-clause-told : goal.asking::tag_tells-returns-in-Some-true-clause-told
asking::tag_tells-returns-in-Some-true-clause-told t c x on =
    let l = language_of c.args.on.now.table.now in
    let wanted = tag_number_view c.args.wanted in
    let s = (rw c.in-Some-Tag.field-0-is at c.in-Some-Tag.ensures) x on in
    subst (λ r. IsFormTold l (F.TagOf wanted c.args.node) x r) (sym c.one_more.ensures.more) (tag_told l wanted c.args.node c.in-Some-Tag.number x s.0 c.type_tells.result s.1 (subst (λ b. IsMeant wanted c.in-Some-Tag.number b) c.in-Some-true.field-0-test c.in-Some-true.ensures) (c.type_tells.ensures.told s.0 s.2))

pub asking::tag_tells-returns-in-Some-false-clause-told : goal.asking::tag_tells-returns-in-Some-false-clause-told
asking::tag_tells-returns-in-Some-false-clause-told t c x on =
    let l = language_of c.args.on.now.table.now in
    let wanted = tag_number_view c.args.wanted in
    let s = (rw c.in-Some-Tag.field-0-is at c.in-Some-Tag.ensures) x on in
    subst (λ y. FormSays l (F.TagOf wanted c.args.node) y false 1) (sym s.1) (not_meant l wanted c.args.node c.in-Some-Tag.number s.0 (subst (λ b. IsMeant wanted c.in-Some-Tag.number b) c.in-Some-false.field-0-test c.in-Some-false.ensures))

-- arrays and groups

pub asking::array_tells-returns-in-None-clause-told : goal.asking::array_tells-returns-in-None-clause-told
asking::array_tells-returns-in-None-clause-told t c x on =
    let l = language_of c.args.on.now.table.now in
    let s = (rw c.in-Some-Array.field-0-is at c.in-Some-Array.ensures) x on in
    let k = c.in-Takes.ensures.told s.0 s.2 in
    let none = c.in-None.ensures k.0 k.1.there in
    array_taken l c.args.group x (list_of s.0) c.in-Takes.asked (ap members_in s.1) (subst (λ ys. GroupTakes l (l.group_at c.args.group) (list_of s.0) ys c.in-Takes.asked) (ap list_of none) k.2)

pub asking::array_tells-returns-in-Some-clause-told : goal.asking::array_tells-returns-in-Some-clause-told
asking::array_tells-returns-in-Some-clause-told t c x on =
    let l = language_of c.args.on.now.table.now in
    let s = (rw c.in-Some-Array.field-0-is at c.in-Some-Array.ensures) x on in
    let k = c.in-Takes.ensures.told s.0 s.2 in
    let f = c.in-Some.ensures k.0 k.1.there in
    array_left l c.args.group x f.first (list_of s.0) (list_of f.others) c.in-Takes.asked (ap members_in s.1) (subst (λ ys. GroupTakes l (l.group_at c.args.group) (list_of s.0) ys c.in-Takes.asked) (ap list_of f.split) k.2)

pub asking::array_tells-returns-in-Fails-clause-told : goal.asking::array_tells-returns-in-Fails-clause-told
asking::array_tells-returns-in-Fails-clause-told t c x on =
    let s = (rw c.in-Some-Array.field-0-is at c.in-Some-Array.ensures) x on in
    array_fails (language_of c.args.on.now.table.now) c.args.group x (list_of s.0) c.in-Fails.asked (ap members_in s.1) (c.in-Fails.ensures.told s.0 s.2)

pub asking::group_does-returns-clause-told : goal.asking::group_does-returns-clause-told
asking::group_does-returns-clause-told t c xs on =
    let l = language_of c.args.on.now.table.now in
    subst (λ r. IsGroupTold l (l.group_at c.args.group) c.args.on.now.taped c.args.place c.args.end xs r) (sym c.more_done.ensures.more) (done_as l (l.group_at c.args.group) (l.group_at c.behind_group_names-names.result.0) c.behind_group_names-names.result.1 c.args.on.now.taped c.args.place c.args.end xs c.own_group_does-done.result c.behind_group_names-names.ensures.stands (c.own_group_does-done.ensures.told xs on))

pub asking::named_does-returns-clause-told : goal.asking::named_does-returns-clause-told
asking::named_does-returns-clause-told t c f stands xs on =
    let l = language_of c.args.on.now.table.now in
    subst (λ r. IsGroupTold l f c.args.on.now.taped c.args.place c.args.end xs r) (sym c.more_done.ensures.more) (done_as l f (l.group_at c.args.named) c.args.names c.args.on.now.taped c.args.place c.args.end xs c.part_does-done.result stands (c.part_does-done.ensures.told xs on))

pub asking::own_group_does-returns-in-Ref-clause-told : goal.asking::own_group_does-returns-in-Ref-clause-told
asking::own_group_does-returns-in-Ref-clause-told t c xs on =
    let l = language_of c.args.on.now.table.now in
    subst (λ r. IsGroupTold l (l.group_at c.args.group) c.args.on.now.taped c.args.place c.args.end xs r) (sym c.one_more_done.ensures.more)
    (subst (λ f. IsGroupTold l f c.args.on.now.taped c.args.place c.args.end xs (one_more_done c.group_does.result)) (sym (c.in-Some.ensures.found ∙ ap group_view c.in-Ref.is)) (named_done l _ c.args.on.now.taped c.args.place c.args.end xs c.group_does.result (c.group_does.ensures.told xs on)))

pub asking::entry_does-returns-in_default-clause-told : goal.asking::entry_does-returns-in_default-clause-told
asking::entry_does-returns-in_default-clause-told t c xs on = no_item_fails (language_of c.args.on.now.table.now) c.args.node xs (c.in_default.ensures xs on)

pub asking::entry_does-returns-in-Yes-clause-told : goal.asking::entry_does-returns-in-Yes-clause-told
asking::entry_does-returns-in-Yes-clause-told t c xs on =
    let f = c.in-Some.ensures xs on in
    item_taken (language_of c.args.on.now.table.now) c.args.node c.args.on.now.taped c.args.place c.args.end c.in-Some.next c.in-Yes.asked xs f (c.in-Yes.ensures.told f.first f.here)

pub asking::entry_does-returns-in-No-clause-told : goal.asking::entry_does-returns-in-No-clause-told
asking::entry_does-returns-in-No-clause-told t c xs on =
    let f = c.in-Some.ensures xs on in
    item_fails (language_of c.args.on.now.table.now) c.args.node c.args.on.now.taped c.args.place c.args.end c.in-Some.next c.in-No.asked xs f (c.in-No.ensures.told f.first f.here)

pub asking::sequence_does-loop-part-init : goal.asking::sequence_does-loop-part-init
asking::sequence_does-loop-part-init t c = record {
  some = omega arith;
  within = omega (arith, c.requires);
  comes = λ xs on. (xs, all_left c.args.on.now.taped c.args.place c.args.end xs on, sequence_start (language_of c.args.on.now.table.now) c.args.parts.now (list_of xs));
}

pub asking::sequence_does-loop-part-preserved : goal.asking::sequence_does-loop-part-preserved
asking::sequence_does-loop-part-preserved t c = record {
  some = omega (arith, c.loop-part.invariant.some);
  within = omega (arith, c.loop-part.invariant.within, c.in-Takes.ensures.within);
  comes = λ xs on.
      let a = (rw c.in-Some.ensures.cases.0 at c.loop-part.invariant.comes) xs on in
      let k = c.in-Takes.ensures.told a.0 a.1.there in (
        k.0,
        further_left c.args.on.now.taped c.args.place c.args.end c.loop-part.at c.in-Takes.next xs a.0 k.0 a.1 k.1,
        sequence_more (language_of c.args.on.now.table.now) c.args.parts.now c.in-Some.others.now c.in-Some.part.now (list_of xs) (list_of a.0) (list_of k.0) c.loop-part.asked c.in-Takes.more a.2 k.2,
      );
}

pub asking::sequence_does-returns-in-Fails-clause-told : goal.asking::sequence_does-returns-in-Fails-clause-told
asking::sequence_does-returns-in-Fails-clause-told t c xs on =
    let a = (rw c.in-Some.ensures.cases.0 at c.loop-part.invariant.comes) xs on in
    sequence_fails (language_of c.args.on.now.table.now) c.args.parts.now c.in-Some.others.now c.in-Some.part.now (list_of xs) (list_of a.0) c.loop-part.asked c.in-Fails.more a.2 (c.in-Fails.ensures.told a.0 a.1.there)

pub asking::sequence_does-returns-clause-told : goal.asking::sequence_does-returns-clause-told
asking::sequence_does-returns-clause-told t c xs on =
    let a = (rw (none_left _ c.in_default.ensures.cases) at c.loop-part.invariant.comes) xs on in
    (a.0, a.1, sequence_done (language_of c.args.on.now.table.now) c.args.parts.now (list_of xs) (list_of a.0) c.loop-part.asked a.2)

pub asking::alternatives_do-loop-part-init : goal.asking::alternatives_do-loop-part-init
asking::alternatives_do-loop-part-init t c = record {
  some = omega arith;
  within = omega (arith, c.requires);
  comes = λ xs on. alternatives_start (language_of c.args.on.now.table.now) c.args.parts.now (list_of xs);
}

pub asking::alternatives_do-returns-in-Takes-clause-told : goal.asking::alternatives_do-returns-in-Takes-clause-told
asking::alternatives_do-returns-in-Takes-clause-told t c xs on =
    let k = c.in-Takes.ensures.told xs on in
    (k.0, k.1, alternatives_take (language_of c.args.on.now.table.now) c.args.parts.now c.in-Some.others.now c.in-Some.part.now (list_of xs) (list_of k.0) c.loop-part.asked c.in-Takes.more ((rw c.in-Some.ensures.cases.0 at c.loop-part.invariant.comes) xs on) k.2)

pub asking::alternatives_do-loop-part-preserved : goal.asking::alternatives_do-loop-part-preserved
asking::alternatives_do-loop-part-preserved t c = record {
  some = omega (arith, c.loop-part.invariant.some);
  within = omega (arith, c.loop-part.invariant.within, c.in-Fails.ensures.within);
  comes = λ xs on. alternatives_no (language_of c.args.on.now.table.now) c.args.parts.now c.in-Some.others.now c.in-Some.part.now (list_of xs) c.loop-part.asked c.in-Fails.more ((rw c.in-Some.ensures.cases.0 at c.loop-part.invariant.comes) xs on) (c.in-Fails.ensures.told xs on);
}

pub asking::alternatives_do-returns-clause-told : goal.asking::alternatives_do-returns-clause-told
asking::alternatives_do-returns-clause-told t c xs on = alternatives_fail (language_of c.args.on.now.table.now) c.args.parts.now (list_of xs) c.loop-part.asked ((rw (none_left _ c.in_default.ensures.cases) at c.loop-part.invariant.comes) xs on)

pub asking::rounds_do-loop-rest-init : goal.asking::rounds_do-loop-rest-init
asking::rounds_do-loop-rest-init t c = record {
  some = omega arith;
  within = omega (arith, c.requires);
  comes = λ xs on. (xs, all_left c.args.on.now.taped c.args.place c.args.end xs on, rounds_start (language_of c.args.on.now.table.now) c.args.least (most_view c.args.times) c.args.group (list_of xs));
}

pub asking::rounds_do-returns-then-next-at-clause-told : goal.asking::rounds_do-returns-then-next-at-clause-told
asking::rounds_do-returns-then-next-at-clause-told t c xs on =
    let l = language_of c.args.on.now.table.now in
    let a = c.loop-rest.invariant.comes xs on in
    let k = c.in-Takes.ensures.told (l.group_at c.args.group) c.behind_group_names-names.ensures.stands a.0 a.1.there in
    let none = as_many c.args.on.now.taped c.loop-rest.at c.args.end c.in-Takes.next a.0 k.0 k.1 c.if-next-at.true in
    (a.0, a.1, rounds_empty l (F.Repeat c.args.least (most_view c.args.times) c.args.group) c.loop-rest.fewest (most_view c.loop-rest.rest) c.args.group (list_of xs) (list_of a.0) (list_of k.0) c.loop-rest.asked c.in-Takes.more (sym c.is_over.ensures ∙ c.loop-rest-test.true) none a.2 k.2)

pub asking::rounds_do-returns-then-fewest-gt0-clause-told : goal.asking::rounds_do-returns-then-fewest-gt0-clause-told
asking::rounds_do-returns-then-fewest-gt0-clause-told t c xs on =
    let l = language_of c.args.on.now.table.now in
    let a = c.loop-rest.invariant.comes xs on in
    rounds_fail l (F.Repeat c.args.least (most_view c.args.times) c.args.group) c.loop-rest.fewest (most_view c.loop-rest.rest) c.args.group (list_of xs) (list_of a.0) c.loop-rest.asked c.in-Fails.more (λ e. omega (arith, e)) (sym c.is_over.ensures ∙ c.loop-rest-test.true) a.2 (c.in-Fails.ensures.told (l.group_at c.args.group) c.behind_group_names-names.ensures.stands a.0 a.1.there)

pub asking::rounds_do-returns-in-Fails-clause-told : goal.asking::rounds_do-returns-in-Fails-clause-told
asking::rounds_do-returns-in-Fails-clause-told t c xs on =
    let l = language_of c.args.on.now.table.now in
    let a = c.loop-rest.invariant.comes xs on in
    (a.0, a.1, rounds_end l (F.Repeat c.args.least (most_view c.args.times) c.args.group) c.loop-rest.fewest (most_view c.loop-rest.rest) c.args.group (list_of xs) (list_of a.0) c.loop-rest.asked c.in-Fails.more (omega arith) (sym c.is_over.ensures ∙ c.loop-rest-test.true) a.2 (c.in-Fails.ensures.told (l.group_at c.args.group) c.behind_group_names-names.ensures.stands a.0 a.1.there))

pub asking::rounds_do-loop-rest-preserved : goal.asking::rounds_do-loop-rest-preserved
asking::rounds_do-loop-rest-preserved t c = record {
  some = omega (arith, c.loop-rest.invariant.some);
  within = omega (arith, c.loop-rest.invariant.within, c.in-Takes.ensures.within);
  comes = λ xs on.
      let l = language_of c.args.on.now.table.now in
      let f = F.Repeat c.args.least (most_view c.args.times) c.args.group in
      let a = c.loop-rest.invariant.comes xs on in
      let k = c.in-Takes.ensures.told (l.group_at c.args.group) c.behind_group_names-names.ensures.stands a.0 a.1.there in
      let fewer = fewer_left c.args.on.now.taped c.loop-rest.at c.args.end c.in-Takes.next a.0 k.0 k.1 (omega arith) in
      let more = rounds_more l f c.loop-rest.fewest (most_view c.loop-rest.rest) c.args.group (list_of xs) (list_of a.0) (list_of k.0) c.loop-rest.asked c.in-Takes.more (sym c.is_over.ensures ∙ c.loop-rest-test.true) fewer a.2 k.2 in
      let least : c.saturating_sub-fewest.result ≡ c.loop-rest.fewest - 1 = omega (arith, c.saturating_sub-fewest.ensures) in (
        k.0,
        further_left c.args.on.now.taped c.args.place c.args.end c.loop-rest.at c.in-Takes.next xs a.0 k.0 a.1 k.1,
        subst (λ n. RoundsCome l f n (most_view c.one_less-rest.result) c.args.group (list_of xs) (list_of k.0) (c.loop-rest.asked + c.in-Takes.more)) (sym least)
            (subst (λ m. RoundsCome l f (c.loop-rest.fewest - 1) m c.args.group (list_of xs) (list_of k.0) (c.loop-rest.asked + c.in-Takes.more)) (sym c.one_less-rest.ensures) more),
      );
}

pub asking::rounds_do-returns-clause-told : goal.asking::rounds_do-returns-clause-told
asking::rounds_do-returns-clause-told t c xs on =
    let l = language_of c.args.on.now.table.now in
    let a = c.loop-rest.invariant.comes xs on in
    (a.0, a.1, rounds_full l (F.Repeat c.args.least (most_view c.args.times) c.args.group) c.loop-rest.fewest (most_view c.loop-rest.rest) c.args.group (list_of xs) (list_of a.0) c.loop-rest.asked (sym c.is_over.ensures ∙ c.loop-rest-test.false) a.2)

-- maps

pub pairs::map_tells-returns-clause-told : goal.pairs::map_tells-returns-clause-told
pairs::map_tells-returns-clause-told t c x on =
    let s = (rw c.in-Some-Map.field-0-is at c.in-Some-Map.ensures) x on in
    c.ways_tell.ensures.told s.0 s.2 x (ap pairs_in s.1)

pub pairs::map_tells-returns-then-are_long-clause-told : goal.pairs::map_tells-returns-then-are_long-clause-told
pairs::map_tells-returns-then-are_long-clause-told t c x on =
    let s = (rw c.in-Some-Map.field-0-is at c.in-Some-Map.ensures) x on in
    c.long_ways_tell.ensures.told s.0 s.2 x (ap pairs_in s.1)

pub pairs::ways_tell-returns-then-says-clause-told : goal.pairs::ways_tell-returns-then-says-clause-told
pairs::ways_tell-returns-then-says-clause-told t c ps on x is =
    let l = language_of c.args.on.now.table.now in
    let all = alternatives_view c.args.ways.now in
    map_done l all x ps true c.loop-way.asked is (subst (λ b. MapComes l all [] ps b c.loop-way.asked) c.if-says.true ((rw (none_left _ c.in_default.ensures.cases) at c.loop-way.invariant.comes) ps on))

pub pairs::ways_tell-returns-else-says-clause-told : goal.pairs::ways_tell-returns-else-says-clause-told
pairs::ways_tell-returns-else-says-clause-told t c ps on x is =
    let l = language_of c.args.on.now.table.now in
    let all = alternatives_view c.args.ways.now in
    map_done l all x ps false c.loop-way.asked is (subst (λ b. MapComes l all [] ps b c.loop-way.asked) c.if-says.false ((rw (none_left _ c.in_default.ensures.cases) at c.loop-way.invariant.comes) ps on))

pub pairs::each_sorts-loop-held-init : goal.pairs::each_sorts-loop-held-init
pairs::each_sorts-loop-held-init t c = record {
  within = omega arith;
  many = refl;
  reached = omega arith;
  none = λ i h. zeros 16 i;
  met = λ ws next met. met;
  comes = λ ws next met ps on. let none : List ℕ = replicate 16 0 in (ps, on, pairs_start (language_of c.args.on.now.table.now) (entries_view c.args.entries.now) ps none (zeros 16));
}

pub pairs::each_sorts-loop-held-preserved-in-Takes : goal.pairs::each_sorts-loop-held-preserved-in-Takes
pairs::each_sorts-loop-held-preserved-in-Takes t c =
    let l = language_of c.args.on.now.table.now in
    let es = entries_view c.args.entries.now in
    let counts = c.loop-held.counts in
    let after : ℕ = c.in-Takes.after in
    let number : ℕ = length c.args.entries.now - 1 - after in
    let many : length es ≡ length c.args.entries.now = length-map c.args.entries.now entry_view in
    let at : number + suc after ≡ length es = omega (arith, c.in-Takes.ensures.within.1, many) in
    let inside : number < length counts = omega (arith, c.loop-held.invariant.many, c.in-Takes.ensures.within.1, c.requires) in
    let count : c.in-Some-checked_add.count ≡ get_or counts number 0 + 1 = omega (arith, c.in-Some-checked_add.ensures) in
    record {
      within = omega (arith, c.loop-held.invariant.within, c.in-Takes.ensures.within.0);
      many = length-set counts number c.in-Some-checked_add.count ∙ c.loop-held.invariant.many;
      reached = c.further-reach.ensures.most (length c.args.entries.now) c.loop-held.invariant.reached (omega (arith, c.in-Takes.ensures.within.1));
      none = λ i h. get_or-set_other counts number i c.in-Some-checked_add.count 0 (λ e. omega (arith, e, h, c.further-reach.ensures.one)) ∙ c.loop-held.invariant.none i (omega (arith, h, c.further-reach.ensures.least));
      met = λ ws next met. c.in-Takes.ensures.met ws next (c.loop-held.invariant.met ws next met);
      comes = λ ws next met ps on.
          let a = c.loop-held.invariant.comes ws next met ps on in
          let f = c.in-Some.ensures a.0 a.1 in
          let pairs_left = subst (λ qs. PairsCome l es ps qs counts c.loop-held.fallen c.loop-held.asked) f.split a.2 in
          let told = c.in-Takes.ensures.told ws next (c.loop-held.invariant.met ws next met) f.key f.value f.key_here f.value_here in
          let taken = counted_pair l es ps f.others f.key f.value counts after number c.loop-held.asked c.in-Takes.more c.loop-held.fallen at inside pairs_left told in
          (f.others, f.there, subst (λ n. PairsCome l es ps f.others (set counts number n) c.loop-held.fallen (c.loop-held.asked + (1 + c.in-Takes.more))) (sym count) taken);
    }

pub pairs::each_sorts-loop-held-preserved : goal.pairs::each_sorts-loop-held-preserved
pairs::each_sorts-loop-held-preserved t c =
    let l = language_of c.args.on.now.table.now in
    let es = entries_view c.args.entries.now in
    let counts = c.loop-held.counts in
    record {
      within = omega (arith, c.loop-held.invariant.within, c.in-Falls.ensures.within);
      many = c.loop-held.invariant.many;
      reached = c.loop-held.invariant.reached;
      none = c.loop-held.invariant.none;
      met = λ ws next met. c.in-Falls.ensures.met ws next (c.loop-held.invariant.met ws next met);
      comes = λ ws next met ps on.
          let a = c.loop-held.invariant.comes ws next met ps on in
          let f = c.in-Some.ensures a.0 a.1 in
          let pairs_left = subst (λ qs. PairsCome l es ps qs counts c.loop-held.fallen c.loop-held.asked) f.split a.2 in
          let told = c.in-Falls.ensures.told ws next (c.loop-held.invariant.met ws next met) f.key f.value f.key_here f.value_here in
          let fallen = pair_falls l es ps f.others f.key f.value counts c.loop-held.fallen c.loop-held.asked c.in-Falls.more pairs_left told in
          (f.others, f.there, fallen);
    }

pub pairs::each_sorts-returns-clause-sorted : goal.pairs::each_sorts-returns-clause-sorted
pairs::each_sorts-returns-clause-sorted t c = λ ws next met ps on.
    let l = language_of c.args.on.now.table.now in
    let es = entries_view c.args.entries.now in
    let a = c.loop-held.invariant.comes ws next met ps on in
    record {
      within = omega (arith, c.loop-held.invariant.reached, length-map c.args.entries.now entry_view);
      none = c.loop-held.invariant.none;
      lacking = λ e. c.lacking.ensures;
      sorted = pairs_done l es ps c.loop-held.counts c.loop-held.fallen c.loop-held.asked (subst (λ qs. PairsCome l es ps qs c.loop-held.counts c.loop-held.fallen c.loop-held.asked) (c.in_default.ensures a.0 a.1) a.2);
    }

pub pairs::each_sorts-returns-clause-met : goal.pairs::each_sorts-returns-clause-met
pairs::each_sorts-returns-clause-met t c = c.loop-held.invariant.met

pub pairs::pair_meets-loop-entry-init : goal.pairs::pair_meets-loop-entry-init
pairs::pair_meets-loop-entry-init t c = record {
  within = omega arith;
  fewer = omega arith;
  comes = λ k x kon xon. entries_start (language_of c.args.on.now.table.now) (entries_view c.args.entries.now) k x;
}

pub pairs::pair_meets-loop-entry-preserved-in-Other : goal.pairs::pair_meets-loop-entry-preserved-in-Other
pairs::pair_meets-loop-entry-preserved-in-Other t c = record {
  within = c.loop-entry.invariant.within;
  fewer = omega (arith, c.loop-entry.invariant.fewer, ap length c.in-Some-split_first.ensures.cases.0);
  comes = λ k x kon xon.
      let passed = c.in-Other.ensures c.args.on.now.taped k (c.in-Some.ensures k kon) in
      entry_passed (language_of c.args.on.now.table.now) (entries_view c.args.entries.now) (entries_view c.in-Some-split_first.others.now) (entry_view c.in-Some-split_first.entry.now) k x c.loop-entry.asked passed ((rw c.in-Some-split_first.ensures.cases.0 at c.loop-entry.invariant.comes) k x kon xon);
}

pub pairs::pair_meets-loop-entry-preserved : goal.pairs::pair_meets-loop-entry-preserved
pairs::pair_meets-loop-entry-preserved t c = record {
  within = omega (arith, c.loop-entry.invariant.within, c.in-HandsOn.ensures.within);
  fewer = omega (arith, c.loop-entry.invariant.fewer, ap length c.in-Some-split_first.ensures.cases.0);
  comes = λ k x kon xon.
      let asked = (c.in-Asked.ensures c.args.on.now.taped k (c.in-Some.ensures k kon)).0 in
      entry_handed (language_of c.args.on.now.table.now) (entries_view c.args.entries.now) (entries_view c.in-Some-split_first.others.now) (entry_view c.in-Some-split_first.entry.now) k x c.loop-entry.asked c.in-HandsOn.more asked (c.in-HandsOn.ensures.told k x kon xon) ((rw c.in-Some-split_first.ensures.cases.0 at c.loop-entry.invariant.comes) k x kon xon);
}

pub pairs::pair_meets-entry_meets-requires : goal.pairs::pair_meets-entry_meets-requires
pairs::pair_meets-entry_meets-requires t c = (omega arith, λ is k kon. (c.in-Asked.ensures c.args.on.now.taped k (c.in-Some.ensures k kon)).1 is)

pub pairs::pair_meets-returns-clause-told : goal.pairs::pair_meets-returns-clause-told
pairs::pair_meets-returns-clause-told t c k x kon xon = pair_stray (language_of c.args.on.now.table.now) (entries_view c.args.entries.now) k x c.loop-entry.asked ((rw (none_left _ c.in_default-split_first.ensures.cases) at c.loop-entry.invariant.comes) k x kon xon)

pub pairs::pair_meets-returns-in-Falls-clause-told : goal.pairs::pair_meets-returns-in-Falls-clause-told
pairs::pair_meets-returns-in-Falls-clause-told t c k x kon xon =
    let asked = (c.in-Asked.ensures c.args.on.now.taped k (c.in-Some.ensures k kon)).0 in
    let told = c.in-Falls.ensures.told k x kon xon in
    entry_falls (language_of c.args.on.now.table.now) (entries_view c.args.entries.now) (entries_view c.in-Some-split_first.others.now) (entry_view c.in-Some-split_first.entry.now) k x c.loop-entry.asked c.in-Falls.more asked told.0 told.1 ((rw c.in-Some-split_first.ensures.cases.0 at c.loop-entry.invariant.comes) k x kon xon)

pub pairs::pair_meets-returns-in-Takes-clause-told : goal.pairs::pair_meets-returns-in-Takes-clause-told
pairs::pair_meets-returns-in-Takes-clause-told t c k x kon xon =
    let asked = (c.in-Asked.ensures c.args.on.now.taped k (c.in-Some.ensures k kon)).0 in
    let others = c.in-Some-split_first.others.now in
    let many : length others ≡ length (entries_view others) = sym (length-map others entry_view) in
    entry_taken (language_of c.args.on.now.table.now) (entries_view c.args.entries.now) (entries_view others) (entry_view c.in-Some-split_first.entry.now) k x c.loop-entry.asked c.in-Takes.more _ many asked (c.in-Takes.ensures.told k x kon xon) ((rw c.in-Some-split_first.ensures.cases.0 at c.loop-entry.invariant.comes) k x kon xon)

pub pairs::pairs_sort-returns : goal.pairs::pairs_sort-returns
pairs::pairs_sort-returns t c =
    let l = language_of c.args.on.now.table.now in
    let es = entries_view c.args.entries.now in
    let none : BeginSame 0 es es = record { some = omega arith; others = omega arith; same = λ i e f less is at. absurd (omega (arith, less)) } in
    c.each_sorts.ensures.sorted (es ∷ []) (record { before = es; there = refl; here = refl; alike = none }) (no_more_met l (es ∷ []) c.args.on.now.taped)

pub pairs::pair_met-returns-clause-told : goal.pairs::pair_met-returns-clause-told
pairs::pair_met-returns-clause-told t c = λ ws next met.
    let l = language_of c.args.on.now.table.now in
    let es = entries_view c.args.entries.now in
    let many : length es ≡ length c.args.entries.now = length-map c.args.entries.now entry_view in
    let told : IsPairToldAt l es c.args.on.now.taped c.args.key c.args.held c.match-met_before.meets = λ k x kon xon. elim c.match-met_before.branch [
      | pairs::pair_met-in-Some w ↦ subst (λ m. IsPairTold l es k x m) (sym w.meets-is) (w.in-Some.ensures.told l ws c.args.on.now.taped es next many met k x kon xon)
      | pairs::pair_met-in-None w ↦ subst (λ m. IsPairTold l es k x m) (sym w.meets-is) (w.pair_meets-meets.ensures.told k x kon xon)
    ] in
    told

pub pairs::pair_met-returns-clause-met : goal.pairs::pair_met-returns-clause-met
pairs::pair_met-returns-clause-met t c = λ ws next met.
    let l = language_of c.args.on.now.table.now in
    let es = entries_view c.args.entries.now in
    let many : length es ≡ length c.args.entries.now = length-map c.args.entries.now entry_view in
    let told : IsPairToldAt l es c.args.on.now.taped c.args.key c.args.held c.match-met_before.meets = λ k x kon xon. elim c.match-met_before.branch [
      | pairs::pair_met-in-Some w ↦ subst (λ m. IsPairTold l es k x m) (sym w.meets-is) (w.in-Some.ensures.told l ws c.args.on.now.taped es next many met k x kon xon)
      | pairs::pair_met-in-None w ↦ subst (λ m. IsPairTold l es k x m) (sym w.meets-is) (w.pair_meets-meets.ensures.told k x kon xon)
    ] in
    c.keep.ensures l ws c.args.on.now.taped es next.here many told met

pub pairs::way_sorts-returns-then-sorted-front-clause-sorted : goal.pairs::way_sorts-returns-then-sorted-front-clause-sorted
pairs::way_sorts-returns-then-sorted-front-clause-sorted t c = λ before there here alike met h.
    let es = entries_view c.args.entries.now in
    c.sorts_still.ensures (language_of c.args.on.now.table.now) c.args.on.now.taped c.args.place c.args.end before (λ m n. refl) alike (fewer_same c.args.sorted.now.reach c.args.front before es c.if-sorted-front.true (alike_same c.args.front before es alike)) h

pub pairs::way_sorts-returns-then-sorted-same-clause-sorted : goal.pairs::way_sorts-returns-then-sorted-same-clause-sorted
pairs::way_sorts-returns-then-sorted-same-clause-sorted t c = λ before there here alike met h.
    let es = entries_view c.args.entries.now in
    c.sorts_still-then-sorted-same.ensures (language_of c.args.on.now.table.now) c.args.on.now.taped c.args.place c.args.end before (λ m n. refl) alike (fewer_same c.args.sorted.now.reach c.same_as_before-same.result before es c.if-sorted-same.true (c.same_as_before-same.ensures before there alike)) h

pub pairs::way_sorts-returns : goal.pairs::way_sorts-returns
pairs::way_sorts-returns t c = record {
  sorted = λ before there here alike met h. c.long_pairs_sort.ensures.sorted (alternatives_view c.args.ways.now) (record { before = before; there = there; here = here; alike = c.same_as_before-same.ensures before there alike }) met;
  met = λ before there here alike met. c.long_pairs_sort.ensures.met (alternatives_view c.args.ways.now) (record { before = before; there = there; here = here; alike = c.same_as_before-same.ensures before there alike }) met;
}

pub pairs::ways_tell-loop-way-init : goal.pairs::ways_tell-loop-way-init
pairs::ways_tell-loop-way-init t c = record {
  some = omega arith;
  within = omega (arith, c.requires.some);
  at = refl;
  met = c.requires.met;
  sorted = λ before is ps on. subst (λ o. IfSome o (IsSorting (language_of c.args.on.now.table.now) before ps c.not_sorted-sorted.result)) (sym c.not_sorted-sorted.ensures) tt;
  comes = λ ps on. map_start (language_of c.args.on.now.table.now) (alternatives_view c.args.ways.now) ps;
}

pub pairs::ways_tell-loop-way-preserved : goal.pairs::ways_tell-loop-way-preserved
pairs::ways_tell-loop-way-preserved t c =
    let l = language_of c.args.on.now.table.now in
    let all = alternatives_view c.args.ways.now in
    let others = alternatives_view c.in-Some.others.now in
    let es = entries_view c.in-Some.way.now.items in
    let number = c.loop-way.number in
    let next = next_way c.args.ways.now number c.in-Some.way.now c.in-Some.others.now (sym c.in-Some.ensures.cases.0 ∙ c.loop-way.invariant.at) in
    let here = way_view c.args.ways.now number c.in-Some.way.now next.0 in
    let before = some_at all (number - 1) number es here (omega arith) in
    let alike = c.front_for-front.ensures all before.0 es c.requires.form before.1 here in
    let is = c.as_slice-entries.ensures.value in
    let here_too = subst (λ xs. slice_get all number ≡ Some (entries_view xs)) (sym is) here in
    let alike_too = subst (λ xs. BeginAlike c.front_for-front.result before.0 (entries_view xs)) (sym is) alike in
    let sorts = c.way_sorts.ensures.sorted before.0 before.1 here_too alike_too c.loop-way.invariant.met (c.loop-way.invariant.sorted before.0 before.1) in
    record {
      some = elim c.match-way_tells.branch [
        | pairs::ways_tell-in-Yes w ↦ omega (arith, w.asked-is, c.loop-way.invariant.some)
        | pairs::ways_tell-in-No w ↦ omega (arith, w.asked-is, c.loop-way.invariant.some)
      ];
      within = elim c.match-way_tells.branch [
        | pairs::ways_tell-in-Yes w ↦ omega (arith, w.asked-is, c.loop-way.invariant.within, w.in-Yes.ensures.within)
        | pairs::ways_tell-in-No w ↦ omega (arith, w.asked-is, c.loop-way.invariant.within, w.in-No.ensures.within)
      ];
      at = next.1;
      met = c.way_sorts.ensures.met before.0 before.1 here_too alike_too c.loop-way.invariant.met;
      sorted = λ some there.
          let one : number ≡ number + 1 - 1 = omega arith in
          let same : es ≡ some = same_some (sym here ∙ ap (λ (k : ℕ). slice_get all k) one ∙ there) in
          subst (λ xs. AreSortedAt l xs c.args.on.now.taped c.args.place c.args.end c.way_sorts.new.sorted) same (subst (λ xs. AreSortedAt l (entries_view xs) c.args.on.now.taped c.args.place c.args.end c.way_sorts.new.sorted) is sorts);
      comes = λ ps on.
          let so_far = (rw c.in-Some.ensures.cases.0 at c.loop-way.invariant.comes) ps on in
          elim c.match-way_tells.branch [
            | pairs::ways_tell-in-Yes w ↦
                let more = map_more l all others es ps c.loop-way.says true c.loop-way.asked w.in-Yes.more so_far (rw is at (w.in-Yes.ensures.told l ps (sorts ps on))) in
                subst (λ k. MapComes l all others ps c.match-way_tells.says k) (sym w.asked-is) (subst (λ b. MapComes l all others ps b (c.loop-way.asked + w.in-Yes.more)) (or_true c.loop-way.says ∙ sym w.says-is) more)
            | pairs::ways_tell-in-No w ↦
                let more = map_more l all others es ps c.loop-way.says false c.loop-way.asked w.in-No.more so_far (rw is at (w.in-No.ensures.told l ps (sorts ps on))) in
                subst (λ k. MapComes l all others ps c.match-way_tells.says k) (sym w.asked-is) (subst (λ b. MapComes l all others ps b (c.loop-way.asked + w.in-No.more)) (or_false c.loop-way.says ∙ sym w.says-is) more)
          ];
    }
