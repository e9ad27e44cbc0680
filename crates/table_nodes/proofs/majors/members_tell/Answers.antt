use Rattle.std.proofs.Common.{ℕ, ◌+◌, ◌∙◌, Bool, Option, Some, true, sym, ap, arith}
use Rattle.std.proofs.lemmas.List.{drop_all, drop_more}
use Rattle.table_nodes.specs.Majors.{after, kept, members_show, told_in, told_view}
use Rattle.table_nodes.specs.declared.nodes.TypeId.{TypeId}
use Rattle.table_nodes.proofs.Rowing.{after_none, members_end, members_no, members_none, members_over, members_yes}
use Rattle.table_nodes.proofs.majors.members_tell.Goals as goal

pub loop-member-init : goal.loop-member-init
loop-member-init c = record { within = omega arith; shown = after_none _ }

pub returns-in-Nothing : goal.returns-in-Nothing
returns-in-Nothing c =
    let shown : TypeId → Option (Bool × ℕ) = λ n. told_in c.args.known.now n c.args.major in
    let so = c.loop-member.invariant.shown ∙ ap (λ ns. after c.loop-member.asked (members_show shown ns)) (drop_more c.args.members.now c.loop-member.member-index (record { number = 0 }) (omega (arith, c.loop-member-test.true))) in
    members_none shown _ _ _ _ so (sym c.known_of.ensures ∙ ap told_view c.in-Nothing.is)

pub returns-in-Yes : goal.returns-in-Yes
returns-in-Yes c =
    let shown : TypeId → Option (Bool × ℕ) = λ n. told_in c.args.known.now n c.args.major in
    let so = c.loop-member.invariant.shown ∙ ap (λ ns. after c.loop-member.asked (members_show shown ns)) (drop_more c.args.members.now c.loop-member.member-index (record { number = 0 }) (omega (arith, c.loop-member-test.true))) in
    c.kept.ensures ∙ ap (λ k. kept (Some (true, c.loop-member.asked + k + 1))) c.from.ensures ∙ members_yes shown _ _ _ _ so c.in-Yes.cost (sym c.known_of.ensures ∙ ap told_view c.in-Yes.is)

pub returns-then-asked-gt-MOST_KEPT : goal.returns-then-asked-gt-MOST_KEPT
returns-then-asked-gt-MOST_KEPT c =
    let shown : TypeId → Option (Bool × ℕ) = λ n. told_in c.args.known.now n c.args.major in
    let so = c.loop-member.invariant.shown ∙ ap (λ ns. after c.loop-member.asked (members_show shown ns)) (drop_more c.args.members.now c.loop-member.member-index (record { number = 0 }) (omega (arith, c.loop-member-test.true))) in
    members_over _ _ _ (members_no shown _ _ _ _ so c.in-No.cost (sym c.known_of.ensures ∙ ap told_view c.in-No.is)) (omega (arith, c.from-asked.ensures, c.if-asked-gt-MOST_KEPT.true))

pub loop-member-preserved : goal.loop-member-preserved
loop-member-preserved c =
    let shown : TypeId → Option (Bool × ℕ) = λ n. told_in c.args.known.now n c.args.major in
    let so = c.loop-member.invariant.shown ∙ ap (λ ns. after c.loop-member.asked (members_show shown ns)) (drop_more c.args.members.now c.loop-member.member-index (record { number = 0 }) (omega (arith, c.loop-member-test.true))) in
    record {
      within = omega (arith, c.if-asked-gt-MOST_KEPT.false);
      shown = rw c.from-asked.ensures (members_no shown _ _ _ _ so c.in-No.cost (sym c.known_of.ensures ∙ ap told_view c.in-No.is));
    }

pub returns : goal.returns
returns c =
    let shown : TypeId → Option (Bool × ℕ) = λ n. told_in c.args.known.now n c.args.major in
    let so = c.loop-member.invariant.shown ∙ ap (λ ns. after c.loop-member.asked (members_show shown ns)) (drop_all c.loop-member.member-index c.args.members.now (omega (arith, c.loop-member-test.false))) in
    c.kept-2.ensures ∙ members_end c.loop-member.asked _ so
