use Rattle.std.proofs.Common.{◌+◌, true, false, refl, sym, subst, arith}
use Rattle.std.proofs.lemmas.List.{drop_more, drop_all}
use Rattle.table_nodes.specs.Language.{language_of}
use Rattle.cddl_match.specs.Ahead.{AreTold}
use Rattle.match_tests.specs.Views.{subject_view}
use Rattle.cddl_match.proofs.Ways.{no_member, this_member, not_this_member, told_behind}
use Rattle.cddl_match.proofs.telling.+telling.Goals as goal

pub one_tells-returns-then-says : goal.one_tells-returns-then-says
one_tells-returns-then-says n c =
    let l = language_of c.args.table.now in
    let told = rw c.if-says.true at c.in_ok-says.ensures.0 in
    let here = subst (λ ms. AreTold l ms (subject_view c.args.subject) true c.in_ok-says.more) (sym (drop_more c.args.members.now c.loop-member.member-index (record { number = 0 }) (omega (arith, c.loop-member-test.true)))) (this_member l told) in
    (c.loop-member.invariant.told true c.in_ok-says.more here, omega (arith, c.in_ok-says.ensures.1, c.loop-member.invariant.within))

pub one_tells-loop-member-preserved : goal.one_tells-loop-member-preserved
one_tells-loop-member-preserved n c = record {
  within = omega (arith, c.in_ok-says.ensures.1, c.loop-member.invariant.within);
  told = λ says k rest.
      let l = language_of c.args.table.now in
      let told = rw c.if-says.false at c.in_ok-says.ensures.0 in
      let here = subst (λ ms. AreTold l ms (subject_view c.args.subject) says (c.in_ok-says.more + k)) (sym (drop_more c.args.members.now c.loop-member.member-index (record { number = 0 }) (omega (arith, c.loop-member-test.true)))) (not_this_member l says told rest refl) in
      subst (λ n. AreTold l c.args.members.now (subject_view c.args.subject) says n) (omega arith) (c.loop-member.invariant.told says (c.in_ok-says.more + k) here);
}

pub one_tells-returns : goal.one_tells-returns
one_tells-returns n c =
    let l = language_of c.args.table.now in
    let none = subst (λ ms. AreTold l ms (subject_view c.args.subject) false 0) (sym (drop_all c.loop-member.member-index c.args.members.now (omega (arith, c.loop-member-test.false)))) (no_member l (subject_view c.args.subject)) in
    (subst (λ n. AreTold l c.args.members.now (subject_view c.args.subject) false n) (omega arith) (c.loop-member.invariant.told false 0 none), c.loop-member.invariant.within)

pub type_tells-returns : goal.type_tells-returns
type_tells-returns n c =
    let l = language_of c.args.table.now in
    (told_behind l (subject_view c.args.subject) c.in_ok-says.says c.type_behind-behind.ensures.passed (rw c.in_ok-behind.was at c.type_behind-behind.ensures.form) c.in_ok-says.ensures.0 (omega (arith, c.from-first.ensures)), omega (arith, c.in_ok-says.ensures.1, c.from-first.ensures))
