use Rattle.std.proofs.Common.{[], ◌∷◌, ◌++◌, refl, sym, ap, ◌∙◌, arith, append_assoc}
use Rattle.std.proofs.lemmas.List.{append-nil}
use Rattle.cddl_literal.proofs.PrefixedFacts.{coded_le, coded_none, after_blank, after_line, after_comment, after_other, moves, moves_comment, moves_other}
use Rattle.cddl_literal.proofs.prefixed.coded_between.Goals as goal

pub loop-i-init : goal.loop-i-init
loop-i-init c = record {
  in_range = coded_le c.requires.holds.1;
  left = λ d h. (d, h, sym (ap (λ l. l ++ d) c.new-out.ensures.items));
}

pub loop-i-preserved-then-b-eq59 : goal.loop-i-preserved-then-b-eq59
loop-i-preserved-then-b-eq59 c =
    let here = c.comment_stop-i.ensures in
    let left = c.loop-i.invariant.left in
    record {
      in_range = coded_le (moves_comment c.loop-i-test.true (after_comment here.comment here.stops (left c.requires.holds.0 c.requires.holds.1).1));
      left = λ d h. let r = left d h in (r.0, moves_comment c.loop-i-test.true (after_comment here.comment here.stops r.1), r.2);
    }

pub loop-i-preserved-then-is_blank : goal.loop-i-preserved-then-is_blank
loop-i-preserved-then-is_blank c =
    let here = sym c.is_blank.ensures ∙ c.if-is_blank.true in
    record {
      in_range = omega arith;
      left = λ d h. let r = c.loop-i.invariant.left d h in (r.0, moves c.loop-i-test.true (after_blank here r.1), r.2);
    }

pub loop-i-preserved-then-is_cr_lf : goal.loop-i-preserved-then-is_cr_lf
loop-i-preserved-then-is_cr_lf c =
    let here = c.if-is_cr_lf.ensures.yes refl in
    let left = c.loop-i.invariant.left in
    record {
      in_range = coded_le (moves c.loop-i-test.true (after_line here (left c.requires.holds.0 c.requires.holds.1).1));
      left = λ d h. let r = left d h in (r.0, moves c.loop-i-test.true (after_line here r.1), r.2);
    }

pub loop-i-preserved : goal.loop-i-preserved
loop-i-preserved c =
    let stop = sym c.is_blank.ensures ∙ c.if-is_blank.false in
    let line = c.if-is_cr_lf.ensures.no_line refl in
    record {
      in_range = omega arith;
      left = λ d h.
          let r = c.loop-i.invariant.left d h in
          let next = moves_other c.loop-i-test.true (after_other c.if-b-eq59.false stop line r.1) in
          (next.0, next.1, r.2 ∙ ap (λ l. c.loop-i.out.items ++ l) next.2 ∙ sym (append_assoc c.loop-i.out.items (_ ∷ []) next.0) ∙ sym (ap (λ l. l ++ next.0) c.in_ok-push.ensures.items));
    }

pub returns : goal.returns
returns c = λ d h.
    let r = c.loop-i.invariant.left d h in
    let in_range = c.loop-i.invariant.in_range in
    sym (r.2 ∙ ap (λ l. c.loop-i.out.items ++ l) (coded_none r.1 (omega arith)) ∙ append-nil c.loop-i.out.items)
