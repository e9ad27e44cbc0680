use Rattle.std.proofs.Common.{◌≡◌, ◌⊎◌, slice_index, refl, sym, ◌∙◌, ⊎_elim, inl, inr, arith}
use Rattle.cddl_literal.specs.Prefixed.{none, blank, line, comment, other}
use Rattle.cddl_literal.proofs.PrefixedFacts.{left_blank, left_line, left_comment, left_other, left_stop, left_end, is_other_from}
use Rattle.cddl_literal.proofs.prefixed.coded_end.Goals as goal

pub returns-then-not-ends_comment-clause-furthest : goal.returns-then-not-ends_comment-clause-furthest
returns-then-not-ends_comment-clause-furthest c =
    let here = c.comment_stop-stop.ensures in
    record {
      reached = let r = c.loop-i.invariant.passed _ _ (none refl refl) in (c.loop-i.i, r.0, r.1, inr here.comment);
      furthest = λ q h. ⊎_elim (λ le. le) (λ more. absurd (c.if-not-ends_comment.ensures.goes_on refl more.0)) (left_comment here.comment here.stops (c.loop-i.invariant.left q h));
    }

pub loop-i-preserved-then-b-eq59 : goal.loop-i-preserved-then-b-eq59
loop-i-preserved-then-b-eq59 c =
    let here = c.comment_stop-stop.ensures in
    record {
      in_source = here.in_source;
      passed = λ q d r. c.loop-i.invariant.passed q d (comment here.comment (c.if-not-ends_comment.ensures.yes refl) r);
      left = λ q h. ⊎_elim (λ le. inl le) (λ more. inr more.1) (left_comment here.comment here.stops (c.loop-i.invariant.left q h));
    }

pub loop-i-preserved-then-is_blank : goal.loop-i-preserved-then-is_blank
loop-i-preserved-then-is_blank c =
    let here = sym c.is_blank.ensures ∙ c.if-is_blank.true in
    record {
      in_source = omega arith;
      passed = λ q d r. c.loop-i.invariant.passed q d (blank here r);
      left = λ q h. left_blank here (c.loop-i.invariant.left q h);
    }

pub loop-i-preserved-then-is_cr_lf : goal.loop-i-preserved-then-is_cr_lf
loop-i-preserved-then-is_cr_lf c =
    let here = c.if-is_cr_lf.ensures.yes refl in
    record {
      in_source = omega (arith, c.if-is_cr_lf.ensures.inside refl);
      passed = λ q d r. c.loop-i.invariant.passed q d (line here r);
      left = λ q h. left_line here (c.loop-i.invariant.left q h);
    }

pub returns-then-b-eq92-clause-furthest : goal.returns-then-b-eq92-clause-furthest
returns-then-b-eq92-clause-furthest c =
    let here : (slice_index c.args.source.now c.loop-i.i ≡ 39) ⊎ (slice_index c.args.source.now c.loop-i.i ≡ 92) = ⊎_elim (λ e. inl e) (λ e. inr e.1) c.if-b-eq92.either in
    record {
      reached = let r = c.loop-i.invariant.passed _ _ (none refl refl) in (c.loop-i.i, r.0, r.1, inl refl);
      furthest = λ q h. left_stop here (c.loop-i.invariant.left q h);
    }

pub returns-then-b-eq92-clause-closed : goal.returns-then-b-eq92-clause-closed
returns-then-b-eq92-clause-closed c = λ e. c.loop-i.invariant.passed _ _ (none refl refl)

pub loop-i-preserved : goal.loop-i-preserved
loop-i-preserved c =
    let stop = sym c.is_blank.ensures ∙ c.if-is_blank.false in
    let line = c.if-is_cr_lf.ensures.no_line refl in
    record {
      in_source = omega arith;
      passed = λ q d r. c.loop-i.invariant.passed q _ (other (omega arith) (is_other_from _ c.if-b-eq59.false stop c.if-b-eq92.false.0 c.if-b-eq92.false.1) line r refl);
      left = λ q h. left_other c.if-b-eq59.false stop line (c.loop-i.invariant.left q h);
    }

pub returns-clause-furthest : goal.returns-clause-furthest
returns-clause-furthest c =
    record {
      reached = let r = c.loop-i.invariant.passed _ _ (none refl refl) in (c.loop-i.i, r.0, r.1, inl refl);
      furthest = λ q h. left_end (omega arith) (c.loop-i.invariant.left q h);
    }
