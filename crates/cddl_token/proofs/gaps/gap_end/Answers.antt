use Rattle.std.proofs.Common.{sym, refl, ◌∙◌, arith}
use Rattle.cddl_token.specs.Tokens.{none, blank, line, comment}
use Rattle.cddl_token.proofs.gaps.gap_end.Goals as goal

pub loop-i-preserved-then-is_blank : goal.loop-i-preserved-then-is_blank
loop-i-preserved-then-is_blank c = record {
  from = omega arith;
  in_source = omega arith;
  passed = λ k rest. c.loop-i.invariant.passed k (blank (sym c.is_blank.ensures ∙ c.if-is_blank.true) rest);
}

pub loop-i-preserved-then-is_cr_lf : goal.loop-i-preserved-then-is_cr_lf
loop-i-preserved-then-is_cr_lf c = record {
  from = omega arith;
  in_source = omega (arith, c.is_cr_lf.ensures.inside c.if-is_cr_lf.true);
  passed = λ k rest. c.loop-i.invariant.passed k (line (c.is_cr_lf.ensures.yes c.if-is_cr_lf.true) rest);
}

pub loop-i-preserved : goal.loop-i-preserved
loop-i-preserved c = record {
  from = omega (arith, c.in-Ok.ensures.0.past);
  in_source = c.in-Ok.ensures.1;
  passed = λ k rest. c.loop-i.invariant.passed k (comment c.in-Ok.ensures.0 rest);
}

pub returns-in-Err : goal.returns-in-Err
returns-in-Err c = (c.loop-i.i, c.loop-i.invariant.passed _ (none refl), omega arith, c.in-Err.ensures)

pub returns-after-loop-i : goal.returns-after-loop-i
returns-after-loop-i c = (c.loop-i.invariant.passed _ (none refl), omega arith, omega arith, λ within. absurd (omega arith))

pub returns-else-b-eq59 : goal.returns-else-b-eq59
returns-else-b-eq59 c = (
  c.loop-i.invariant.passed _ (none refl),
  omega arith,
  omega arith,
  λ within. (
    record {
      blank = sym c.is_blank.ensures ∙ c.if-is_blank.false;
      line = c.is_cr_lf.ensures.no_line c.if-is_cr_lf.false;
      comment = λ k comment. c.if-b-eq59.false comment.begins;
    },
    c.if-b-eq59.false,
  ),
)
