use Rattle.std.proofs.Common.{refl, sym, ◌∙◌, arith}
use Rattle.cddl_literal.specs.Strings.{none, plain, escape, line}
use Rattle.cddl_literal.proofs.StringFacts.{left_plain, left_escape, left_line, left_stuck, end_stuck}
use Rattle.cddl_literal.proofs.strings.characters_end.Goals as goal

pub loop-i-preserved-then-is_plain : goal.loop-i-preserved-then-is_plain
loop-i-preserved-then-is_plain c =
    let here = sym c.is_plain.ensures ∙ c.if-is_plain.true in
    record {
      in_source = omega arith;
      passed = λ q h. c.loop-i.invariant.passed q (_, plain here h.1 refl);
      left = λ q h. left_plain here (c.loop-i.invariant.left q h);
    }

pub loop-i-preserved-in-Some : goal.loop-i-preserved-in-Some
loop-i-preserved-in-Some c =
    let here = c.in-Some.ensures.0 in
    record {
      in_source = c.in-Some.ensures.1;
      passed = λ q h. c.loop-i.invariant.passed q (_, escape here h.1 refl);
      left = λ q h. left_escape here (c.loop-i.invariant.left q h);
    }

pub loop-i-preserved : goal.loop-i-preserved
loop-i-preserved c =
    let here = c.if-is_line.ensures.yes refl in
    record {
      in_source = omega (arith, c.if-is_line.ensures.inside refl);
      passed = λ q h. c.loop-i.invariant.passed q (_, line here.0 here.1.0 here.1.1 h.1 refl);
      left = λ q h. left_line here.1 (c.loop-i.invariant.left q h);
    }

pub returns-after-loop-i-clause-furthest : goal.returns-after-loop-i-clause-furthest
returns-after-loop-i-clause-furthest c = record {
  reached = c.loop-i.invariant.passed _ (_, none refl refl);
  furthest = λ q h. left_stuck (end_stuck c.args.quote c.args.source.now _ (omega arith)) (c.loop-i.invariant.left q h);
}

pub returns-else-is_line-clause-furthest : goal.returns-else-is_line-clause-furthest
returns-else-is_line-clause-furthest c = record {
  reached = c.loop-i.invariant.passed _ (_, none refl refl);
  furthest = λ q h. left_stuck (record { plain = sym c.is_plain.ensures ∙ c.if-is_plain.false; escape = c.in_default.ensures; line = c.if-is_line.ensures.no_line refl }) (c.loop-i.invariant.left q h);
}
