use Rattle.std.proofs.Common.{ap, arith, ◌∙◌, length}
use Rattle.cddl_literal.proofs.OfOperators.Shifts.{whole, rest_end, counted_none, counted_byte}
use Rattle.cddl_literal.proofs.operators.dedent.shifted_len.Goals as goal
use Rattle.cddl_literal.proofs.operators.dedent.shifted_len.Goals.{then-byte-eq32+then-left-gt0, else-byte-eq32, else-byte-eq32-via-then-byte-eq32+else-left-gt0, else-byte-eq32-via-else-byte-eq32}

pub loop-byte-init : goal.loop-byte-init
loop-byte-init c = let e = ap length (whole c.args.spaces c.args.string.now) in record { counted = omega (arith, e); small = omega arith }

pub loop-byte-preserved : goal.loop-byte-preserved
loop-byte-preserved c = elim c.if-byte-eq32.branch [
  | then-byte-eq32+then-left-gt0 w ↦ record { counted = counted_none _ _ _ c.args.string.now c.loop-byte.byte-index _ _ c.args.spaces c.loop-byte.invariant.counted c.loop-byte-test.true w.if-byte-eq32.true w.if-left-gt0.true w.len-is w.left-is; small = omega arith }
  | else-byte-eq32 w ↦ record {
    counted = counted_byte _ _ _ c.args.string.now c.loop-byte.byte-index _ _ c.args.spaces c.loop-byte.invariant.counted c.loop-byte-test.true
        (elim w.else-byte-eq32.branch [ else-byte-eq32-via-then-byte-eq32+else-left-gt0 v ↦ (λ e. omega (arith, v.if-left-gt0.false)) | else-byte-eq32-via-else-byte-eq32 v ↦ (λ e. absurd (v.if-byte-eq32.false e)) ])
        w.len-is (w.left-is ∙ w.spaces_left-left.ensures);
    small = omega arith;
  }
]

pub returns-clause-value : goal.returns-clause-value
returns-clause-value c = let e = ap length (rest_end c.args.string.now c.loop-byte.byte-index c.loop-byte.left c.args.spaces c.loop-byte-test.false) in omega (arith, e)
