use Rattle.std.proofs.Common.{ap, arith, sym, ◌∙◌, ◌++◌}
use Rattle.std.proofs.lemmas.List.{append-nil}
use Rattle.cddl_literal.proofs.OfOperators.Shifts.{whole, rest_end, pushed_none, pushed_byte}
use Rattle.cddl_literal.proofs.operators.dedent.push_shifted.Goals as goal
use Rattle.cddl_literal.proofs.operators.dedent.push_shifted.Goals.{then-byte-eq32+then-left-gt0, else-byte-eq32+in_ok-push, else-byte-eq32-via-then-byte-eq32+else-left-gt0, else-byte-eq32-via-else-byte-eq32}

pub loop-byte-init : goal.loop-byte-init
loop-byte-init c = ap (λ x. c.args.bytes.now.items ++ x) (whole c.args.spaces c.args.string.now)

pub loop-byte-preserved : goal.loop-byte-preserved
loop-byte-preserved c = elim c.if-byte-eq32.branch [
  | then-byte-eq32+then-left-gt0 w ↦ pushed_none _ _ _ c.args.string.now c.loop-byte.byte-index _ _ c.args.spaces c.loop-byte.invariant c.loop-byte-test.true w.if-byte-eq32.true w.if-left-gt0.true (ap (λ v. v.items) w.bytes-is) w.left-is
  | else-byte-eq32+in_ok-push w ↦
      pushed_byte _ _ _ c.args.string.now c.loop-byte.byte-index _ _ c.args.spaces c.loop-byte.invariant c.loop-byte-test.true
      (elim w.else-byte-eq32.branch [ else-byte-eq32-via-then-byte-eq32+else-left-gt0 v ↦ (λ e. omega (arith, v.if-left-gt0.false)) | else-byte-eq32-via-else-byte-eq32 v ↦ (λ e. absurd (v.if-byte-eq32.false e)) ])
      (ap (λ v. v.items) w.bytes-is ∙ w.in_ok-push.ensures.items) (w.left-is ∙ w.spaces_left-left.ensures)
]

pub returns : goal.returns
returns c = sym (append-nil c.loop-byte.bytes.items) ∙ ap (λ x. c.loop-byte.bytes.items ++ x) (sym (rest_end c.args.string.now c.loop-byte.byte-index c.loop-byte.left c.args.spaces c.loop-byte-test.false)) ∙ c.loop-byte.invariant
