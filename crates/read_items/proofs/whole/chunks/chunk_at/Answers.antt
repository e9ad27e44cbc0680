use Rattle.std.proofs.Common.{◌≡◌, ◌+◌, ◌-◌, take, drop, ap, arith}
use Rattle.read_items.proofs.OfWhole.Arguments.{small_part}
use Rattle.read_items.proofs.OfWhole.ToBreak.{chunk_there}
use Rattle.read_items.proofs.whole.chunks.chunk_at.Goals as goal
use Rattle.read_items.proofs.whole.chunks.chunk_at.Goals.{else-major-eq-TEXT-via-then-major-eq-TEXT+else-not-is_utf8, else-major-eq-TEXT-via-else-major-eq-TEXT}

pub returns : goal.returns
returns c =
    let b = c.args.bytes.now in
    let r = c.argument_at-len.result in
    let same : (r.1 + r.0) - r.1 ≡ r.0 = omega arith in
    chunk_there c.args.major b c.args.at r.0 r.1 (r.1 + r.0) _ (small_part b (λ i. omega (arith, c.type_inv.bytes i)) r.1) (c.argument_at-len.ensures (omega arith)) (omega arith) (omega arith) (omega arith) (ap (λ k. take k (drop r.1 b)) same) (
    elim c.else-major-eq-TEXT.branch [
      | else-major-eq-TEXT-via-then-major-eq-TEXT+else-not-is_utf8 w ↦ λ e. w.is_utf8.ensures.0 w.if-not-is_utf8.false
      | else-major-eq-TEXT-via-else-major-eq-TEXT w ↦ λ e. absurd (w.if-major-eq-TEXT.false e)
    ])
