use Rattle.cbor_data.specs.Value.{AreBytes}
use Rattle.std.proofs.Common.{sym, subst, arith}
use Rattle.cbor_read.specs.Steps.{IsToldPast}
use Rattle.cbor_read.proofs.Pieces.{are_bytes}
use Rattle.cbor_read.proofs.Following.{taken_past, past_told}
use Rattle.cbor_read.proofs.follow.kind_past.Goals as goal

pub returns : goal.returns
returns c =
    let l = c.args.limits in
    let byte = c.args.byte.now in
    let w = c.args.work.now in
    let v = c.take.new.self in
    let step = c.in_ok-step.step in
    let all : AreBytes byte = are_bytes byte (λ i. omega (arith, c.type_inv.byte i)) in
    λ o b here k. subst (IsToldPast l o b byte) (sym c.kind_of.ensures)
    (past_told l o b byte w v step k c.requires all (taken_past l o b byte c.depth.result c.args.at step w v c.depth.ensures.value here k c.in_ok-step.ensures))
