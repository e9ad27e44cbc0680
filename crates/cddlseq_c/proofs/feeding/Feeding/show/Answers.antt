use Rattle.std.proofs.Common.{refl, ◌∙◌}
use Rattle.cddlseq_c.specs.Pieces.{none_shown, not_shown}
use Rattle.cddlseq_c.proofs.Showing.{with_room, without}
use Rattle.cddlseq_c.proofs.feeding.Feeding.show.Goals as goal

pub returns-in_default : goal.returns-in_default
returns-in_default c = none_shown c.in_default.ensures.none refl refl

pub returns-then-put : goal.returns-then-put
returns-then-put c =
    with_room c.args.number c.args.self.now c.args.out.now c.put.new.out c.in-Some.shown c.in-Ok.bytes.items c.len.result c.in-Some.ensures.some c.in-Ok.ensures (c.len.ensures ∙ c.in-Ok.bytes.ok.0) c.put.result
    (rw c.as_slice.ensures.value at c.put.ensures) c.if-put.true

pub returns-in-Ok : goal.returns-in-Ok
returns-in-Ok c =
    without c.args.number c.args.self.now c.args.out.now c.put.new.out c.in-Some.shown c.in-Ok.bytes.items c.len.result c.in-Some.ensures.some c.in-Ok.ensures (c.len.ensures ∙ c.in-Ok.bytes.ok.0) c.put.result
    (rw c.as_slice.ensures.value at c.put.ensures) c.if-put.false

pub returns : goal.returns
returns c = not_shown refl refl
