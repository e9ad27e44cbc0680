use Rattle.std.proofs.Common.{subst, arith}
use Rattle.cbor_read.specs.Firsts.{IsFirst, IsFirstItem}
use Rattle.cbor_read.proofs.Joined.{none_first, whole_first}
use Rattle.cbor_read.proofs.embedding.embedded_item.Goals as goal

pub returns-in_default : goal.returns-in_default
returns-in_default c = none_first c.args.bytes.now (subst (IsFirst c.args.bytes.now) c.in_default.is c.in_ok-length.ensures)

pub returns-then-length-bytes : goal.returns-then-length-bytes
returns-then-length-bytes c = λ y h.
    let first : IsFirstItem c.args.bytes.now c.in-Some.length c.in-Some.item = subst (IsFirst c.args.bytes.now) c.in-Some.is c.in_ok-length.ensures in
    omega (arith, whole_first c.args.bytes.now c.in-Some.length c.in-Some.item y first h, c.if-length-bytes.true)
