use Rattle.std.proofs.Common.{IfSome, arith, subst}
use Rattle.cbor_read.specs.Outcomes.{IsFrontItem}
use Rattle.cbor_read.proofs.Fronts.{front_first}
use Rattle.cbor_read.proofs.embedding.first_item.Goals as goal

pub returns-in-Some : goal.returns-in-Some
returns-in-Some c =
    let b = c.args.bytes.now in
    let first = c.in-Some.first in
    front_first b first.0 first.1 (omega arith) (subst (λ f. IfSome f (λ r. IsFrontItem 256 b r.0 r.1)) c.in-Some.is c.in_ok-first.ensures)
