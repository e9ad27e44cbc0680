use Rattle.std.proofs.Common.{Some, sym, subst}
use Rattle.cbor_tape.specs.Keys.{IsKnownWith}
use Rattle.cbor_tape.specs.declared.keys.Keys.{Keys}
use Rattle.cbor_tape.specs.declared.keys.Keys.TheVariants as V
use Rattle.cbor_tape.proofs.keys.with_key.Goals as goal

pub returns-in-Some : goal.returns-in-Some
returns-in-Some c =
    subst (λ (k : Keys). IsKnownWith c.args.bytes.now c.args.tape.now c.args.first c.args.last k c.args.at (V.Differ (Some c.in-Some.above))) (sym c.in-Differ.is) c.in-Some.ensures
