use Rattle.std.proofs.Common.{◌∷◌, [], length, refl, ap, arith}
use Rattle.std.proofs.lemmas.List.{length-append}
use Rattle.table_nodes.proofs.OfKeys.{no_literals, one_literal_more}
use Rattle.table_nodes.proofs.keys.literals_of.Goals as goal

pub loop-number-init : goal.loop-number-init
loop-number-init c = rw c.in_ok-literals.ensures.items (record { many = refl; valued = no_literals c.args.types.now })

pub loop-number-preserved : goal.loop-number-preserved
loop-number-preserved c = record {
  many = omega (arith, ap length c.in_ok-push.ensures.items, length-append c.loop-number.literals.items (c.literal_type.result ∷ []), c.loop-number.invariant.many);
  valued = rw c.in_ok-push.ensures.items (one_literal_more c.args.types.now c.loop-number.literals.items c.literal_type.result (rw c.loop-number.invariant.many c.literal_type.ensures) c.loop-number.invariant.valued);
}
