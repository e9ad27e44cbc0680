use Rattle.std.proofs.Common.{arith, ap, length}
use Rattle.cbor_data.specs.Preferred.{preferred}
use Rattle.cbor_data.proofs.Lemmas.{preferred_len}
use Rattle.cbor_item.proofs.write.write_item.Goals as goal

pub write_value-requires-clause-room : goal.write_value-requires-clause-room
write_value-requires-clause-room g c =
    let h = c.item.ensures.sound.short in
    omega (arith, preferred_len c.args.sound.now h.spelling h.spells, h.short, ap (λ v. length (preferred v)) c.item.ensures.same)
