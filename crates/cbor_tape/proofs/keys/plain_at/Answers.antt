use Rattle.std.proofs.Common.{◌≡◌, ◌+◌, ◌-◌, take, drop, refl, ap, arith}
use Rattle.read_items.proofs.OfWhole.Lemmas.{small_part}
use Rattle.cbor_tape.proofs.Marks.{bare_key, integer_key, last_key, string_key}
use Rattle.cbor_tape.proofs.keys.plain_at.Goals as goal

pub returns-then-bytes-at-lt-INTEGERS_BELOW : goal.returns-then-bytes-at-lt-INTEGERS_BELOW
returns-then-bytes-at-lt-INTEGERS_BELOW c =
    let r = c.argument_at-argument.result in
    let key = c.plain.ensures in
    bare_key c.args.bytes.now c.args.at r.1 c.plain.result _ r.0 key.kind key.argument key.string (integer_key c.args.bytes.now c.args.at r.0 r.1 _ (c.argument_at-argument.ensures (omega arith)) refl (omega arith))

pub returns-then-bytes-at-ge-STRINGS_BELOW : goal.returns-then-bytes-at-ge-STRINGS_BELOW
returns-then-bytes-at-ge-STRINGS_BELOW c =
    let r = c.argument_at-argument.result in
    let key = c.plain-then-bytes-at-ge-STRINGS_BELOW.ensures in
    bare_key c.args.bytes.now c.args.at r.1 c.plain-then-bytes-at-ge-STRINGS_BELOW.result c.in_ok-kind.kind r.0 key.kind key.argument key.string (last_key c.args.bytes.now c.args.at r.0 r.1 c.in_ok-kind.kind (c.argument_at-argument.ensures (omega arith)) c.in_ok-kind.ensures)

pub returns : goal.returns
returns c =
    let b = c.args.bytes.now in
    let r = c.argument_at-argument.result in
    let same : (r.1 + r.0) - r.1 ≡ r.0 = omega arith in
    string_key b c.args.at r.0 r.1 _ _ (c.argument_at-argument.ensures (omega arith)) refl (omega arith) (omega arith) (omega arith) (ap (λ k. take k (drop r.1 b)) same) (small_part b (λ i. omega (arith, c.type_inv.bytes i)) r.1 r.0)
