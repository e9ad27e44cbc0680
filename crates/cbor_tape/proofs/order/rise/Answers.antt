use Rattle.std.proofs.Common.{◌≡◌, Some, List, refl, slice_index_or, sym, subst, take}
use Rattle.std.proofs.lemmas.List.{take_more, take_all}
use Rattle.cbor_tape.specs.declared.entry.Entry.{Entry}
use Rattle.cbor_tape.specs.Keys.{AreKeys}
use Rattle.cbor_tape.proofs.Rising.{AreRisen, none_risen, one_risen}
use Rattle.cbor_tape.proofs.order.rise.Goals as goal

pub loop-key-init : goal.loop-key-init
loop-key-init c = none_risen c.args.bytes.now

pub loop-key-preserved : goal.loop-key-preserved
loop-key-preserved c =
    let b = c.args.bytes.now in
    let keys = c.args.keys.now in
    let k = c.loop-key.key-index in
    let none : Entry = record { head = 0; next = 0 } in
    let key : Entry = slice_index_or keys k none in
    subst (λ (es : List Entry). AreRisen b es (Some key.head)) (sym (take_more keys k none c.loop-key-test.true))
    (one_risen b (take k keys) c.loop-key.top key c.loop-key.invariant (c.if-not-is_above.ensures refl))

pub returns : goal.returns
returns c = λ _ ms keys.
    let es = c.args.keys.now in
    let all : take c.loop-key.key-index es ≡ es = take_all c.loop-key.key-index es c.loop-key-test.false in
    (c.loop-key.invariant ms (subst (AreKeys c.args.bytes.now ms) (sym all) keys)).0
