use Rattle.std.proofs.Common.{◌≡◌, ◌∷◌, ap, ◌∙◌}
use Rattle.cbor_data.specs.Value.{Value}
use Rattle.cbor_tape.specs.Keys.{mark, mark_of, IsKeyAt}
use Rattle.cbor_tape.proofs.Marks.{plain_key, spelled_mark}
use Rattle.cbor_tape.proofs.OfPlaces.Lemmas.{uint_marked, nint_marked, bytes_marked, text_marked, simple_marked, half_marked, single_marked, double_marked}
use Rattle.cbor_tape.proofs.places.leaf_at.Goals as goal

pub returns-in-0 : goal.returns-in-0
returns-in-0 c x spelling after s is =
    let key = c.in_ok-key.key in
    let k = plain_key c.args.bytes.now c.args.head c.in_ok-key.field-0-1 (mark_of key) c.in_ok-key.ensures in
    uint_marked x key.argument key.string.now (spelled_mark c.args.bytes.now c.args.head (mark_of key) x spelling after k s is ∙ ap (λ n. n ∷ key.argument ∷ key.string.now) c.in-0.is)

pub returns-in-1 : goal.returns-in-1
returns-in-1 c x spelling after s is =
    let key = c.in_ok-key.key in
    let k = plain_key c.args.bytes.now c.args.head c.in_ok-key.field-0-1 (mark_of key) c.in_ok-key.ensures in
    nint_marked x key.argument key.string.now (spelled_mark c.args.bytes.now c.args.head (mark_of key) x spelling after k s is ∙ ap (λ n. n ∷ key.argument ∷ key.string.now) c.in-1.is)

pub returns-in-2 : goal.returns-in-2
returns-in-2 c x spelling after s is =
    let key = c.in_ok-key.key in
    let k = plain_key c.args.bytes.now c.args.head c.in_ok-key.field-0-1 (mark_of key) c.in_ok-key.ensures in
    bytes_marked x key.argument key.string.now (spelled_mark c.args.bytes.now c.args.head (mark_of key) x spelling after k s is ∙ ap (λ n. n ∷ key.argument ∷ key.string.now) c.in-2.is)

pub returns-in-3 : goal.returns-in-3
returns-in-3 c x spelling after s is =
    let key = c.in_ok-key.key in
    let k = plain_key c.args.bytes.now c.args.head c.in_ok-key.field-0-1 (mark_of key) c.in_ok-key.ensures in
    text_marked x key.argument key.string.now (spelled_mark c.args.bytes.now c.args.head (mark_of key) x spelling after k s is ∙ ap (λ n. n ∷ key.argument ∷ key.string.now) c.in-3.is)

pub returns-in-7 : goal.returns-in-7
returns-in-7 c x spelling after s is =
    let key = c.in_ok-key.key in
    let k = plain_key c.args.bytes.now c.args.head c.in_ok-key.field-0-1 (mark_of key) c.in_ok-key.ensures in
    simple_marked x key.argument key.string.now (spelled_mark c.args.bytes.now c.args.head (mark_of key) x spelling after k s is ∙ ap (λ n. n ∷ key.argument ∷ key.string.now) c.in-7.is)

pub returns-in-8 : goal.returns-in-8
returns-in-8 c x spelling after s is =
    let key = c.in_ok-key.key in
    let k = plain_key c.args.bytes.now c.args.head c.in_ok-key.field-0-1 (mark_of key) c.in_ok-key.ensures in
    half_marked x key.argument key.string.now (spelled_mark c.args.bytes.now c.args.head (mark_of key) x spelling after k s is ∙ ap (λ n. n ∷ key.argument ∷ key.string.now) c.in-8.is)

pub returns-in-9 : goal.returns-in-9
returns-in-9 c x spelling after s is =
    let key = c.in_ok-key.key in
    let k = plain_key c.args.bytes.now c.args.head c.in_ok-key.field-0-1 (mark_of key) c.in_ok-key.ensures in
    single_marked x key.argument key.string.now (spelled_mark c.args.bytes.now c.args.head (mark_of key) x spelling after k s is ∙ ap (λ n. n ∷ key.argument ∷ key.string.now) c.in-9.is)

pub returns-in-10 : goal.returns-in-10
returns-in-10 c x spelling after s is =
    let key = c.in_ok-key.key in
    let k = plain_key c.args.bytes.now c.args.head c.in_ok-key.field-0-1 (mark_of key) c.in_ok-key.ensures in
    double_marked x key.argument key.string.now (spelled_mark c.args.bytes.now c.args.head (mark_of key) x spelling after k s is ∙ ap (λ n. n ∷ key.argument ∷ key.string.now) c.in-10.is)
