-- Pairs that are put in order one after the other, the first of them first.
use Rattle.std.proofs.Common.{◌≡◌, ◌≢◌, refl, ap, ◌∙◌}
use Rattle.cbor_data.specs.Deterministic.{put, ordered, pairs_ordered, deterministic}
use Rattle.cbor_data.specs.Value.{Value, Pairs, no_pairs, pair}
use Rattle.cbor_data.proofs.Apart.{IsApartFrom, AreKeysApart}
use Rattle.cbor_data.proofs.ByteOrder.{swap}
use Rattle.cbor_data.proofs.Keeps.{ArePairsWritable, key_part, rest_part}
use Rattle.cbor_data.proofs.ByDeterministic.{same_by_deterministic}
use Rattle.cbor_data.specs.Writable.{IsWritable}

-- these pairs, each in order, put among others
abbrev pub gathered : Pairs → Pairs → Pairs
gathered no_pairs others = others
gathered (pair k v ps) others = gathered ps (put (ordered k) (ordered v) others)

past : (k v : Value) (ps others : Pairs) → IsWritable k → ArePairsWritable ps → IsApartFrom k ps → gathered ps (put (ordered k) (ordered v) others) ≡ put (ordered k) (ordered v) (gathered ps others)
past k v no_pairs others w ws h = refl
past k v (pair l u ps) others w ws h =
    let differ : deterministic l ≢ deterministic k = λ e. h.0 (same_by_deterministic l k (key_part ws) w e) in
    ap (gathered ps) (swap (ordered l) (ordered u) (ordered k) (ordered v) others differ) ∙ past k v ps (put (ordered l) (ordered u) others) w (rest_part ws) h.1

pub gathered_all : (ps : Pairs) → ArePairsWritable ps → AreKeysApart ps → gathered ps no_pairs ≡ pairs_ordered ps
gathered_all no_pairs w h = refl
gathered_all (pair k v ps) w h = past k v ps no_pairs (key_part w) (rest_part w) h.0 ∙ ap (put (ordered k) (ordered v)) (gathered_all ps (rest_part w) h.3)
