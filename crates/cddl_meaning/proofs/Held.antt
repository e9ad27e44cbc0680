-- A byte string holds one item at most.
use Rattle.std.proofs.Common.{◌≡◌, ℕ, List, [], refl, ap}
use Rattle.cbor_data.specs.Value.{Value, array}
use Rattle.cbor_data.proofs.Lemmas.{one_embedded, unique}
use Rattle.cddl_meaning.specs.Forms.{Content}
use Rattle.cddl_meaning.specs.Held.{Holds, item, items}

pub held_once : {c : Content} {b : List ℕ} {y z : Value} → Holds c b y → Holds c b z → z ≡ y
held_once {b = b} (item h) (item k) = (unique b [] b [] k.spells h.spells refl).1
held_once {b = b} (items {xs = xs} h) (items {xs = ys} k) = ap array (one_embedded b ys xs k h)
