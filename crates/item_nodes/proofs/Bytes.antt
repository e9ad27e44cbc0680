-- What each place of a list says of the list.
use Rattle.std.proofs.Common.{ℕ, suc, ◌<◌, List, [], ◌∷◌, get_or}
use Rattle.cbor_data.specs.Value.{AreBytes}

-- each is a byte if each place has one
pub AreBytes-from : (xs : List ℕ) → ((k : ℕ) → get_or xs k 0 < 256) → AreBytes xs
AreBytes-from [] h = tt
AreBytes-from (x ∷ xs) h = (h 0, AreBytes-from xs (λ k. h (suc k)))
