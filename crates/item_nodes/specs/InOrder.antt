-- The pairs of maps in the order of their keys, while they are laid out as bytes.
use Rattle.std.specs.Prelude.{ℕ, ◌+◌, List, [], ◌∷◌, map, length, take, drop}
use Rattle.std.specs.Borrow.{Bor}
use Rattle.cbor_data.specs.Deterministic.{deterministic}
use Rattle.cbor_data.specs.Value.{Pairs, no_pairs, pair}
use Rattle.item_nodes.specs.View.{view}
use Rattle.item_nodes.specs.declared.item.Item.{Item}

-- the deterministic bytes of each key and of its value
abbrev pub laid : Pairs → List (List ℕ × List ℕ)
laid no_pairs = []
laid (pair k v ps) = (deterministic k, deterministic v) ∷ laid ps

-- the deterministic bytes of the keys
abbrev pub keys_det : List (Item × Item) → List (List ℕ)
keys_det ps = map (λ p. deterministic (view p.0)) ps

-- so many bytes each key has, and its value
abbrev pub lengths_of : List (List ℕ × List ℕ) → List (ℕ × ℕ)
lengths_of es = map (λ e. (length e.0, length e.1)) es

-- how many all of them have
abbrev pub total : List (ℕ × ℕ) → ℕ
total [] = 0
total (l ∷ ls) = (l.0 + l.1) + total ls

-- the keys and values of these lengths, one after the other in the bytes
abbrev pub cut : List (ℕ × ℕ) → List ℕ → List (List ℕ × List ℕ)
cut [] bytes = []
cut (l ∷ ls) bytes = (take l.0 bytes, take l.1 (drop l.0 bytes)) ∷ cut ls (drop l.1 (drop l.0 bytes))

-- the bytes of keys and of their values, where they are parts of other bytes
abbrev pub seen_slices : List (Bor (List ℕ) × Bor (List ℕ)) → List (List ℕ × List ℕ)
seen_slices es = map (λ (e : Bor (List ℕ) × Bor (List ℕ)). (e.0.now, e.1.now)) es
