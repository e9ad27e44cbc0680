-- What an item's deterministic bytes are laid out as, one item after the other, and what that answers.
use Rattle.std.specs.Prelude.{◌≡◌, ℕ, List, [], ◌∷◌, ◌++◌, map, Bool, false, ◌||◌, bytes_eq, Result, Ok, Err}
use Rattle.std.specs.BTreeMap.{BTreeMap}
use Rattle.std.specs.declared.vec.Vec.{Vec}
use Rattle.std.specs.declared.alloc.Global.{Global}
use Rattle.cbor_data.specs.Deterministic.{deterministic, values_ordered, pairs_ordered}
use Rattle.cbor_data.specs.Preferred.{values_preferred, pairs_preferred}
use Rattle.cbor_data.specs.Value.{Value, Values, Pairs}
use Rattle.cbor_item.specs.Walk.{Walks, WalksAmong, WalksAfter}
use Rattle.cbor_item.specs.declared.sound.Unsound.{Unsound}

-- A walk over places that adds these bytes where it does not end early.
abbrev pub LaysBy : (ℕ → Result ℕ Unsound → Type 0) → List ℕ → ℕ → List ℕ → List ℕ → Result ℕ Unsound → Type 0
LaysBy walks part place old new (Ok next) = walks place (Ok next) × (new ≡ old ++ part)
LaysBy walks part place old new (Err e) = walks place (Err e)

abbrev pub Lays : Value → ℕ → List ℕ → List ℕ → Result ℕ Unsound → Type 0
Lays x = LaysBy (Walks x) (deterministic x)

abbrev pub LaysAmong : Values → ℕ → List ℕ → List ℕ → Result ℕ Unsound → Type 0
LaysAmong xs = LaysBy (WalksAmong xs) (values_preferred (values_ordered xs))

abbrev pub LaysPairs : Pairs → ℕ → List ℕ → List ℕ → Result ℕ Unsound → Type 0
LaysPairs ps = LaysBy (WalksAfter [] ps) (pairs_preferred (pairs_ordered ps))

-- the bytes of keys and of their values
abbrev pub seen_entries : List (Vec ℕ Global × Vec ℕ Global) → List (List ℕ × List ℕ)
seen_entries es = map (λ (e : Vec ℕ Global × Vec ℕ Global). ((e.0).items, (e.1).items)) es

abbrev pub seen : BTreeMap (Vec ℕ Global) (Vec ℕ Global) → List (List ℕ × List ℕ)
seen m = seen_entries m.entries

-- one of the keys has these bytes
abbrev pub has_key : List ℕ → List (List ℕ × List ℕ) → Bool
has_key bytes [] = false
has_key bytes (e ∷ es) = bytes_eq bytes e.0 || has_key bytes es

-- each key and then its value
abbrev pub joined : List (List ℕ × List ℕ) → List ℕ
joined [] = []
joined (e ∷ es) = e.0 ++ (e.1 ++ joined es)
