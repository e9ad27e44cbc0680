-- What the steps of a path lead to.
use Rattle.std.specs.Prelude.{◌≡◌, ℕ, zero, suc, List, [], ◌++◌, Option, Some, None, ◌⊎◌}
use Rattle.cbor_data.specs.Value.{Value, array, pairs, tag, Values, no_values, value, Pairs, no_pairs, pair}
use Rattle.cbor_item.specs.Place.Paths.{member_step, key_step, value_step, content_step}

-- the member of an array at an index, if there is one
abbrev pub member_at : Values → ℕ → Option Value
member_at no_values i = None
member_at (value x xs) zero = Some x
member_at (value x xs) (suc i) = member_at xs i

-- one of the pairs has this key and this value
abbrev pub HasPair : Pairs → Value → Value → Type 0
HasPair no_pairs k v = ⊥
HasPair (pair l w ps) k v = ((l ≡ k) × (w ≡ v)) ⊎ HasPair ps k v

-- the steps lead from the first item to the second, which is it or is in it
pub data Leads : Value → List ℕ → Value → Type 0 where
  here : (x : Value) → Leads x [] x
  to_member : (xs : Values) (i : ℕ) (x : Value) (steps : List ℕ) (y : Value) → member_at xs i ≡ Some x → Leads x steps y → Leads (array xs) (member_step i ++ steps) y
  to_key : (ps : Pairs) (k v : Value) (steps : List ℕ) (y : Value) → HasPair ps k v → Leads k steps y → Leads (pairs ps) (key_step k ++ steps) y
  to_value : (ps : Pairs) (k v : Value) (steps : List ℕ) (y : Value) → HasPair ps k v → Leads v steps y → Leads (pairs ps) (value_step k ++ steps) y
  to_content : (n : ℕ) (x : Value) (steps : List ℕ) (y : Value) → Leads x steps y → Leads (tag n x) (content_step ++ steps) y
