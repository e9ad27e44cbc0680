-- What the machine's state says of the bytes that it has read.
use Rattle.std.specs.Prelude.{◌≡◌, ℕ, ◌+◌, ◌≤◌, List, [], length, Some}
use Rattle.cbor_data.specs.Value.{AreBytes}
use Rattle.cbor_data.specs.Faults.{Bounds, last_offset}
use Rattle.cbor_data.specs.Machine.Machine.{State, item, steps, steps_in}

-- the machine gets along the bytes b to the state s
pub record Leads (b : List ℕ) (s : State) : Type 0 where
  pub are : AreBytes b
  pub is : steps (item []) b ≡ Some s

-- the bounded machine gets along the bytes b to the state s
pub record LeadsWithin (d : ℕ) (b : List ℕ) (s : State) : Type 0 where
  pub are : AreBytes b
  pub is : steps_in d (item []) b ≡ Some s

-- the bounded machine gets along b to the state s, and b is within the bounds
pub record Reads (l : Bounds) (o : ℕ) (b : List ℕ) (s : State) : Type 0 where
  pub leads : LeadsWithin l.depth b s
  pub short : length b ≤ l.item_bytes
  pub placed : o + length b ≤ last_offset
