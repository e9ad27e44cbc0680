-- How much is held of an item that is not whole yet.
use Rattle.std.specs.Prelude.{ℕ, zero, suc, ◌+◌, List, [], ◌∷◌, length}
use Rattle.cbor_data.specs.Value.{Value, bytes, text, array, pairs, tag, Values, no_values, value, Pairs, no_pairs, pair}
use Rattle.cbor_data.specs.Machine.Machine as machine
use Rattle.read_building.specs.Building.{Frame, member, until, content, key, worth, until_key, until_worth, State, item, argument, string, bits, chunk, chunk_argument, chunk_string, simple_value, done}

-- the places of a value and the bytes of its strings
abbrev mutual
  pub held_in : Value → ℕ
  held_in (bytes s) = suc (length s)
  held_in (text s) = suc (length s)
  held_in (array xs) = suc (held_in_values xs)
  held_in (pairs ps) = suc (held_in_pairs ps)
  held_in (tag n x) = suc (held_in x)
  held_in _ = 1

  pub held_in_values : Values → ℕ
  held_in_values no_values = 0
  held_in_values (value x xs) = held_in x + held_in_values xs

  pub held_in_pairs : Pairs → ℕ
  held_in_pairs no_pairs = 0
  held_in_pairs (pair k v ps) = held_in k + held_in v + held_in_pairs ps

-- of an open container: its own place and what is before the awaited item
abbrev pub held_in_frame : Frame → ℕ
held_in_frame (member n xs) = suc (held_in_values xs)
held_in_frame (until xs) = suc (held_in_values xs)
held_in_frame (content n) = 1
held_in_frame (key n ps) = suc (held_in_pairs ps)
held_in_frame (worth n ps k) = suc (held_in_pairs ps + held_in k)
held_in_frame (until_key ps) = suc (held_in_pairs ps)
held_in_frame (until_worth ps k) = suc (held_in_pairs ps + held_in k)

abbrev pub held_in_frames : List Frame → ℕ
held_in_frames [] = 0
held_in_frames (f ∷ K) = held_in_frame f + held_in_frames K

-- the string in work counts as a place and its bytes so far
abbrev pub held : State → ℕ
held (item K) = held_in_frames K
held (argument from m k n K) = suc (held_in_frames K)
held (string from m k s K) = suc (length s + held_in_frames K)
held (bits w k n K) = suc (held_in_frames K)
held (chunk m s K) = suc (length s + held_in_frames K)
held (chunk_argument from m k n s K) = suc (length s + held_in_frames K)
held (chunk_string from m k s c K) = suc (length s + length c + held_in_frames K)
held (simple_value K) = suc (held_in_frames K)
held (done x) = held_in x

-- one more where this major type has a container
abbrev pub opened : ℕ → ℕ → ℕ
opened (suc (suc (suc (suc zero)))) n = suc n
opened (suc (suc (suc (suc (suc zero))))) n = suc n
opened (suc (suc (suc (suc (suc (suc zero)))))) n = suc n
opened m n = n

-- how many containers are open, with the one whose head is in work
abbrev pub open_in : State → ℕ
open_in (item K) = length K
open_in (argument from m k n K) = opened m (length K)
open_in (string from m k s K) = length K
open_in (bits w k n K) = length K
open_in (chunk m s K) = length K
open_in (chunk_argument from m k n s K) = length K
open_in (chunk_string from m k s c K) = length K
open_in (simple_value K) = length K
open_in (done x) = 0

-- the same of the form alone
abbrev pub open_form : machine.State → ℕ
open_form (machine.item K) = length K
open_form (machine.argument m k n K) = opened m (length K)
open_form (machine.body k K) = length K
open_form (machine.chunk m K) = length K
open_form (machine.chunk_argument m k n K) = length K
open_form (machine.chunk_body m k K) = length K
open_form (machine.simple K) = length K
open_form machine.done = 0
