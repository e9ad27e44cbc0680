-- A CBOR sequence (RFC 8742): items one after the other, up to the first that is not accepted.
use Rattle.std.specs.Prelude.{◌≡◌, ◌≢◌, ℕ, ◌+◌, ◌≤◌, List, [], ◌∷◌, ◌++◌, length}
use Rattle.cbor_data.specs.Value.{Value}
use Rattle.cbor_data.specs.Faults.{Bounds, IsItem}

-- an item of a stream, and the offset of its first byte
pub record Found : Type 0 where
  pub offset : ℕ
  pub item : Value

-- From offset o of the stream on, the bytes b are these items, each accepted with its bytes, and then the rest.
pub data Takes (l : Bounds) (accepts : Value → List ℕ → Type 0) : ℕ → List ℕ → List Found → List ℕ → Type 0 where
  none : {o : ℕ} {b : List ℕ} → Takes l accepts o b [] b
  next : {o : ℕ} {b : List ℕ} {found : List Found} {rest : List ℕ} (x : Value) (front back : List ℕ) →
      b ≡ front ++ back → IsItem l o x front → accepts x front → Takes l accepts (o + length front) back found rest →
      Takes l accepts o b (record { offset = o; item = x } ∷ found) rest

-- The longest list of accepted items that the stream begins with, and what is left.
pub record IsRunOf (l : Bounds) (accepts : Value → List ℕ → Type 0) (b : List ℕ) (found : List Found) (rest : List ℕ) : Type 0 where
  pub takes : Takes l accepts 0 b found rest
  pub longest : (others : List Found) (left : List ℕ) → Takes l accepts 0 b others left → length others ≤ length found

-- Why a stream fails: a fault of a kind at an offset or place, an item that does not match, by the place in it where
-- that shows, or that the steps are not enough.
pub data Cause (kind : Type 0) : Type 0 where
  fault : kind → ℕ → Cause kind
  mismatch : ℕ → Cause kind
  spent : Cause kind

-- How a stream ends: the number of its items, and its length; or the number of items before the one that fails, where
-- that one begins, and why it fails.
pub data End (kind : Type 0) : Type 0 where
  clean : ℕ → ℕ → End kind
  failed : ℕ → ℕ → Cause kind → End kind

-- The stream's run is these items, and it ends so. `told` says of a rest at an offset which fault it has, `misses` of an
-- item and its bytes where it does not match, and `overruns` of them that the steps are not enough.
pub data EndsBy (l : Bounds) (accepts : Value → List ℕ → Type 0) {kind : Type 0} (told : ℕ → List ℕ → kind → ℕ → Type 0)
    (misses : Value → List ℕ → ℕ → Type 0) (overruns : Value → List ℕ → Type 0) (b : List ℕ) (found : List Found) : End kind → Type 0 where
  cleanly : IsRunOf l accepts b found [] → EndsBy l accepts told misses overruns b found (clean (length found) (length b))
  at_fault : {o : ℕ} {k : kind} {at : ℕ} (rest : List ℕ) → IsRunOf l accepts b found rest → rest ≢ [] → o + length rest ≡ length b →
      told o rest k at → EndsBy l accepts told misses overruns b found (failed (length found) o (fault k at))
  at_mismatch : {o : ℕ} {place : ℕ} (rest : List ℕ) (x : Value) (front back : List ℕ) → IsRunOf l accepts b found rest → o + length rest ≡ length b →
      rest ≡ front ++ back → IsItem l o x front → misses x front place → EndsBy l accepts told misses overruns b found (failed (length found) o (mismatch place))
  at_spent : {o : ℕ} (rest : List ℕ) (x : Value) (front back : List ℕ) → IsRunOf l accepts b found rest → o + length rest ≡ length b →
      rest ≡ front ++ back → IsItem l o x front → overruns x front → EndsBy l accepts told misses overruns b found (failed (length found) o spent)
