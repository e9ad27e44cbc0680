-- A machine that builds one item byte by byte: the one of `cbor_data::machine` that also has the members so far and the string
-- in work. A tool of proofs.
use Rattle.std.specs.Prelude.{ℕ, zero, suc, ◌+◌, ◌*◌, ◌/◌, ◌%◌, List, [], ◌∷◌, ◌++◌, length, nat_lt, nat_le, ◌==◌, ◌&&◌, if◌then◌else◌, Option, Some, None, option_and_then}
use Rattle.cbor_data.specs.declared.Width.{Width}
use Rattle.cbor_data.specs.declared.Width.TheVariants.{W16, W32, W64}
use Rattle.cbor_data.specs.Value.{Value, uint, nint, bytes, text, array, pairs, tag, simple, float, Values, no_values, value, Pairs, no_pairs, pair}
use Rattle.cbor_data.specs.Machine.Machine as machine
use Rattle.cbor_data.specs.Machine.Machine.{Info, given, more, indefinite, reserved, info_of, opens_container, twice}

-- one more at the end
abbrev pub with_value : Values → Value → Values
with_value no_values x = value x no_values
with_value (value y ys) x = value y (with_value ys x)

abbrev pub with_pair : Pairs → Value → Value → Pairs
with_pair no_pairs k v = pair k v no_pairs
with_pair (pair j u ps) k v = pair j u (with_pair ps k v)

-- an open container: what the awaited item is in it, and what is before that item
pub data Frame : Type 0 where
  member : ℕ → Values → Frame  -- a member of an array, with so many after it
  until : Values → Frame  -- a member of an indefinite array
  content : ℕ → Frame  -- a tag's content
  key : ℕ → Pairs → Frame  -- a key of a map, with so many pairs after its own
  worth : ℕ → Pairs → Value → Frame  -- the value of this key
  until_key : Pairs → Frame
  until_worth : Pairs → Value → Frame

pub data State : Type 0 where
  item : List Frame → State
  argument : ℕ → ℕ → ℕ → ℕ → List Frame → State  -- the head's offset, its major type, how many bytes come after the next one, the argument so far
  string : ℕ → ℕ → ℕ → List ℕ → List Frame → State  -- the head's offset, the major type, how many bytes come after the next one, the content so far
  bits : Width → ℕ → ℕ → List Frame → State  -- a float's, with so many bytes after the next one, and those so far
  chunk : ℕ → List ℕ → List Frame → State  -- the major type, and what the chunks so far hold
  chunk_argument : ℕ → ℕ → ℕ → ℕ → List ℕ → List Frame → State
  chunk_string : ℕ → ℕ → ℕ → List ℕ → List ℕ → List Frame → State
  simple_value : List Frame → State
  done : Value → State

-- the string of this major type
abbrev pub string_of : ℕ → List ℕ → Value
string_of (suc (suc (suc m))) s = text s
string_of _ s = bytes s

-- the item x is whole
abbrev pub give : Value → List Frame → State
give x [] = done x
give x (member zero xs ∷ K) = give (array (with_value xs x)) K
give x (member (suc n) xs ∷ K) = item (member n (with_value xs x) ∷ K)
give x (until xs ∷ K) = item (until (with_value xs x) ∷ K)
give x (content n ∷ K) = give (tag n x) K
give x (key n ps ∷ K) = item (worth n ps x ∷ K)
give x (worth zero ps k ∷ K) = give (pairs (with_pair ps k x)) K
give x (worth (suc n) ps k ∷ K) = item (key n (with_pair ps k x) ∷ K)
give x (until_key ps ∷ K) = item (until_worth ps x ∷ K)
give x (until_worth ps k ∷ K) = item (until_key (with_pair ps k x) ∷ K)

-- so many members, or pairs, are awaited
abbrev pub ask : ℕ → Values → List Frame → State
ask zero xs K = give (array xs) K
ask (suc n) xs K = item (member n xs ∷ K)

abbrev pub ask_pairs : ℕ → Pairs → List Frame → State
ask_pairs zero ps K = give (pairs ps) K
ask_pairs (suc n) ps K = item (key n ps ∷ K)

abbrev pub await_string : ℕ → ℕ → ℕ → List Frame → State
await_string from m zero K = give (string_of m []) K
await_string from m (suc n) K = string from m n [] K

abbrev pub await_chunk_string : ℕ → ℕ → ℕ → List ℕ → List Frame → State
await_chunk_string from m zero s K = chunk m s K
await_chunk_string from m (suc n) s K = chunk_string from m n s [] K

-- what an argument n of this major type asks for
abbrev pub after : ℕ → ℕ → ℕ → List Frame → State
after from zero n K = give (uint n) K
after from (suc zero) n K = give (nint n) K
after from (suc (suc zero)) n K = await_string from 2 n K
after from (suc (suc (suc zero))) n K = await_string from 3 n K
after from (suc (suc (suc (suc zero)))) n K = ask n no_values K
after from (suc (suc (suc (suc (suc zero))))) n K = ask_pairs n no_pairs K
after from (suc (suc (suc (suc (suc (suc zero)))))) n K = item (content n ∷ K)
after from (suc (suc (suc (suc (suc (suc (suc m))))))) n K = give (simple n) K

abbrev pub break : List Frame → Option State
break (until xs ∷ K) = Some (give (array xs) K)
break (until_key ps ∷ K) = Some (give (pairs ps) K)
break _ = None

-- the width of a float with one byte and so many
abbrev pub width_of : ℕ → Width
width_of (suc (suc (suc (suc k)))) = W64
width_of (suc (suc k)) = W32
width_of k = W16

abbrev pub wide : ℕ → ℕ → ℕ → List Frame → State
wide from (suc (suc (suc (suc (suc (suc (suc m))))))) zero K = simple_value K
wide from (suc (suc (suc (suc (suc (suc (suc m))))))) (suc k) K = bits (width_of (suc k)) (suc k) 0 K
wide from m k K = argument from m k 0 K

abbrev pub open_indefinite : ℕ → List Frame → Option State
open_indefinite zero K = None
open_indefinite (suc zero) K = None
open_indefinite (suc (suc zero)) K = Some (chunk 2 [] K)
open_indefinite (suc (suc (suc zero))) K = Some (chunk 3 [] K)
open_indefinite (suc (suc (suc (suc zero)))) K = Some (item (until no_values ∷ K))
open_indefinite (suc (suc (suc (suc (suc zero))))) K = Some (item (until_key no_pairs ∷ K))
open_indefinite (suc (suc (suc (suc (suc (suc zero)))))) K = None
open_indefinite (suc (suc (suc (suc (suc (suc (suc m))))))) K = break K

abbrev pub start : ℕ → ℕ → Info → List Frame → Option State
start at m (given n) K = Some (after at m n K)
start at m (more k) K = Some (wide at m k K)
start at m indefinite K = open_indefinite m K
start at m reserved K = None

abbrev pub start_chunk : ℕ → ℕ → Info → List ℕ → List Frame → Option State
start_chunk at m (given n) s K = Some (await_chunk_string at m n s K)
start_chunk at m (more k) s K = Some (chunk_argument at m k 0 s K)
start_chunk at m indefinite s K = None
start_chunk at m reserved s K = None

-- the byte b is at this offset
abbrev pub step : ℕ → State → ℕ → Option State
step at (item K) b = start at (b / 32) (info_of (b % 32)) K
step at (argument from m zero n K) b = Some (after from m (n * 256 + b) K)
step at (argument from m (suc k) n K) b = Some (argument from m k (n * 256 + b) K)
step at (string from m zero s K) b = Some (give (string_of m (s ++ b ∷ [])) K)
step at (string from m (suc k) s K) b = Some (string from m k (s ++ b ∷ []) K)
step at (bits w zero n K) b = Some (give (float w (n * 256 + b)) K)
step at (bits w (suc k) n K) b = Some (bits w k (n * 256 + b) K)
step at (chunk m s K) b = if b == 255 then Some (give (string_of m s) K) else (if b / 32 == m then start_chunk at m (info_of (b % 32)) s K else None)
step at (chunk_argument from m zero n s K) b = Some (await_chunk_string from m (n * 256 + b) s K)
step at (chunk_argument from m (suc k) n s K) b = Some (chunk_argument from m k (n * 256 + b) s K)
step at (chunk_string from m zero s c K) b = Some (chunk m (s ++ (c ++ b ∷ [])) K)
step at (chunk_string from m (suc k) s c K) b = Some (chunk_string from m k s (c ++ b ∷ []) K)
step at (simple_value K) b = if nat_lt b 32 then None else Some (give (simple b) K)
step at (done x) b = None

-- a text chunk: the offset of its head, and its content
pub record Text : Type 0 where
  pub from : ℕ
  pub content : List ℕ

abbrev pub text_ended : ℕ → ℕ → List ℕ → List Text → List Text
text_ended (suc (suc (suc m))) from s T = record { from = from; content = s } ∷ T
text_ended _ from s T = T

-- the text chunk that ends with this byte, if one does, before those in T
abbrev pub ended : State → ℕ → List Text → List Text
ended (string from m zero s K) b T = text_ended m from (s ++ b ∷ []) T
ended (chunk_string from m zero s c K) b T = text_ended m from (c ++ b ∷ []) T
ended _ b T = T

-- The bytes are at this offset and after it. With the state go the text chunks that are not empty, the last one first.
abbrev pub steps : ℕ → List Text → State → List ℕ → Option (List Text × State)
steps at T s [] = Some (T, s)
steps at T s (b ∷ bs) = option_and_then (λ t. steps (suc at) (ended s b T) t bs) (step at s b)

-- with at most `depth` open containers
abbrev pub step_in : ℕ → ℕ → State → ℕ → Option State
step_in depth at (item K) b = if opens_container b && nat_le depth (length K) then None else step at (item K) b
step_in depth at s b = step at s b

abbrev pub steps_in : ℕ → ℕ → List Text → State → List ℕ → Option (List Text × State)
steps_in depth at T s [] = Some (T, s)
steps_in depth at T s (b ∷ bs) = option_and_then (λ t. steps_in depth (suc at) (ended s b T) t bs) (step_in depth at s b)

-- the machine of forms alone
abbrev pub frame_of : Frame → machine.Frame
frame_of (member n xs) = machine.rest n
frame_of (until xs) = machine.until
frame_of (content n) = machine.rest 0
frame_of (key n ps) = machine.rest (suc (twice n))
frame_of (worth n ps k) = machine.rest (twice n)
frame_of (until_key ps) = machine.until_key
frame_of (until_worth ps k) = machine.until_value

abbrev pub frames_of : List Frame → List machine.Frame
frames_of [] = []
frames_of (f ∷ K) = frame_of f ∷ frames_of K

abbrev pub form_of : State → machine.State
form_of (item K) = machine.item (frames_of K)
form_of (argument from m k n K) = machine.argument m k n (frames_of K)
form_of (string from m k s K) = machine.body k (frames_of K)
form_of (bits w k n K) = machine.body k (frames_of K)
form_of (chunk m s K) = machine.chunk m (frames_of K)
form_of (chunk_argument from m k n s K) = machine.chunk_argument m k n (frames_of K)
form_of (chunk_string from m k s c K) = machine.chunk_body m k (frames_of K)
form_of (simple_value K) = machine.simple (frames_of K)
form_of (done x) = machine.done

abbrev pub form_next : Option State → Option machine.State
form_next None = None
form_next (Some s) = Some (form_of s)

abbrev pub form_reached : Option (List Text × State) → Option machine.State
form_reached None = None
form_reached (Some r) = Some (form_of r.1)
