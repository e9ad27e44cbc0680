-- A machine that reads one item byte by byte: a tool of proofs, tied to the written forms by its laws.
use Rattle.std.specs.Prelude.{◌≡◌, ℕ, zero, suc, ◌+◌, ◌*◌, ◌/◌, ◌%◌, List, [], ◌∷◌, length, Bool, nat_lt, nat_le, ◌==◌, ◌&&◌, if◌then◌else◌, Option, Some, None, option_and_then}
use Rattle.cbor_data.specs.declared.FaultKind.{FaultKind}
use Rattle.cbor_data.specs.declared.FaultKind.TheVariants.{ReservedInfo, BadIndefinite, BadBreak, BadChunk, BadSimple}

-- what the awaited item is in the innermost open container
pub data Frame : Type 0 where
  rest : ℕ → Frame
  until : Frame
  until_key : Frame  -- a key of an indefinite map, which a break may end
  until_value : Frame  -- a value of an indefinite map

pub data State : Type 0 where
  item : List Frame → State  -- an item's initial byte is awaited
  argument : ℕ → ℕ → ℕ → List Frame → State  -- the major type, how many bytes come after the next one, the argument so far
  body : ℕ → List Frame → State  -- so many bytes of a string come after the next one
  chunk : ℕ → List Frame → State  -- a chunk of this major type is awaited, or the break
  chunk_argument : ℕ → ℕ → ℕ → List Frame → State
  chunk_body : ℕ → ℕ → List Frame → State
  simple : List Frame → State  -- the byte after f8
  done : State

-- the item is whole
abbrev pub give : List Frame → State
give [] = done
give (rest zero ∷ K) = give K
give (rest (suc n) ∷ K) = item (rest n ∷ K)
give (until ∷ K) = item (until ∷ K)
give (until_key ∷ K) = item (until_value ∷ K)
give (until_value ∷ K) = item (until_key ∷ K)

-- so many items are needed
abbrev pub ask : ℕ → List Frame → State
ask zero K = give K
ask (suc n) K = item (rest n ∷ K)

abbrev pub await_content : ℕ → List Frame → State
await_content zero K = give K
await_content (suc n) K = body n K

abbrev pub await_chunk_content : ℕ → ℕ → List Frame → State
await_chunk_content m zero K = chunk m K
await_chunk_content m (suc n) K = chunk_body m n K

abbrev pub twice : ℕ → ℕ
twice zero = zero
twice (suc n) = suc (suc (twice n))

-- what an argument n of this major type asks for
abbrev pub after : ℕ → ℕ → List Frame → State
after zero n K = give K
after (suc zero) n K = give K
after (suc (suc zero)) n K = await_content n K
after (suc (suc (suc zero))) n K = await_content n K
after (suc (suc (suc (suc zero)))) n K = ask n K
after (suc (suc (suc (suc (suc zero))))) n K = ask (twice n) K
after (suc (suc (suc (suc (suc (suc zero)))))) n K = ask 1 K
after (suc (suc (suc (suc (suc (suc (suc m))))))) n K = give K

pub data Info : Type 0 where
  given : ℕ → Info
  more : ℕ → Info  -- one byte and so many
  indefinite : Info
  reserved : Info

abbrev pub info_of : ℕ → Info
info_of i =
    if nat_lt i 24 then given i
    else (if i == 24 then more 0
    else (if i == 25 then more 1
    else (if i == 26 then more 3
    else (if i == 27 then more 7
    else (if i == 31 then indefinite else reserved)))))

abbrev pub break : List Frame → Option State
break (until ∷ K) = Some (give K)
break (until_key ∷ K) = Some (give K)
break _ = None

abbrev pub wide : ℕ → ℕ → List Frame → State
wide (suc (suc (suc (suc (suc (suc (suc m))))))) zero K = simple K
wide (suc (suc (suc (suc (suc (suc (suc m))))))) (suc k) K = body (suc k) K
wide m k K = argument m k 0 K

abbrev pub open_indefinite : ℕ → List Frame → Option State
open_indefinite zero K = None
open_indefinite (suc zero) K = None
open_indefinite (suc (suc zero)) K = Some (chunk 2 K)
open_indefinite (suc (suc (suc zero))) K = Some (chunk 3 K)
open_indefinite (suc (suc (suc (suc zero)))) K = Some (item (until ∷ K))
open_indefinite (suc (suc (suc (suc (suc zero))))) K = Some (item (until_key ∷ K))
open_indefinite (suc (suc (suc (suc (suc (suc zero)))))) K = None
open_indefinite (suc (suc (suc (suc (suc (suc (suc m))))))) K = break K

abbrev pub start : ℕ → Info → List Frame → Option State
start m (given n) K = Some (after m n K)
start m (more k) K = Some (wide m k K)
start m indefinite K = open_indefinite m K
start m reserved K = None

abbrev pub start_chunk : ℕ → Info → List Frame → Option State
start_chunk m (given n) K = Some (await_chunk_content m n K)
start_chunk m (more k) K = Some (chunk_argument m k 0 K)
start_chunk m indefinite K = None
start_chunk m reserved K = None

abbrev pub step : State → ℕ → Option State
step (item K) b = start (b / 32) (info_of (b % 32)) K
step (argument m zero n K) b = Some (after m (n * 256 + b) K)
step (argument m (suc k) n K) b = Some (argument m k (n * 256 + b) K)
step (body zero K) b = Some (give K)
step (body (suc k) K) b = Some (body k K)
step (chunk m K) b = if b == 255 then Some (give K) else (if b / 32 == m then start_chunk m (info_of (b % 32)) K else None)
step (chunk_argument m zero n K) b = Some (await_chunk_content m (n * 256 + b) K)
step (chunk_argument m (suc k) n K) b = Some (chunk_argument m k (n * 256 + b) K)
step (chunk_body m zero K) b = Some (chunk m K)
step (chunk_body m (suc k) K) b = Some (chunk_body m k K)
step (simple K) b = if nat_lt b 32 then None else Some (give K)
step done b = None

abbrev pub steps : State → List ℕ → Option State
steps s [] = Some s
steps s (b ∷ bs) = option_and_then (λ t. steps t bs) (step s b)

abbrev pub IsLive : Option State → Type 0
IsLive None = ⊥
IsLive (Some s) = Unit {0}

-- the kind of fault where the machine refuses a byte
abbrev pub refused_kind : State → ℕ → FaultKind
refused_kind (item K) b = if b % 32 == 31 then (if b / 32 == 7 then BadBreak else BadIndefinite) else ReservedInfo
refused_kind (chunk m K) b = if b / 32 == m then (if b % 32 == 31 then BadChunk else ReservedInfo) else BadChunk
refused_kind _ b = BadSimple

-- the initial byte of an array, a map or a tag
abbrev pub opens_container : ℕ → Bool
opens_container b = nat_lt 3 (b / 32) && nat_lt (b / 32) 7

-- a step that opens no container inside `depth` open ones
abbrev pub step_in : ℕ → State → ℕ → Option State
step_in depth (item K) b = if opens_container b && nat_le depth (length K) then None else step (item K) b
step_in depth s b = step s b

abbrev pub steps_in : ℕ → State → List ℕ → Option State
steps_in depth s [] = Some s
steps_in depth s (b ∷ bs) = option_and_then (λ t. steps_in depth t bs) (step_in depth s b)
