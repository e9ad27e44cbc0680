-- What the machine does over the bytes of one turn.
use Rattle.std.proofs.Common.{◌≡◌, ◌≢◌, ℕ, zero, suc, ◌+◌, ◌-◌, ◌<◌, ◌≤◌, List, [], ◌∷◌, length, take, drop, get_or, Option, Some, option_and_then, refl, ap, ◌∙◌, arith}
use Rattle.std.proofs.Math.Seq.{take-add}
use Rattle.cbor_data.specs.Machine.Machine.{State, Frame, body, chunk, chunk_body, give, step_in, steps_in}
use Rattle.cbor_data.proofs.OfMachine.Lemmas.{steps_in-append}
use Rattle.read_items.specs.Form.Stages.{state_of, IsAwaiting}
use Rattle.read_items.specs.Form.Turns.{IsOn}
use Rattle.read_items.specs.declared.form.stage.Stage.{Stage}
use Rattle.read_items.specs.declared.form.stage.Stage.TheVariants.{Item, Argument, Body, Chunk, ChunkArgument, ChunkBody, Simple, Done}

-- one byte
pub on_one : (d : ℕ) (s : State) (bytes : List ℕ) (next : Stage) (K : List Frame) → 0 < length bytes → step_in d s (get_or bytes 0 0) ≡ Some (state_of next K) → IsOn d s bytes 1 next K
on_one d s [] next K some e = absurd (omega arith)
on_one d s (b ∷ bytes) next K some e = record {
  some = omega arith;
  within = omega arith;
  leads = ap (option_and_then (λ t. steps_in d t [])) e;
}

-- a part of a string's body
pub body_part : (d n : ℕ) (K : List Frame) (bytes : List ℕ) → length bytes ≤ n → steps_in d (body n K) bytes ≡ Some (body (n - length bytes) K)
body_part d n K [] h = ap (λ k. Some (body k K)) (omega arith)
body_part d zero K (b ∷ bytes) h = absurd (omega arith)
body_part d (suc n) K (b ∷ bytes) h = body_part d n K bytes (omega arith) ∙ ap (λ k. Some (body k K)) (omega arith)

-- the rest of a string's body
pub body_whole : (d n : ℕ) (K : List Frame) (bytes : List ℕ) → length bytes ≡ n + 1 → steps_in d (body n K) bytes ≡ Some (give K)
body_whole d n K [] h = absurd (omega arith)
body_whole d zero K (b ∷ []) h = refl
body_whole d zero K (b ∷ c ∷ bytes) h = absurd (omega arith)
body_whole d (suc n) K (b ∷ bytes) h = body_whole d n K bytes (omega arith)

-- the same of a chunk's
pub chunk_part : (d m n : ℕ) (K : List Frame) (bytes : List ℕ) → length bytes ≤ n → steps_in d (chunk_body m n K) bytes ≡ Some (chunk_body m (n - length bytes) K)
chunk_part d m n K [] h = ap (λ k. Some (chunk_body m k K)) (omega arith)
chunk_part d m zero K (b ∷ bytes) h = absurd (omega arith)
chunk_part d m (suc n) K (b ∷ bytes) h = chunk_part d m n K bytes (omega arith) ∙ ap (λ k. Some (chunk_body m k K)) (omega arith)

pub chunk_whole : (d m n : ℕ) (K : List Frame) (bytes : List ℕ) → length bytes ≡ n + 1 → steps_in d (chunk_body m n K) bytes ≡ Some (chunk m K)
chunk_whole d m n K [] h = absurd (omega arith)
chunk_whole d m zero K (b ∷ []) h = refl
chunk_whole d m zero K (b ∷ c ∷ bytes) h = absurd (omega arith)
chunk_whole d m (suc n) K (b ∷ bytes) h = chunk_whole d m n K bytes (omega arith)

-- one run after another
pub joined : (d : ℕ) (s t : State) (u : Option State) (piece : List ℕ) (used count : ℕ) → steps_in d s (take used piece) ≡ Some t → steps_in d t (take count (drop used piece)) ≡ u → steps_in d s (take (used + count) piece) ≡ u
joined d s t u piece used count e f =
    ap (steps_in d s) (take-add used count piece) ∙ (steps_in-append d s (take used piece) (take count (drop used piece)) ∙ (ap (option_and_then (λ v. steps_in d v (take count (drop used piece)))) e ∙ f))

pub awaiting : (s : Stage) → s ≢ Done → IsAwaiting s
awaiting Item h = tt
awaiting (Argument m p) h = tt
awaiting (Body n) h = tt
awaiting (Chunk m) h = tt
awaiting (ChunkArgument m p) h = tt
awaiting (ChunkBody m n) h = tt
awaiting Simple h = tt
awaiting Done h = absurd (h refl)
