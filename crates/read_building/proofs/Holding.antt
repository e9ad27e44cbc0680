-- What is held of strings, and the heads of chunks.
use Rattle.std.proofs.Common.{◌≡◌, ◌≢◌, ℕ, ◌+◌, ◌/◌, ◌%◌, ◌≤◌, List, ◌++◌, length, take, drop, Bool, true, false, ◌==◌, ◌⊎◌, inl, inr, None, refl, sym, ap, ◌∙◌, subst, arith, length-append, length-drop, ◌-◌}
use Rattle.std.specs.Str.{IsUtf8}
use Rattle.std.proofs.lemmas.Str.{IsUtf8-append}
use Rattle.std.proofs.lemmas.List.{take_all, take-append-le, take-append-drop}
use Rattle.std.proofs.lemmas.Bool.Decides.{nat_tests}
use Rattle.cbor_data.specs.Machine.Machine.{info_of}
use Rattle.read_building.specs.Building.{Frame, chunk, start_chunk, step}
use Rattle.read_building.specs.Stages.{string_major, state_of}
use Rattle.read_building.specs.Turns.{IsHeld}
use Rattle.read_building.specs.Progress.{IsLive}
use Rattle.read_building.specs.declared.stage.Stage.{Stage}
use Rattle.read_building.specs.declared.stage.Stage.TheVariants as stage

pub string_kind : (t : Bool) → (string_major t ≡ 2) ⊎ (string_major t ≡ 3)
string_kind true = inr refl
string_kind false = inl refl

pub text_only : (t : Bool) (P : Type 0) → (t ≡ true → P) → string_major t ≡ 3 → P
text_only true P f e = f refl
text_only false P f e = absurd (omega arith)

pub held_start : (from left start : ℕ) (t : Bool) (held : List ℕ) → IsHeld (stage.ChunkStr from t left start) held → start ≤ length held
held_start from left start true held h = h.0
held_start from left start false held h = h

pub held_on : (from left left' start : ℕ) (t : Bool) (held c held' : List ℕ) → held' ≡ held ++ c → IsHeld (stage.ChunkStr from t left start) held → IsHeld (stage.ChunkStr from t left' start) held'
held_on from left left' start true held c held' e h =
    let len : length held' ≡ length held + length c = ap length e ∙ length-append held c in
    let inside : start ≤ length held = h.0 in
    (omega arith, subst IsUtf8 (sym (ap (take start) e ∙ take-append-le start held c inside)) h.1)
held_on from left left' start false held c held' e h =
    let len : length held' ≡ length held + length c = ap length e ∙ length-append held c in
    let inside : start ≤ length held = h in
    omega arith

pub held_whole : (from left start : ℕ) (t : Bool) (held c held' : List ℕ) → held' ≡ held ++ c → IsHeld (stage.ChunkStr from t left start) held → (t ≡ true → IsUtf8 (drop start held')) → IsHeld (stage.Chunk t) held'
held_whole from left start true held c held' e h good =
    let before : IsUtf8 (take start held') = subst IsUtf8 (sym (ap (take start) e ∙ take-append-le start held c h.0)) h.1 in
    subst IsUtf8 (take-append-drop start held') (IsUtf8-append (take start held') (drop start held') before (good refl))
held_whole from left start false held c held' e h good = tt

pub chunk_other : (at m b : ℕ) (s : List ℕ) (K : List Frame) → b ≢ 255 → b / 32 ≢ m → step at (chunk m s K) b ≡ None
chunk_other at m b s K h g =
    let t : (b == 255) ≡ false = grind (arith, nat_tests) in
    let u : (b / 32 == m) ≡ false = grind (arith, nat_tests) in
    rw (t, u) refl

pub chunk_begins : (at m b : ℕ) (s : List ℕ) (K : List Frame) → b ≢ 255 → b / 32 ≡ m → step at (chunk m s K) b ≡ start_chunk at m (info_of (b % 32)) s K
chunk_begins at m b s K h g =
    let t : (b == 255) ≡ false = grind (arith, nat_tests) in
    let u : (b / 32 == m) ≡ true = grind (arith, nat_tests) in
    rw (t, u) refl

pub slice_to_end : (start : ℕ) (a b : List ℕ) → a ≡ b → take (length a - start) (drop start a) ≡ drop start b
slice_to_end start a b e = take_all (length a - start) (drop start a) (omega (arith, length-drop start a)) ∙ ap (drop start) e

pub live : (s : Stage) (held : List ℕ) (K : List Frame) → IsLive (state_of s held K)
live stage.Item held K = tt
live (stage.Argument from k p) held K = tt
live (stage.Str from t left) held K = tt
live (stage.Bits w p) held K = tt
live (stage.Chunk t) held K = tt
live (stage.ChunkArgument from t p) held K = tt
live (stage.ChunkStr from t left start) held K = tt
live stage.Simple held K = tt
