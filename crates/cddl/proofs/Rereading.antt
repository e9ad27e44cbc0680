-- What was rewritten is read back.
use Rattle.std.proofs.Common.{◌≡◌, ℕ, suc, ◌+◌, ◌≤◌, List, [], ◌∷◌, ◌++◌, length, Option, refl, ap, ◌∙◌, arith, append-nil}
use Rattle.cbor_data.specs.Faults.{Bounds, IsItem, last_offset}
use Rattle.cbor_data.specs.Preferred.{preferred}
use Rattle.cbor_data.specs.Sequence as Q
use Rattle.cbor_data.specs.Sequence.{EndsBy, Found, IsRunOf, Takes}
use Rattle.cbor_data.specs.Sound.{IsSound}
use Rattle.cbor_data.specs.Value.{Value, depth_of}
use Rattle.cbor_data.proofs.Lemmas.{spelled_assignable, spelled_fitting, spelled_in_range}
use Rattle.seq_run.specs.Answers.{items_of}
use Rattle.seq_run.specs.Output.{items_output, stream_output}
use Rattle.seq_run.specs.Written.{AreWritable, written_bytes}
use Rattle.seq_run.specs.declared.end.End.{End}
use Rattle.seq_run.specs.declared.output.Mode.{Mode}
use Rattle.seq_run.specs.declared.output.Mode.TheVariants as mode
use Rattle.cddl.specs.Validated.{AreShort}

-- An item that comes in a stream is sound.
sound : (l : Bounds) (o : ℕ) (x : Value) (b : List ℕ) → l.depth ≤ 256 → IsItem l o x b → IsSound x
sound l o x b few i =
    let shallow : depth_of x ≤ l.depth = i.shallow in
    let placed : o + length b ≤ last_offset = i.placed in
    record {
      in_range = spelled_in_range x b i.spells;
      shallow = omega arith;
      assignable = spelled_assignable x b i.spells;
      fitting = spelled_fitting x b i.spells;
      short = record { spelling = b; spells = i.spells; short = omega arith };
      valid = i.valid;
    }

module _ (l : Bounds) (few : l.depth ≤ 256) (accepts : Value → List ℕ → Type 0) (anyhow : (x : Value) (b c : List ℕ) → accepts x b → accepts x c) where
  pub writable : {o : ℕ} {b : List ℕ} {found : List Found} {rest : List ℕ} → Takes l accepts o b found rest → AreShort l (items_of found) → AreWritable accepts l (items_of found)
  writable Q.none h = tt
  writable {o = o} (Q.next x front back e i a t) (h, hs) = (record { sound = sound l o x front few i; accepted = anyhow x front (preferred x) a; shallow = i.shallow; short = h }, writable t hs)

items_rewritten : (n : ℕ) (found : List Found) → items_output mode.Rewrite n found ≡ written_bytes (items_of found)
items_rewritten n [] = refl
items_rewritten n (f ∷ fs) = ap (λ b. preferred f.item ++ b) (items_rewritten (suc n) fs)

pub rewritten : (m : Mode) (found : List Found) (end : End) (v : Option Value) → m ≡ mode.Rewrite → stream_output m found end v ≡ written_bytes (items_of found)
rewritten mode.Report found end v e = absurd (cc)
rewritten mode.EndLine found end v e = absurd (cc)
rewritten mode.Rewrite found end v e = append-nil (items_output mode.Rewrite 1 found) ∙ items_rewritten 1 found
rewritten mode.Deterministic found end v e = absurd (cc)

-- An end comes after a run.
pub run_of : {l : Bounds} {accepts : Value → List ℕ → Type 0} {kind : Type 0} {told : ℕ → List ℕ → kind → ℕ → Type 0} {misses : Value → List ℕ → ℕ → Type 0} {overruns : Value → List ℕ → Type 0} {b : List ℕ} {found : List Found} {e : Q.End kind} →
    EndsBy l accepts told misses overruns b found e → (rest : List ℕ) × IsRunOf l accepts b found rest
run_of (Q.cleanly r) = ([], r)
run_of (Q.at_fault rest r n e t) = (rest, r)
run_of (Q.at_mismatch rest x front back r e f i m) = (rest, r)
run_of (Q.at_spent rest x front back r e f i m) = (rest, r)
