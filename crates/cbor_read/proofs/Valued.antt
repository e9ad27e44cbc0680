-- What the value of a whole item tells of its bytes.
use Rattle.std.proofs.Common.{ℕ, ◌+◌, ◌≤◌, List, length, sym, subst, arith}
use Rattle.cbor_data.specs.Value.{Value, depth_of}
use Rattle.cbor_data.specs.Validity.{IsFirstRepeatedKey}
use Rattle.cbor_data.specs.Sound.{IsSound}
use Rattle.cbor_data.specs.Forms.{Form, meaning, IsWellFormed}
use Rattle.cbor_data.specs.Faults.{Bounds, last_offset, IsItem, of_text, of_key}
use Rattle.cbor_data.specs.Machine.Machine.{done}
use Rattle.cbor_data.specs.Machine.Reads.{Reads}
use Rattle.cbor_data.proofs.OfMachine.Lemmas.{whole, whole_front}
use Rattle.read_building.specs.Builds.{Notes}
use Rattle.read_building.proofs.Lemmas.{noted}
use Rattle.cbor_read.specs.Outcomes.{IsOutcome, IsSettled, IsSoundButKeys, IsValueOf, IsWrong}
use Rattle.cbor_data.specs.declared.FaultKind.TheVariants.{BadText, DuplicateKey}
use Rattle.cbor_read.specs.declared.value.Outcome.{Outcome}
use Rattle.cbor_read.specs.declared.value.Outcome.TheVariants as outcome
use Rattle.cbor_read.proofs.Meanings.{shallow}

pub sound_but_keys : (l : Bounds) (o : ℕ) (b : List ℕ) (x : Value) → Reads l o b done → l.depth ≤ 256 → IsValueOf b x → IsSoundButKeys x
sound_but_keys l o b x r few v =
    let w : IsWellFormed b = whole l o b r in
    let f : Form = w.written in
    let m = v.means f w.ok w.is in
    let deep : depth_of (meaning f) ≤ l.depth = shallow l.depth b f r.leads w.ok w.is in
    let deeper : depth_of (meaning f) ≤ 256 = omega arith in
    let placed : o + length b ≤ last_offset = r.placed in
    record {
      shallow = subst (λ y. depth_of y ≤ 256) (sym m.1) deeper;
      short = record { spelling = b; spells = record { written = f; ok = w.ok; text = m.0; is = w.is; meant = m.1 }; short = omega arith };
    }

-- a sound value is the item
pub item_read : (l : Bounds) (o : ℕ) (b : List ℕ) (x : Value) → Reads l o b done → IsValueOf b x → IsSound x → IsItem l o x b
item_read l o b x r v s =
    let w : IsWellFormed b = whole l o b r in
    let m = v.means w.written w.ok w.is in
    record {
      spells = record { written = w.written; ok = w.ok; text = m.0; is = w.is; meant = m.1 };
      valid = s.valid;
      shallow = subst (λ y. depth_of y ≤ l.depth) (sym m.1) (shallow l.depth b w.written r.leads w.ok w.is);
      short = r.short;
      placed = r.placed;
    }

key_told : (l : Bounds) (o : ℕ) (b : List ℕ) (x : Value) (at : ℕ) → Reads l o b done → IsValueOf b x → IsFirstRepeatedKey x at → IsWrong l o b (record { at = at; kind = DuplicateKey })
key_told l o b x at r v k =
    let w : IsWellFormed b = whole l o b r in
    let m = v.means w.written w.ok w.is in
    record {
      value = tt;
      told = λ more. of_key (length b) w.written (whole_front l o b more r) m.0 (subst (λ y. IsFirstRepeatedKey y at) m.1 k);
    }

-- what the value is settled to be is what the bytes come to
pub settled : (l : Bounds) (o : ℕ) (b : List ℕ) (x : Value) (out : Outcome) → Reads l o b done → IsValueOf b x → IsSettled x out → IsOutcome l o b out
settled l o b x (outcome.Item y) r v s = subst (λ z. IsItem l o z b) (sym s.0) (item_read l o b x r v s.1)
settled l o b x (outcome.Fault fault) r v s = subst (λ k. IsWrong l o b (record { at = fault.at; kind = k })) (sym s.0) (key_told l o b x fault.at r v s.1)

-- the place that was noted is told
pub text_told : (l : Bounds) (o : ℕ) (b : List ℕ) (place : ℕ) → Reads l o b done → Notes l.depth o b done place → IsWrong l o b (record { at = place; kind = BadText })
text_told l o b place r n =
    let w : IsWellFormed b = whole l o b r in
    let bad = noted l.depth o b place n w.written w.ok w.is in
    record {
      value = tt;
      told = λ more. of_text (length b) bad.0 w.written (whole_front l o b more r) bad.2 bad.1;
    }
