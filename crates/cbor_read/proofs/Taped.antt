-- An item that is taken by its tape.
use Rattle.std.proofs.Common.{◌≡◌, ℕ, ◌+◌, ◌-◌, ◌<◌, ◌≤◌, ◌^◌, min, List, [], ◌++◌, length, take, Option, None, refl, sym, ap, ◌∙◌, subst, arith}
use Rattle.std.proofs.lemmas.List.{length-take-le}
use Rattle.cbor_data.specs.Faults.{Bounds, IsItem, last_offset}
use Rattle.cbor_tape.specs.Tape.{IsWholeTape}
use Rattle.cbor_tape.specs.declared.entry.Entry.{Entry}
use Rattle.cbor_read.specs.Reading.{Reading}
use Rattle.cbor_read.specs.Answers.{IsTapeNext, IsTapeTaken}
use Rattle.cbor_read.specs.declared.fault.Stop.{Stop}
use Rattle.cbor_read.proofs.Turned.{reading}

module _ (l : Bounds) (o : ℕ) (piece : List ℕ) (tape : List Entry) (used room d : ℕ) (deep : d ≡ l.depth) (given : IsWholeTape d piece tape used)
    (placed : o < 2 ^ 64) (r : room ≡ min (l.item_bytes - 0) (2 ^ 64 - 1 - (o + 0))) (few : used ≤ room) where
  h : IsWholeTape l.depth piece tape used
  h = subst (λ n. IsWholeTape n piece tape used) deep given

  size : length (take used piece) ≡ used
  size = length-take-le used piece h.whole.within

  item : IsItem l o h.value (take used piece)
  item = record { spells = h.whole.spells; valid = h.valid; shallow = h.whole.shallow; short = omega (arith, size, r, few); placed = omega (arith, size, r, few, placed) }

  -- where the reader is between two items, it is the next one
  pub tape_next : (fed : List ℕ) (stopped : Option Stop) (now : Reading) → reading l o fed stopped ≡ now → stopped ≡ None → fed ≡ [] → IsTapeNext now piece used tape
  tape_next fed stopped now is live nothing = subst (λ q. IsTapeNext q piece used tape) is (record { going = live; between = nothing; whole = h; item = item })

-- its end has an offset
pub tape_fits : (r : Reading) (piece : List ℕ) (used : ℕ) (tape : List Entry) → IsTapeNext r piece used tape → r.offset + used < 2 ^ 64
tape_fits r piece used tape n =
    let placed : r.offset + length (take used piece) ≤ last_offset = n.item.placed in
    omega (arith, placed, length-take-le used piece n.whole.whole.within)

-- where the offset moves on to its end, it is taken
moved : (l : Bounds) (o : ℕ) (fed : List ℕ) (stopped : Option Stop) (piece : List ℕ) (used : ℕ) (tape : List Entry) →
    IsTapeNext (reading l o fed stopped) piece used tape → IsTapeTaken (reading l o fed stopped) piece used tape (reading l (o + used) fed stopped)
moved l o fed stopped piece used tape n =
    let size : used ≡ length (fed ++ take used piece) = sym (ap (λ (f : List ℕ). length (f ++ take used piece)) n.between ∙ length-take-le used piece n.whole.whole.within) in
    record {
      next = n;
      taken = record {
        some = n.whole.whole.some;
        within = n.whole.whole.within;
        item = subst (λ (f : List ℕ). IsItem l o n.whole.value (f ++ take used piece)) (sym n.between) n.item;
        next = ap (λ (f : List ℕ). reading l (o + used) f stopped) n.between ∙ (ap (λ (s : Option Stop). reading l (o + used) [] s) n.going ∙ ap (λ (m : ℕ). reading l (o + m) [] None) size);
      };
    }

pub tape_taken : (l : Bounds) (o : ℕ) (fed : List ℕ) (stopped : Option Stop) (old : Reading) → reading l o fed stopped ≡ old → (piece : List ℕ) (used : ℕ) (tape : List Entry) →
    IsTapeNext old piece used tape → IsTapeTaken old piece used tape (reading l (o + used) fed stopped)
tape_taken l o fed stopped old was piece used tape =
    subst (λ q. IsTapeNext q piece used tape → IsTapeTaken q piece used tape (reading l (o + used) fed stopped)) was (moved l o fed stopped piece used tape)
