-- An item that a session takes by its tape.
use Rattle.std.proofs.Common.{◌≡◌, ℕ, ◌+◌, ◌<◌, ◌^◌, List, [], ◌∷◌, ◌++◌, map, take, Option, None, ap, ◌∙◌}
use Rattle.cbor_data.specs.Value.{Value}
use Rattle.cbor_data.specs.Sequence.{Found}
use Rattle.cbor_read.specs.Answers.{IsTapeTaken}
use Rattle.cbor_read.specs.Reading.{Reading}
use Rattle.cbor_tape.specs.declared.entry.Entry.{Entry}
use Rattle.read_building.specs.Spelled.{spelled_by}
use Rattle.read_building.proofs.Lemmas.{spelled}
use Rattle.seq_run.specs.declared.end.Stopped.{Stopped}
use Rattle.seq_run.specs.declared.session.FoundItem.{FoundItem}
use Rattle.seq_run.specs.declared.session.FoundItem.TheVariants.{Spelled}
use Rattle.seq_run.specs.Answers.{IsTapeFed}
use Rattle.seq_run.specs.Ends.{Accepts}
use Rattle.seq_run.specs.FoundItem.{found_of}
use Rattle.seq_run.specs.Judge.{Judge}
use Rattle.seq_run.specs.Parts.{AreParts, parts_of}
use Rattle.seq_run.specs.Progress.{Progress}
use Rattle.seq_run.proofs.Steps.{item_fits, item_kept, item_step, noted}

-- the bytes of an item are noted, and so the item is
pub spelled_noted : (taken : List FoundItem) (offset : ℕ) (bytes front : List ℕ) (after : List FoundItem) → bytes ≡ front → after ≡ taken ++ Spelled offset bytes ∷ [] →
    map found_of after ≡ map found_of taken ++ record { offset = offset; item = spelled_by front } ∷ []
spelled_noted taken offset bytes front after same e =
    noted taken (Spelled offset bytes) after e ∙ ap (λ (b : List ℕ). map found_of taken ++ record { offset = offset; item = spelled_by b } ∷ []) same

module _ (judge : Judge) (fed : List ℕ) (taken : List Found) (r : Reading) (items offset bytes : ℕ) (stopped : Option Stopped) (rejected : Option Value)
    (is : stopped ≡ None) (parts : AreParts stopped judge r.limits fed taken (parts_of r items offset bytes rejected))
    (piece : List ℕ) (used : ℕ) (tape : List Entry) (new : Reading) (t : IsTapeTaken r piece used tape new) (accepted : Accepts judge t.next.whole.value []) where
  abbrev item : Value
  item = t.next.whole.value

  pub taped_fits : (items + 1 < 2 ^ 64) × (bytes + used < 2 ^ 64)
  taped_fits = item_fits judge fed taken r items offset bytes stopped rejected is parts piece used item new t.taken accepted

  module _ (fed' : List ℕ) (taken' : List Found) (e : fed' ≡ fed ++ take used piece) (f : taken' ≡ taken ++ record { offset = offset; item = spelled_by (take used piece) } ∷ []) where
    noted_item : taken' ≡ taken ++ record { offset = offset; item = item } ∷ []
    noted_item = f ∙ ap (λ (x : Value). taken ++ record { offset = offset; item = x } ∷ []) (spelled item (take used piece) t.next.whole.whole.spells)

    pub taped_kept : AreParts stopped judge new.limits fed' taken' (parts_of new (items + 1) (bytes + used) (bytes + used) rejected)
    taped_kept = item_kept judge fed taken r items offset bytes stopped rejected is parts piece used item new fed' taken' e noted_item t.taken accepted

    pub taped_step : (now : Progress) → record { judge = judge; limits = r.limits; fed = fed; taken = taken; stopped = stopped } ≡ now →
        IsTapeFed now piece used tape (record { judge = judge; limits = new.limits; fed = fed'; taken = taken'; stopped = stopped })
    taped_step now same = record {
      depth = r.limits.depth;
      whole = t.next.whole;
      fed = item_step judge fed taken r items offset bytes stopped rejected is parts now same piece used item new fed' taken' e noted_item t.taken accepted;
    }
