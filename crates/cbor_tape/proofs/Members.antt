-- The members of an array that were read so far.
use Rattle.std.proofs.Common.{◌≡◌, ℕ, ◌+◌, List, [], ◌++◌, take, refl, sym, ap, ◌∙◌, subst, arith, append_assoc, append-nil}
use Rattle.cbor_data.specs.Value.{place_count, values_place_count, places, values_places}
use Rattle.cbor_data.specs.Validity.{IsValid}
use Rattle.cbor_data.specs.Forms.{Form, Forms, no_forms, form, forms_len, meaning, meanings}
use Rattle.item_nodes.specs.Apart.{AreValuesValid}
use Rattle.read_items.proofs.OfWhole.Lemmas.{with_form, forms_len-with, one_form_more}
use Rattle.cbor_tape.specs.declared.entry.Entry.{Entry}
use Rattle.cbor_tape.specs.Tape.{AreEntriesOf}
use Rattle.cbor_tape.specs.Parts.{AreTapedAt, IsTapedAt}
use Rattle.cbor_tape.proofs.Entries.{entries-append, values_places_counted}

places-with : (fs : Forms) (g : Form) → values_places (meanings (with_form fs g)) ≡ values_places (meanings fs) ++ places (meaning g)
places-with no_forms g = append-nil (places (meaning g))
places-with (form f fs) g = ap (λ xs. places (meaning f) ++ xs) (places-with fs g) ∙ sym (append_assoc (places (meaning f)) (values_places (meanings fs)) (places (meaning g)))

count-with : (fs : Forms) (g : Form) → values_place_count (meanings (with_form fs g)) ≡ values_place_count (meanings fs) + place_count (meaning g)
count-with no_forms g = omega arith
count-with (form f fs) g = omega (arith, count-with fs g)

valid-with : (fs : Forms) (g : Form) → AreValuesValid (meanings fs) → IsValid (meaning g) → AreValuesValid (meanings (with_form fs g))
valid-with no_forms g h k = (k, tt)
valid-with (form f fs) g h k = (h.0, valid-with fs g h.1 k)

-- so many members are in b from `start` up to `end`, and from this place on the tape has their entries
pub record AreRead (depth : ℕ) (b : List ℕ) (start place : ℕ) (old new : List Entry) (end next read : ℕ) : Type 0 where
  pub written : Forms
  pub counted : forms_len written ≡ read
  pub there : AreTapedAt depth b start place old new written end next

pub none_read : (d : ℕ) (b : List ℕ) (start place : ℕ) (old : List Entry) → AreRead d b start place old old start place 0
none_read d b start place old = record {
  written = no_forms;
  counted = refl;
  there = record {
    there = record { ok = tt; text = tt; shallow = omega arith; placed = omega arith; is = refl };
    valid = tt;
    counted = omega arith;
    entries = [];
    stand = tt;
    tape = sym (append-nil (take place old));
  };
}

pub one_more : (d : ℕ) (b : List ℕ) (start place end after next beyond read : ℕ) (old mid new : List Entry) → AreRead d b start place old mid end next read → IsTapedAt d b end next mid new after beyond → AreRead d b start place old new after beyond (read + 1)
one_more d b start place end after next beyond read old mid new s h =
    let fs = s.written in
    let g = h.there.written in
    let t = s.there in
    let counted : next ≡ place + values_place_count (meanings fs) = t.counted in
    record {
      written = with_form fs g;
      counted = omega (arith, forms_len-with fs g, s.counted);
      there = record {
        there = one_form_more d b start end after h.value fs t.there h.there;
        valid = valid-with fs g t.valid (subst IsValid h.there.meant h.valid);
        counted = omega (arith, h.counted, count-with fs g, ap place_count h.there.meant);
        entries = t.entries ++ h.entries;
        stand = subst (λ xs. AreEntriesOf b place xs (t.entries ++ h.entries)) (ap (λ x. values_places (meanings fs) ++ places x) h.there.meant ∙ sym (places-with fs g))
            (entries-append b place next (values_places (meanings fs)) (places h.value) t.entries h.entries (omega (arith, values_places_counted (meanings fs))) t.stand h.stand);
        tape = h.tape ∙ (ap (λ es. es ++ h.entries) t.tape ∙ append_assoc (take place old) t.entries h.entries);
      };
    }
