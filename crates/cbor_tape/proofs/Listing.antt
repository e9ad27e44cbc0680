-- The keys of pairs on a tape, put into a list one by one.
use Rattle.std.proofs.Common.{◌≡◌, ℕ, ◌+◌, ◌<◌, ◌≤◌, List, [], ◌∷◌, ◌++◌, length, take, drop, refl, sym, ap, ◌∙◌, subst, set, arith, append_assoc, append-nil, length-drop, length-take}
use Rattle.std.proofs.lemmas.List.{length-take-le, take_more_set}
use Rattle.cbor_data.specs.Value.{Pairs, no_pairs, pair}
use Rattle.cbor_tape.specs.declared.entry.Entry.{Entry}
use Rattle.cbor_tape.specs.Keys.{mark, key_marks, AreListed, ArePairsOn, IsPairOn}
use Rattle.cbor_tape.proofs.Rising.{listed_with}
use Rattle.cbor_tape.proofs.Walks.{no_marks, some_left}

-- what was listed of these pairs, and what is left
pub record AreLeft (b : List ℕ) (t : List Entry) (place last : ℕ) (room : List Entry) (count : ℕ) (ps : Pairs) : Type 0 where
  pub left : Pairs
  pub on : ArePairsOn b t place last left
  pub marks : List (List ℕ)
  pub split : key_marks ps ≡ marks ++ key_marks left
  pub listed : AreListed b 0 marks (take count room)

abbrev pub AreLeftOf : List ℕ → List Entry → ℕ → ℕ → ℕ → List Entry → ℕ → Type 0
AreLeftOf b t first place last room count = (ps : Pairs) → ArePairsOn b t first last ps → AreLeft b t place last room count ps

pub none_listed : (b : List ℕ) (t : List Entry) (first last : ℕ) (room : List Entry) → AreLeftOf b t first first last room 0
none_listed b t first last room ps on = record { left = ps; on = on; marks = []; split = refl; listed = tt }

pub one_listed : (b : List ℕ) (t : List Entry) (first place next last : ℕ) (room new : List Entry) (count : ℕ) (e : Entry) → place < last → last ≤ length t → count < length room → IsPairOn b t place last e.head next → e.next ≡ count → new ≡ set room count e → AreLeftOf b t first place last room count → AreLeftOf b t first next last new (count + 1)
one_listed b t first place next last room new count e before within in_room key number put h ps on = by s.left s.on s.split
  where
    s : AreLeft b t place last room count ps
    s = h ps on

    front : take (count + 1) new ≡ take count room ++ e ∷ []
    front = ap (take (count + 1)) put ∙ take_more_set room count e in_room

    by : (qs : Pairs) → ArePairsOn b t place last qs → key_marks ps ≡ s.marks ++ key_marks qs → AreLeft b t next last new (count + 1) ps
    by no_pairs there split = absurd (some_left b t place last (drop place (take last t)) no_pairs refl (omega (arith, before, within, length-drop place (take last t), length-take last t)) there refl)
    by (pair k v qs) there split =
        let w = key k v qs there in
        record {
          left = qs;
          on = w.1;
          marks = s.marks ++ mark k ∷ [];
          split = split ∙ sym (append_assoc s.marks (mark k ∷ []) (key_marks qs));
          listed = subst (AreListed b 0 (s.marks ++ mark k ∷ [])) (sym front) (listed_with b 0 s.marks (take count room) (mark k) e s.listed w.0 (omega (arith, number, length-take-le count room (omega (arith, in_room)))));
        }

pub all_listed : (b : List ℕ) (t : List Entry) (first place last : ℕ) (room : List Entry) (count : ℕ) → last ≤ place → AreLeftOf b t first place last room count → (ps : Pairs) → ArePairsOn b t first last ps → AreListed b 0 (key_marks ps) (take count room)
all_listed b t first place last room count end h ps on =
    let s = h ps on in
    subst (λ ms. AreListed b 0 ms (take count room)) (sym (s.split ∙ (ap (λ ms. s.marks ++ ms) (no_marks b t place last s.left end s.on) ∙ append-nil s.marks))) s.listed
