-- What an item that is whole at the front of bytes comes to.
use Rattle.std.proofs.Common.{◌≡◌, ℕ, ◌+◌, ◌-◌, ◌<◌, ◌≤◌, ◌^◌, min, List, [], ◌++◌, length, take, Option, Some, None, Result, Ok, Err, IfOk, IfSome, nat_le, true, refl, sym, ap, ◌∙◌, subst, arith, append-nil, length-take}
use Rattle.std.specs.declared.alloc.AllocError.{AllocError}
use Rattle.std.proofs.lemmas.List.{take-take}
use Rattle.lists.proofs.Lemmas.{test_at_most as fits}
use Rattle.cbor_data.specs.Value.{Value, depth_of, AreBytes}
use Rattle.cbor_data.specs.Forms.{Form, flat, HasText, meaning, Spells}
use Rattle.cbor_data.specs.Faults.{Bounds, IsItem}
use Rattle.cbor_data.specs.Sound.{IsSound}
use Rattle.cbor_data.proofs.Lemmas.{one_form}
use Rattle.cbor_data.specs.Machine.Machine.{item, done, steps_in}
use Rattle.cbor_data.specs.Machine.Reads.{LeadsWithin, Reads}
use Rattle.cbor_data.proofs.OfMachine.Lemmas.{item_in}
use Rattle.read_items.specs.Whole.Whole.{IsWholeItem}
use Rattle.cbor_read.specs.Firsts.{IsFirstItem}
use Rattle.cbor_read.specs.Outcomes.{IsFrontItem, IsSoundButKeys, IsValueOf}
use Rattle.cbor_read.specs.Turns.{IsWholeTurn}
use Rattle.cbor_read.proofs.Firsts.{enough}
use Rattle.cbor_read.proofs.Pieces.{bytes-take}
use Rattle.cbor_read.proofs.Valued.{item_read}

pub front_sound : (d : ℕ) (b : List ℕ) (n : ℕ) (x : Value) → d ≤ 256 → length b < 2 ^ 64 → IsWholeItem d b x n → IsSoundButKeys x
front_sound d b n x few short h =
    let shallow : depth_of x ≤ d = h.shallow in
    record { shallow = omega arith; short = record { spelling = take n b; spells = h.spells; short = omega (arith, length-take n b) } }

-- the bounded machine reads a spelling to its end
spelled_leads : (d : ℕ) (x : Value) (b : List ℕ) → Spells x b → depth_of x ≤ d → steps_in d (item []) b ≡ Some done
spelled_leads d x b s h =
    let f : Form = s.written in
    let shallow : depth_of (meaning f) ≤ d = subst (λ y. depth_of y ≤ d) s.meant h in
    let t : nat_le (depth_of (meaning f) + 0) d ≡ true = fits (depth_of (meaning f) + 0) d (omega arith) in
    ap (steps_in d (item [])) (s.is ∙ sym (append-nil (flat f))) ∙ (item_in d f [] [] s.ok (omega arith) ∙ rw t refl)

-- what has a spelling at the front of bytes is their value, where they are one item
front_means : (x : Value) (b front back : List ℕ) → Spells x front → front ++ back ≡ b → IsValueOf b x
front_means x b front back s parts = record {
  means = λ g ok is.
      let same : s.written ≡ g = (one_form s.written g back [] s.ok ok (ap (λ c. c ++ back) (sym s.is) ∙ (parts ∙ (is ∙ sym (append-nil (flat g)))))).0 in
      (subst HasText same s.text, s.meant ∙ ap meaning same);
}

pub front_item : (d : ℕ) (b : List ℕ) (n : ℕ) (x y : Value) → AreBytes b → IsWholeItem d b x n → y ≡ x → IsSound x → IsFrontItem d b n y
front_item d b n x y all h same s = subst (IsFrontItem d b n) (sym same) (record {
  some = h.some;
  within = h.within;
  leads = record { are = bytes-take n b all; is = spelled_leads d x (take n b) h.spells h.shallow };
  comes = λ l o r. item_read l o (take n b) x r (front_means x (take n b) (take n b) [] h.spells (append-nil (take n b))) s;
})

-- the same, of a piece as far as it has room
whole_turn : (l : Bounds) (o count : ℕ) (piece : List ℕ) (room used : ℕ) (x : Value) → count ≡ 0 → o < 2 ^ 64 → room ≡ min (l.item_bytes - 0) (2 ^ 64 - 1 - (o + 0)) → IsFrontItem l.depth (take room piece) used x → IsWholeTurn l o count piece used x
whole_turn l o count piece room used x first placed r h =
    let len : length (take room piece) ≡ min room (length piece) = length-take room piece in
    let within : used ≤ length (take room piece) = h.within in
    let inside : used ≤ room = omega arith in
    let cut : take used (take room piece) ≡ take used piece = take-take used room piece inside in
    let size : length (take used piece) ≡ min used (length piece) = length-take used piece in
    let reads : Reads l o (take used piece) done = record { leads = subst (λ b. LeadsWithin l.depth b done) cut h.leads; short = omega arith; placed = omega arith } in
    record {
      some = h.some;
      within = omega arith;
      first = first;
      read = subst (IsItem l o x) cut (h.comes l o (subst (λ b. Reads l o b done) (sym cut) reads));
    }

pub whole_turns : (l : Bounds) (o count : ℕ) (piece : List ℕ) (room d : ℕ) (front : List ℕ) (found : Result (Option (ℕ × Value)) AllocError) → count ≡ 0 → o < 2 ^ 64 → room ≡ min (l.item_bytes - 0) (2 ^ 64 - 1 - (o + 0)) → d ≡ l.depth → front ≡ take room piece →
    IfOk found (λ f. IfSome f (λ x. IsFrontItem d front x.0 x.1)) → IfOk found (λ f. IfSome f (λ x. IsWholeTurn l o count piece x.0 x.1))
whole_turns l o count piece room d front (Ok (Some x)) first placed r deep is h =
    whole_turn l o count piece room x.0 x.1 first placed r (subst (λ k. IsFrontItem k (take room piece) x.0 x.1) deep (subst (λ b. IsFrontItem d b x.0 x.1) is h))
whole_turns l o count piece room d front (Ok None) first placed r deep is h = tt
whole_turns l o count piece room d front (Err e) first placed r deep is h = tt

-- and of the first of the items that bytes hold
pub front_first : (b : List ℕ) (n : ℕ) (x : Value) → length b < 2 ^ 64 → IsFrontItem 256 b n x → IsFirstItem b n x
front_first b n x few h =
    let size : length (take n b) ≡ min n (length b) = length-take n b in
    let within : n ≤ length b = h.within in
    let is = h.comes (enough n) 0 (record { leads = h.leads; short = omega arith; placed = omega arith }) in
    record { some = h.some; within = h.within; item = record { spells = is.spells; valid = is.valid; shallow = is.shallow } }
