-- A rest has a fault, or is unfinished, or begins with an item: no two of these.
use Rattle.std.proofs.Common.{◌≡◌, ℕ, suc, ◌+◌, ◌-◌, ◌<◌, ◌≤◌, ◌⊎◌, inl, inr, List, ◌∷◌, ◌++◌, length, take, drop, refl, sym, ap, ◌∙◌, subst, arith, append_assoc}
use Rattle.std.proofs.lemmas.List.{take-append-le, take-append-drop}
use Rattle.std.proofs.Math.Seq.{take-append-add}
use Rattle.std.proofs.lemmas.Bool.{cases_lt}
use Rattle.cbor_data.specs.Value.{Value, depth_of}
use Rattle.cbor_data.specs.Validity.{IsValid}
use Rattle.cbor_data.specs.Forms.{Form, flat, IsOk, meaning, HasText, IsWellFormed, Spells, Begins, IsUnfinished}
use Rattle.cbor_data.specs.Faults.{Bounds, last_offset, BeginsWithin, IsFormFaultAt, malformed, deep, long, IsClearBefore, IsFaultOf, of_form, of_end, of_text, of_key, IsItem}
use Rattle.cbor_data.specs.declared.FaultKind.{FaultKind}
use Rattle.cbor_data.specs.declared.FaultKind.TheVariants.{TooDeep, TooLong}
use Rattle.cbor_data.proofs.Lemmas.{one_form, unfinished_no_front}
use Rattle.cbor_data.proofs.Lemmas.{good_text}

pub formed : {x : Value} {b : List ℕ} → Spells x b → IsWellFormed b
formed s = record { written = s.written; ok = s.ok; is = s.is }

-- the front of an item, and what comes after the item
take_inside : (p : ℕ) (front back : List ℕ) → p < length front → take (p + 1) (front ++ back) ++ drop (p + 1) front ≡ front
take_inside p front back h =
    let within : p + 1 ≤ length front = omega arith in
    ap (λ b. b ++ drop (p + 1) front) (take-append-le (p + 1) front back within) ∙ take-append-drop (p + 1) front

take_past : (p : ℕ) (front back : List ℕ) → length front ≤ p → take p (front ++ back) ≡ front ++ take (p - length front) back
take_past p front back h =
    let parts : p ≡ length front + (p - length front) = omega arith in
    ap (λ n. take n (front ++ back)) parts ∙ take-append-add front back (p - length front)

-- an item that has this byte makes it impossible that it is wrong
record IsAround (l : Bounds) (o p : ℕ) (b front : List ℕ) : Type 0 where
  written : Form
  rest : List ℕ
  ok : IsOk written
  is : take (p + 1) b ++ rest ≡ flat written
  shallow : depth_of (meaning written) ≤ l.depth
  below : p < l.item_bytes
  placed : o + p < last_offset

around : (l : Bounds) (o p : ℕ) (x : Value) (b front back : List ℕ) → b ≡ front ++ back → p < length front → IsItem l o x front → IsAround l o p b front
around l o p x b front back e h item =
    let inner : take (p + 1) b ++ drop (p + 1) front ≡ front = ap (λ a. take (p + 1) a ++ drop (p + 1) front) e ∙ take_inside p front back h in
    record {
      written = item.spells.written;
      rest = drop (p + 1) front;
      ok = item.spells.ok;
      is = inner ∙ item.spells.is;
      shallow = subst (λ v. depth_of v ≤ l.depth) item.spells.meant item.shallow;
      below = omega (arith, item.short, h);
      placed = omega (arith, item.placed, h);
    }

fault_at_no_item : (l : Bounds) (o : ℕ) (b : List ℕ) (p : ℕ) (k : FaultKind) (front : List ℕ) → IsFormFaultAt l o b p k → IsAround l o p b front → ⊥
fault_at_no_item l o b p k front (malformed within not kind) r = not (r.rest, record { written = r.written; ok = r.ok; is = r.is })
fault_at_no_item l o b p k front (deep within begins not) r = not (record { more = r.rest; written = r.written; ok = r.ok; is = r.is; shallow = r.shallow })
fault_at_no_item l o b p k front (long within (inl at)) r = omega (arith, at, r.below)
fault_at_no_item l o b p k front (long within (inr at)) r = omega (arith, at.1, r.placed)

written_same : (l : Bounds) (o n : ℕ) (x : Value) (b front back : List ℕ) (g : Form) → IsOk g → take n b ≡ flat g → (item : IsItem l o x front) → b ≡ front ++ back → g ≡ item.spells.written
written_same l o n x b front back g ok is item e =
    let same : flat g ++ drop n b ≡ flat item.spells.written ++ back = ap (λ a. a ++ drop n b) (sym is) ∙ (take-append-drop n b ∙ (e ∙ ap (λ a. a ++ back) item.spells.is)) in
    (one_form g item.spells.written (drop n b) back ok item.spells.ok same).0

-- what has a fault does not begin with an item
pub fault_no_item : (l : Bounds) (o : ℕ) (b : List ℕ) (k : FaultKind) (at : ℕ) (x : Value) (front back : List ℕ) → IsFaultOf l o b k at → IsItem l o x front → b ≡ front ++ back → ⊥
fault_no_item l o b k at x front back (of_form p within unfinished fault clear is) item e =
    elim (cases_lt p (length front)) [
      | inl h ↦ fault_at_no_item l o b p _ front fault (around l o p x b front back e h item)
      | inr h ↦ unfinished_no_front (take p b) front (take (p - length front) back) unfinished (formed item.spells) (ap (take p) e ∙ take_past p front back h)
    ]
fault_no_item l o b k at x front back (of_end some unfinished clear is) item e = unfinished_no_front b front back unfinished (formed item.spells) e
fault_no_item l o b k at x front back (of_text n i g whole bad is) item e =
    good_text g i (subst HasText (sym (written_same l o n x b front back g whole.ok whole.is item e)) item.spells.text) bad
fault_no_item l o b k at x front back (of_key n g whole text repeated) item e =
    let same = written_same l o n x b front back g whole.ok whole.is item e in
    let valid : IsValid (meaning g) = subst IsValid (item.spells.meant ∙ ap meaning (sym same)) item.valid in
    valid _ repeated.repeated

-- With one more of its bytes, an unfinished item begins still.
begins_more : (b : List ℕ) (q : ℕ) → IsUnfinished b → q < length b → Begins (take (q + 1) b)
begins_more b q u h =
    let all : take (q + 1) b ++ (drop (q + 1) b ++ u.0 ∷ u.1) ≡ b ++ u.0 ∷ u.1 = sym (append_assoc (take (q + 1) b) (drop (q + 1) b) (u.0 ∷ u.1)) ∙ ap (λ a. a ++ u.0 ∷ u.1) (take-append-drop (q + 1) b) in
    (drop (q + 1) b ++ u.0 ∷ u.1, subst IsWellFormed (sym all) u.2)

-- where the item may not go on for its length or its place, something is wrong with a byte in sight
not_clear : (l : Bounds) (o q : ℕ) (b : List ℕ) → IsUnfinished b → IsClearBefore l o b (length b) → q < length b → (q ≡ l.item_bytes) ⊎ (o + q ≡ last_offset) → ⊥
not_clear l o q b u clear h at =
    let why : (q ≡ l.item_bytes) ⊎ ((q < length b) × (o + q ≡ last_offset)) = elim at [ inl e ↦ inl e | inr e ↦ inr (h, e) ] in
    let not : BeginsWithin l.depth (take (q + 1) b) → ⊥ = λ w. clear q TooLong h (long w why) in
    clear q TooDeep h (deep h (begins_more b q u h) not)

pub clear_short : (l : Bounds) (o : ℕ) (b : List ℕ) → IsUnfinished b → IsClearBefore l o b (length b) → length b ≤ l.item_bytes
clear_short l o b u clear =
    elim (cases_lt l.item_bytes (length b)) [
      | inl h ↦ absurd (not_clear l o l.item_bytes b u clear h (inl refl))
      | inr h ↦ h
    ]

pub clear_placed : (l : Bounds) (o : ℕ) (b : List ℕ) → o ≤ last_offset → IsUnfinished b → IsClearBefore l o b (length b) → o + length b ≤ last_offset
clear_placed l o b below u clear =
    elim (cases_lt (last_offset - o) (length b)) [
      | inl h ↦ absurd (not_clear l o (last_offset - o) b u clear h (inr (omega (arith, below))))
      | inr h ↦ omega (arith, h, below)
    ]

nothing_after : (l : Bounds) (o : ℕ) (b : List ℕ) (q : ℕ) (k : FaultKind) → IsFormFaultAt l o b q k → length b ≤ q → (q ≡ l.item_bytes → ⊥) → ⊥
nothing_after l o b q k (malformed within not kind) above some = omega (arith, within, above)
nothing_after l o b q k (deep within begins not) above some = omega (arith, within, above)
nothing_after l o b q k (long within (inl e)) above some = some e
nothing_after l o b q k (long within (inr e)) above some = omega (arith, e.0, above)

-- nothing in sight or just after it is wrong, where the item has not all its bytes
pub clear_end : (l : Bounds) (o : ℕ) (b : List ℕ) → IsClearBefore l o b (length b) → (length b ≡ l.item_bytes → ⊥) → IsClearBefore l o b (suc (length b))
clear_end l o b clear some q k h s =
    elim (cases_lt q (length b)) [
      | inl below ↦ clear q k below s
      | inr above ↦
          let at : q ≡ length b = omega (arith, h, above) in
          nothing_after l o b q k s above (λ e. some (sym at ∙ e))
    ]
