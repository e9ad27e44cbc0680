-- It can be told what bytes hold.
use Rattle.std.proofs.Common.{◌≡◌, ◌≢◌, ℕ, zero, suc, ◌+◌, ◌<◌, ◌≤◌, ◌⊎◌, inl, inr, List, [], ◌∷◌, ◌++◌, length, true, nat_le, Option, Some, None, option_and_then, refl, sym, ap, ◌∙◌, subst, arith, append-nil, length-append}
use Rattle.std.proofs.lemmas.Bool.Decides.{nat_tests}
use Rattle.cbor_data.specs.Value.{Value, Values, no_values, value, depth_of, AreBytes}
use Rattle.cbor_data.specs.Forms.{Form, flat, IsOk, HasText, meaning, IsWellFormed}
use Rattle.cbor_data.specs.Faults.{BeginsWithin}
use Rattle.cbor_data.specs.Embedded.{Embeds, EmbedsAll, none, one_more}
use Rattle.cbor_data.specs.Validity.{IsValid}
use Rattle.cbor_data.proofs.Lemmas.{embedded_after, form_some, one_embedded, one_form, text_told, unique_front, valid_told}
use Rattle.cbor_data.specs.Machine.Machine.{State, item, argument, body, chunk, chunk_argument, chunk_body, simple, done, step_in, steps_in}
use Rattle.cbor_data.specs.Machine.Reads.{LeadsWithin}
use Rattle.cbor_data.proofs.OfMachine.Keeping.{done_whole}
use Rattle.cbor_data.proofs.OfMachine.Shallow.{item_in, leads, leads_begins_within}

-- the bounded machine reads an item's bytes to their end
pub embedded_read : (b : List ℕ) (x : Value) → Embeds b x → steps_in 256 (item []) b ≡ Some done
embedded_read b x h =
    let f : Form = h.spells.written in
    let few : depth_of (meaning f) ≤ 256 = subst (λ y. depth_of y ≤ 256) h.spells.meant h.shallow in
    let t : nat_le (depth_of (meaning f) + 0) 256 ≡ true = grind (arith, nat_tests) in
    ap (steps_in 256 (item [])) (h.spells.is ∙ sym (append-nil (flat f))) ∙ (item_in 256 f [] [] h.spells.ok (omega arith) ∙ rw t refl)

-- the machine is done after the first of these bytes
record Ends (d : ℕ) (s : State) (b : List ℕ) : Type 0 where
  front : List ℕ
  back : List ℕ
  parts : b ≡ front ++ back
  ended : steps_in d s front ≡ Some done

abbrev EndsNowhere : ℕ → State → List ℕ → Type 0
EndsNowhere d s b = (front back : List ℕ) → b ≡ front ++ back → steps_in d s front ≡ Some done → ⊥

done_told : (s : State) → (s ≡ done) ⊎ (s ≢ done)
done_told done = inl refl
done_told (item around) = inr (λ e. cc)
done_told (argument major left number around) = inr (λ e. cc)
done_told (body left around) = inr (λ e. cc)
done_told (chunk major around) = inr (λ e. cc)
done_told (chunk_argument major left number around) = inr (λ e. cc)
done_told (chunk_body major left around) = inr (λ e. cc)
done_told (simple around) = inr (λ e. cc)

-- after the first byte, from what the step leads to
ends_on : (d : ℕ) (s : State) (x : ℕ) (b : List ℕ) (o : Option State) → step_in d s x ≡ o → s ≢ done → ((t : State) → Ends d t b ⊎ EndsNowhere d t b) → Ends d s (x ∷ b) ⊎ EndsNowhere d s (x ∷ b)
ends_on d s x b o is live on = at o is
  where
    nowhere : (front back : List ℕ) → ((front back : List ℕ) → b ≡ front ++ back → steps_in d s (x ∷ front) ≡ Some done → ⊥) → x ∷ b ≡ front ++ back → steps_in d s front ≡ Some done → ⊥
    nowhere [] back not e f = live (cc)
    nowhere (y ∷ front) back not e f =
        let first : x ≡ y = cc in
        not front back (cc) (subst (λ z. steps_in d s (z ∷ front) ≡ Some done) (sym first) f)

    from : (t : State) → step_in d s x ≡ Some t → Ends d t b ⊎ EndsNowhere d t b → Ends d s (x ∷ b) ⊎ EndsNowhere d s (x ∷ b)
    from t e (inl h) = inl (record { front = x ∷ h.front; back = h.back; parts = ap (λ c. x ∷ c) h.parts; ended = ap (option_and_then (λ u. steps_in d u h.front)) e ∙ h.ended })
    from t e (inr not) = inr (λ front back. nowhere front back (λ f k g r. not f k g (sym (ap (option_and_then (λ u. steps_in d u f)) e) ∙ r)))

    at : (o : Option State) → step_in d s x ≡ o → Ends d s (x ∷ b) ⊎ EndsNowhere d s (x ∷ b)
    at (Some t) e = from t e (on t)
    at None e = inr (λ front back. nowhere front back (λ f k g r. let never : None ≡ Some done = sym (ap (option_and_then (λ u. steps_in d u f)) e) ∙ r in absurd (cc)))

ends_at_once : (d : ℕ) (s : State) (b : List ℕ) → s ≡ done → Ends d s b
ends_at_once d s b e = record { front = []; back = b; parts = refl; ended = ap Some e }

done_before : (d : ℕ) (s : State) (front back : List ℕ) → [] ≡ front ++ back → steps_in d s front ≡ Some done → s ≡ done
done_before d s [] back e f = cc
done_before d s (y ∷ front) back e f = absurd (cc)

ends_told : (d : ℕ) (b : List ℕ) (s : State) → Ends d s b ⊎ EndsNowhere d s b
ends_told d [] s = elim (done_told s) [
  | inl e ↦ inl (ends_at_once d s [] e)
  | inr live ↦ inr (λ front back e f. live (done_before d s front back e f))
]
ends_told d (x ∷ b) s = elim (done_told s) [
  | inl e ↦ inl (ends_at_once d s (x ∷ b) e)
  | inr live ↦ ends_on d s x b (step_in d s x) refl live (λ t. ends_told d b t)
]

bytes-front : (a b : List ℕ) → AreBytes (a ++ b) → AreBytes a
bytes-front [] b h = tt
bytes-front (x ∷ a) b h = (h.0, bytes-front a b h.1)

bytes-back : (a b : List ℕ) → AreBytes (a ++ b) → AreBytes b
bytes-back [] b h = h
bytes-back (x ∷ a) b h = bytes-back a b h.1

-- the bytes are a form that is not too deep
record IsFormed (b : List ℕ) : Type 0 where
  written : Form
  ok : IsOk written
  is : b ≡ flat written
  shallow : depth_of (meaning written) ≤ 256

formed : (b : List ℕ) → AreBytes b → steps_in 256 (item []) b ≡ Some done → IsFormed b
formed b are e =
    let read : LeadsWithin 256 b done = record { are = are; is = e } in
    let whole : IsWellFormed b = done_whole b are (leads 256 b done read).is in
    let w : BeginsWithin 256 b = leads_begins_within 256 b done read in
    let other : IsWellFormed (flat w.written) = record { written = w.written; ok = w.ok; is = refl } in
    record {
      written = w.written;
      ok = w.ok;
      is = (unique_front b w.more (flat w.written) [] whole other (w.is ∙ sym (append-nil (flat w.written)))).0;
      shallow = w.shallow;
    }

-- the first item of the bytes
record First (b : List ℕ) : Type 0 where
  front : List ℕ
  back : List ℕ
  first : Value
  parts : b ≡ front ++ back
  held : Embeds front first

abbrev HasNoFirst : List ℕ → Type 0
HasNoFirst b = (x : Value) (front back : List ℕ) → b ≡ front ++ back → Embeds front x → ⊥

same_form : (b : List ℕ) (x : Value) (front back : List ℕ) (h : Ends 256 (item []) b) (f : IsFormed h.front) → b ≡ front ++ back → (k : Embeds front x) → f.written ≡ k.spells.written
same_form b x front back h f e k =
    (one_form f.written k.spells.written h.back back f.ok k.spells.ok (ap (λ a. a ++ h.back) (sym f.is) ∙ (sym h.parts ∙ (e ∙ ap (λ a. a ++ back) k.spells.is)))).0

judged : (b : List ℕ) (h : Ends 256 (item []) b) → IsFormed h.front → First b ⊎ HasNoFirst b
judged b h f = elim (text_told f.written) [
  | inr bad ↦ inr (λ x front back e k. bad (subst HasText (sym (same_form b x front back h f e k)) k.spells.text))
  | inl good ↦ elim (valid_told (meaning f.written)) [
    | inr bad ↦ inr (λ x front back e k. bad (subst IsValid (k.spells.meant ∙ ap meaning (sym (same_form b x front back h f e k))) k.valid))
    | inl valid ↦ inl (record {
      front = h.front;
      back = h.back;
      first = meaning f.written;
      parts = h.parts;
      held = record { spells = record { written = f.written; ok = f.ok; text = good; is = f.is; meant = refl }; valid = valid; shallow = f.shallow };
    })
  ]
]

first_told : (b : List ℕ) → AreBytes b → First b ⊎ HasNoFirst b
first_told b are = elim (ends_told 256 b (item [])) [
  | inl h ↦ judged b h (formed h.front (bytes-front h.front h.back (subst AreBytes h.parts are)) h.ended)
  | inr not ↦ inr (λ x front back e k. not front back e (embedded_read front x k))
]

abbrev Told : List ℕ → Type 0
Told b = ((xs : Values) × EmbedsAll b xs) ⊎ ((xs : Values) → EmbedsAll b xs → ⊥)

no_list : (b : List ℕ) (xs : Values) → b ≢ [] → HasNoFirst b → EmbedsAll b xs → ⊥
no_list b xs some not none = some refl
no_list b xs some not (one_more {b = front} {c = back} {x = x} h t) = not x front back refl h

single : (b : List ℕ) (x : Value) → Embeds b x → EmbedsAll b (value x no_values)
single b x h = subst (λ c. EmbedsAll c (value x no_values)) (append-nil b) (one_more h none)

-- with the first item, what the others are tells what all are
with_first : (b : List ℕ) (f : First b) → Told f.back → Told b
with_first b f (inl (xs, t)) = inl (value f.first xs, subst (λ c. EmbedsAll c (value f.first xs)) (sym f.parts) (one_more f.held t))
with_first b f (inr not) = inr (λ xs h.
    let rest = embedded_after f.front f.back (value f.first no_values) xs (single f.front f.first f.held) (subst (λ c. EmbedsAll c xs) f.parts h) in
    not rest.0 rest.1)

shorter : (b : List ℕ) (f : First b) → length f.back < length b
shorter b f = omega (arith, form_some f.held.spells.written, ap length f.held.spells.is, ap length f.parts, length-append f.front f.back)

from_first : (b : List ℕ) → b ≢ [] → ((c : List ℕ) → length c < length b → AreBytes c → Told c) → AreBytes b → First b ⊎ HasNoFirst b → Told b
from_first b some on are (inl f) = with_first b f (on f.back (shorter b f) (bytes-back f.front f.back (subst AreBytes f.parts are)))
from_first b some on are (inr not) = inr (λ xs h. no_list b xs some not h)

list_told : (n : ℕ) (b : List ℕ) → length b ≤ n → AreBytes b → Told b
list_told n [] few are = inl (no_values, none)
list_told zero (y ∷ b) few are = absurd (omega arith)
list_told (suc n) (y ∷ b) few are = from_first (y ∷ b) (λ e. cc) (λ c less bytes. list_told n c (omega arith) bytes) are (first_told (y ∷ b) are)

-- whether bytes hold a list of items, and which
pub held_told : (b : List ℕ) → AreBytes b → ((xs : Values) × EmbedsAll b xs) ⊎ ((xs : Values) → EmbedsAll b xs → ⊥)
held_told b are = list_told (length b) b (omega arith) are

single_held : {b : List ℕ} {x : Value} → EmbedsAll b (value x no_values) → Embeds b x
single_held {x = x} (one_more {b = b} h none) = subst (λ c. Embeds c x) (sym (append-nil b)) h

one_of : (b : List ℕ) → Told b → ((x : Value) × Embeds b x) ⊎ ((x : Value) → Embeds b x → ⊥)
one_of b (inr not) = inr (λ x h. not (value x no_values) (single b x h))
one_of b (inl (no_values, t)) = inr (λ x h. let e : no_values ≡ value x no_values = one_embedded b no_values (value x no_values) t (single b x h) in cc)
one_of b (inl (value y no_values, t)) = inl (y, single_held t)
one_of b (inl (value y (value z ys), t)) = inr (λ x h. let e : value y (value z ys) ≡ value x no_values = one_embedded b (value y (value z ys)) (value x no_values) t (single b x h) in cc)

-- whether they hold one item, and which
pub item_told : (b : List ℕ) → AreBytes b → ((x : Value) × Embeds b x) ⊎ ((x : Value) → Embeds b x → ⊥)
item_told b are = one_of b (held_told b are)
