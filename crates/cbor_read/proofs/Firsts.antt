-- What the first bytes tell of the items that bytes hold.
use Rattle.std.proofs.Common.{◌≡◌, ◌≢◌, ℕ, ◌+◌, ◌<◌, ◌≤◌, ◌^◌, ◌&&◌, List, [], ◌∷◌, ◌++◌, length, get_or, take, drop, nat_le, Option, Some, None, option_and_then, inl, inr, refl, sym, ap, ◌∙◌, subst, arith, append-nil, length-take}
use Rattle.std.proofs.lemmas.List.{take-append-drop, drop_more}
use Rattle.lists.proofs.Lemmas.{tested}
use Rattle.cbor_data.specs.Value.{Value}
use Rattle.cbor_data.specs.Validity.{IsValid}
use Rattle.cbor_data.specs.Forms.{Form, flat, HasText, meaning, IsWellFormed, Spells}
use Rattle.cbor_data.specs.Faults.{Bounds, IsFormFaultAt, malformed, IsWholeFront, IsFaultOf, of_form, of_end, of_text, of_key}
use Rattle.cbor_data.specs.Embedded.{Embeds}
use Rattle.cbor_data.specs.declared.FaultKind.{FaultKind}
use Rattle.cbor_data.specs.declared.FaultKind.TheVariants.{BadText, DuplicateKey}
use Rattle.cbor_data.proofs.Lemmas.{good_text, one_form, unique_front}
use Rattle.cbor_data.specs.Machine.Machine.{State, item, argument, body, chunk, chunk_argument, chunk_body, simple, done, step, step_in, steps_in, opens_container}
use Rattle.cbor_data.specs.Machine.Reads.{LeadsWithin, Reads}
use Rattle.cbor_data.proofs.OfMachine.Lemmas.{embedded_read, whole}
use Rattle.item_nodes.specs.declared.item.Item.{Item}
use Rattle.read_building.specs.Building as building
use Rattle.read_building.specs.Working.{IsBuilt, IsTaken}
use Rattle.read_building.specs.declared.work.Step.{Step}
use Rattle.read_building.specs.declared.work.Step.TheVariants as steps
use Rattle.read_building.specs.declared.work.Work.{Work}
use Rattle.read_building.proofs.Lemmas.{builds_leads, notes_leads, built, work_leads}
use Rattle.cbor_read.specs.Firsts.{BeginsNone, IsFirstItem}
use Rattle.cbor_read.proofs.Valued.{text_told}
use Rattle.cbor_read.specs.Outcomes.{IsOutcome, IsOfValue, IsValueOf, IsWrong}
use Rattle.cbor_read.specs.declared.fault.Fault as declared
use Rattle.cbor_read.specs.declared.value.Outcome.TheVariants as outcome

-- the machine does not go on along these bytes
abbrev pub Stops : ℕ → State → List ℕ → Type 0
Stops d t [] = Unit {0}
Stops d t (x ∷ q) = step_in d t x ≡ None

stuck_on : (d : ℕ) (t : State) (p front : List ℕ) (o : Option State) → option_and_then (λ u. steps_in d u p) o ≡ Some t → option_and_then (λ u. steps_in d u front) o ≡ Some done →
    ((u : State) → steps_in d u p ≡ Some t → steps_in d u front ≡ Some done → ⊥) → ⊥
stuck_on d t p front None e f on = absurd (cc)
stuck_on d t p front (Some u) e f on = on u e f

-- where it stops before it is done, it has not been done before
stuck : (d : ℕ) (s t : State) (p q front back : List ℕ) → steps_in d s p ≡ Some t → t ≢ done → Stops d t q → p ++ q ≡ front ++ back → steps_in d s front ≡ Some done → ⊥
stuck d s t [] q [] back e live stops same f = live (cc)
stuck d s t [] [] (y ∷ front) back e live stops same f = cc
stuck d s t [] (x ∷ q) (y ∷ front) back e live stops same f =
    let is : s ≡ t = cc in
    let first : x ≡ y = cc in
    let none : step_in d s y ≡ None = subst (λ z. step_in d s z ≡ None) first (subst (λ u. step_in d u x ≡ None) (sym is) stops) in
    let never : None ≡ Some done = sym (ap (option_and_then (λ u. steps_in d u front)) none) ∙ f in
    absurd (cc)
stuck d s t (x ∷ p) q [] back e live stops same f =
    let is : s ≡ done = cc in
    let never : None ≡ Some t = subst (λ u. steps_in d u (x ∷ p) ≡ Some t) is e in
    absurd (cc)
stuck d s t (x ∷ p) q (y ∷ front) back e live stops same f =
    let first : x ≡ y = cc in
    let rest : p ++ q ≡ front ++ back = cc in
    let also : option_and_then (λ u. steps_in d u front) (step_in d s x) ≡ Some done = subst (λ z. option_and_then (λ u. steps_in d u front) (step_in d s z) ≡ Some done) (sym first) f in
    stuck_on d t p front (step_in d s x) e also (λ u g h. stuck d u t p q front back g live stops rest h)

-- no item begins the bytes of which these are the first, where the machine stops after them
stuck_none : (b p q : List ℕ) (t : State) → b ≡ p ++ q → steps_in 256 (item []) p ≡ Some t → t ≢ done → Stops 256 t q → BeginsNone b
stuck_none b p q t parts e live stops = λ x front back is h. stuck 256 (item []) t p q front back e live stops (sym parts ∙ is) (embedded_read front x h)

-- the bound only keeps the machine from more
still_refused : (d : ℕ) (s : State) (x : ℕ) → step s x ≡ None → step_in d s x ≡ None
still_refused d (item around) x e = elim (tested (opens_container x && nat_le d (length around))) [
  | inl t ↦ rw t refl
  | inr t ↦ rw t e
]
still_refused d (argument major left number around) x e = e
still_refused d (body left around) x e = e
still_refused d (chunk major around) x e = e
still_refused d (chunk_argument major left number around) x e = e
still_refused d (chunk_body major left around) x e = e
still_refused d (simple around) x e = e
still_refused d done x e = e

halted_none : (b : List ℕ) (used : ℕ) (t : State) → used < length b → steps_in 256 (item []) (take used b) ≡ Some t → t ≢ done → step_in 256 t (get_or b used 0) ≡ None → BeginsNone b
halted_none b used t within e live none =
    stuck_none b (take used b) (get_or b used 0 ∷ drop (used + 1) b) t (sym (take-append-drop used b) ∙ ap (λ d. take used b ++ d) (drop_more b used 0 within)) e live none

-- limits within which bytes of this number are
abbrev pub enough : ℕ → Bounds
enough count = record { depth = 256; item_bytes = count }

reads_front : (b : List ℕ) (used : ℕ) → length b < 2 ^ 64 → used ≤ length b → LeadsWithin 256 (take used b) done → Reads (enough used) 0 (take used b) done
reads_front b used few within leads =
    let len : length (take used b) ≡ used = omega (arith, length-take used b, within) in
    record { leads = leads; short = omega arith; placed = omega arith }

pub reads_first : (b : List ℕ) (used : ℕ) (x : Value) (s : building.State) (m : State) (noted : Option ℕ) → length b < 2 ^ 64 → IsBuilt 256 0 [] b used x s m noted → Reads (enough used) 0 (take used b) done
reads_first b used x s m noted few h = reads_front b used few h.within (builds_leads 256 0 (take used b) (building.done x) h.builds)

pub value_first : (b : List ℕ) (used : ℕ) (x : Value) (s : building.State) (m : State) (noted : Option ℕ) → IsBuilt 256 0 [] b used x s m noted → IsValueOf (take used b) x
value_first b used x s m noted h = record { means = built 256 0 (take used b) x h.builds }

pub item_first : (b : List ℕ) (used : ℕ) (x : Value) → 0 < used → used ≤ length b → IsOutcome (enough used) 0 (take used b) (outcome.Item x) → IsFirstItem b used x
item_first b used x some within is = record { some = some; within = within; item = record { spells = is.spells; valid = is.valid; shallow = is.shallow } }

form_fault : (l : Bounds) (o : ℕ) (b : List ℕ) (p : ℕ) (k : FaultKind) → IsFormFaultAt l o b p k → IsOfValue k → ⊥
form_fault l o b p BadText (malformed within not kind) v = kind
form_fault l o b p DuplicateKey (malformed within not kind) v = kind
form_fault l o b p _ _ v = v

same_form : (l : Bounds) (o n : ℕ) (x : Value) (b back : List ℕ) (f : Form) → IsWholeFront l o (b ++ back) n f → (h : Embeds b x) → f ≡ h.spells.written
same_form l o n x b back f w h =
    let same : flat f ++ drop n (b ++ back) ≡ flat h.spells.written ++ back =
    ap (λ a. a ++ drop n (b ++ back)) (sym w.is) ∙ (take-append-drop n (b ++ back) ∙ ap (λ a. a ++ back) h.spells.is) in
    (one_form f h.spells.written (drop n (b ++ back)) back w.ok h.spells.ok same).0

-- what is wrong with a whole item's value keeps its bytes from being embedded
wrong : (l : Bounds) (o : ℕ) (b : List ℕ) (k : FaultKind) (at : ℕ) (x : Value) (back : List ℕ) → IsFaultOf l o (b ++ back) k at → IsOfValue k → Embeds b x → ⊥
wrong l o b k at x back (of_form p within unfinished fault clear is) v h = form_fault l o (b ++ back) p k fault v
wrong l o b k at x back (of_end some unfinished clear is) v h = v
wrong l o b k at x back (of_text n i f whole bad is) v h =
    good_text f i (subst HasText (sym (same_form l o n x b back f whole h)) h.spells.text) bad
wrong l o b k at x back (of_key n f whole text repeated) v h =
    let valid : IsValid (meaning f) = subst IsValid (h.spells.meant ∙ ap meaning (sym (same_form l o n x b back f whole h))) h.valid in
    valid at repeated.repeated

written : {x : Value} {b : List ℕ} → Spells x b → IsWellFormed b
written s = record { written = s.written; ok = s.ok; is = s.is }

pub wrong_first : (b : List ℕ) (used : ℕ) (fault : declared.Fault) → IsWellFormed (take used b) → IsWrong (enough used) 0 (take used b) fault → BeginsNone b
wrong_first b used fault w h = λ x front back is e.
    let front_is : take used b ≡ front = (unique_front (take used b) (drop used b) front back w (written e.spells) (take-append-drop used b ∙ is)).0 in
    wrong (enough used) 0 (take used b) fault.kind fault.at x [] (h.told []) h.value (subst (λ c. Embeds c x) (sym front_is) e)

-- where the first item is not built to its end, there is none
pub none_first : (b : List ℕ) (step : Step) (v : Work) → length b < 2 ^ 64 → IsTaken 256 0 [] b step v → ((used : ℕ) (x : Item) → step ≡ steps.Item used x → ⊥) → BeginsNone b
none_first b steps.More v few h not = let w = work_leads 256 0 b v h in stuck_none b b [] w.0 (sym (append-nil b)) w.2.is w.1 tt
none_first b (steps.Item used x) v few h not = absurd (not used x refl)
none_first b (steps.BadText used place) v few h not =
    let reads : Reads (enough used) 0 (take used b) done = reads_front b used few h.within (notes_leads 256 0 (take used b) done place h.notes) in
    wrong_first b used (record { at = place; kind = BadText }) (whole (enough used) 0 (take used b) reads) (text_told (enough used) 0 (take used b) place reads h.notes)
none_first b (steps.Refused used kind) v few h not = halted_none b used h.state h.within h.leads.is h.live (still_refused 256 h.state (get_or b used 0) h.refused)
none_first b (steps.TooDeep used) v few h not = halted_none b used h.state h.within h.leads.is h.live h.stops
