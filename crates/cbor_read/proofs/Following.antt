-- What the item in work tells of the bytes.
use Rattle.std.proofs.Common.{◌≡◌, ◌≢◌, ℕ, zero, suc, ◌+◌, ◌-◌, ◌<◌, ◌≤◌, ◌^◌, ◌/◌, ◌%◌, ◌==◌, min, inl, inr, List, [], ◌∷◌, ◌++◌, length, get_or, take, drop, Option, Some, None, option_and_then, refl, sym, ap, ◌∙◌, subst, arith, append-nil, length-append, length-take}
use Rattle.std.proofs.lemmas.List.{take_all, take-take, get_or-take}
use Rattle.std.proofs.lemmas.Bool.{cases_lt}
use Rattle.lists.proofs.Lemmas.{tested}
use Rattle.cbor_data.specs.Value.{Value, AreBytes}
use Rattle.cbor_data.specs.Faults.{Bounds, last_offset, IsFaultOf}
use Rattle.cbor_data.specs.declared.FaultKind.{FaultKind}
use Rattle.cbor_data.specs.declared.FaultKind.TheVariants.{BadText, TooDeep, TooLong, Truncated}
use Rattle.cbor_data.specs.Machine.Machine.{State, item, argument, body, chunk, chunk_argument, chunk_body, simple, done, step, step_in, steps_in, refused_kind}
use Rattle.cbor_data.specs.Machine.Reads.{LeadsWithin, Reads}
use Rattle.cbor_data.proofs.OfMachine.Lemmas.{steps_in-append, tell_form, tell_deep, tell_long, tell_end, tell_long_end}
use Rattle.read_building.specs.Building as building
use Rattle.read_building.specs.Builds.{Builds, Notes}
use Rattle.read_building.specs.Progress.{state_in}
use Rattle.read_building.specs.Working.{IsInWork, IsBuilt, IsBadEnd, IsTaken}
use Rattle.read_building.specs.declared.work.Step.{Step}
use Rattle.read_building.specs.declared.work.Step.TheVariants as steps
use Rattle.item_nodes.specs.View.{view}
use Rattle.item_nodes.specs.declared.item.Item.{Item}
use Rattle.read_building.specs.Working as working
use Rattle.read_building.specs.declared.work.Work.{Work}
use Rattle.read_building.proofs.Lemmas.{builds_leads, notes_leads, built, work_leads}
use Rattle.cbor_read.specs.Steps.{IsFull, IsBegun, IsKept, IsOpen, IsOfForm, IsToldPast, IsEnded, kind_past_of}
use Rattle.cbor_read.proofs.Pieces.{bytes_small, cut_at, front_length}
use Rattle.cbor_read.specs.Outcomes.{IsValueOf, IsWrong}
use Rattle.cbor_read.specs.declared.fault.Fault as declared
use Rattle.cbor_read.proofs.Valued.{sound_but_keys, text_told}

-- the item ended with byte `used` of the piece, and whatever follows, this fault of it is told
pub record IsMisread (l : Bounds) (o : ℕ) (seen piece : List ℕ) (used : ℕ) (fault : declared.Fault) : Type 0 where
  pub within : used ≤ length piece
  pub reads : Reads l o (seen ++ take used piece) done
  pub wrong : IsWrong l o (seen ++ take used piece) fault

-- whatever follows, this fault is told, of the byte after `used` others of the piece
pub record IsHalted (l : Bounds) (o : ℕ) (seen piece : List ℕ) (used : ℕ) (fault : declared.Fault) : Type 0 where
  pub within : used < length piece
  pub form : IsOfForm fault.kind
  pub told : (more : List ℕ) → IsFaultOf l o ((seen ++ piece) ++ more) fault.kind fault.at
  pub place : fault.at ≡ o + length (seen ++ take used piece)

-- so many bytes have room after b
pub record HasRoom (l : Bounds) (o : ℕ) (b : List ℕ) (room : ℕ) : Type 0 where
  pub short : length b + room ≤ l.item_bytes
  pub placed : o + (length b + room) ≤ last_offset

pub has_room : (l : Bounds) (o : ℕ) (b : List ℕ) (w : Work) (room : ℕ) → IsBegun l o b w → room ≡ min (l.item_bytes - length b) (2 ^ 64 - 1 - (o + length b)) → HasRoom l o b room
has_room l o b w room k e = let short : length b ≤ l.item_bytes = k.short in let placed : o + length b ≤ last_offset = k.placed in record { short = omega arith; placed = omega arith }

-- and no more
full : (l : Bounds) (o : ℕ) (b c : List ℕ) (w : Work) (room : ℕ) → IsBegun l o b w → room ≡ min (l.item_bytes - length b) (2 ^ 64 - 1 - (o + length b)) → length c ≡ length b + room → IsFull l o c
full l o b c w room k e len =
    let short : length b ≤ l.item_bytes = k.short in
    let placed : o + length b ≤ last_offset = k.placed in
    elim (cases_lt (l.item_bytes - length b) (2 ^ 64 - 1 - (o + length b))) [
      | inl below ↦ inl (omega arith)
      | inr above ↦ inr (omega arith)
    ]

-- a byte that has room has an offset
pub inside_room : (l : Bounds) (o n : ℕ) (piece : List ℕ) (room used : ℕ) → o + n < 2 ^ 64 → room ≡ min (l.item_bytes - n) (2 ^ 64 - 1 - (o + n)) → used < length (take room piece) → o + n + used < 2 ^ 64
inside_room l o n piece room used placed e within = let len : length (take room piece) ≡ min room (length piece) = length-take room piece in omega arith

-- where the form of what is in work is
pub record IsReadTo (l : Bounds) (o : ℕ) (b : List ℕ) : Type 0 where
  pub state : State
  pub live : state ≢ done
  pub reads : Reads l o b state

pub reads_begun : (l : Bounds) (o : ℕ) (b : List ℕ) (w : Work) → IsBegun l o b w → IsReadTo l o b
reads_begun l o b w k = let r = work_leads l.depth o b w k.work in record { state = r.0; live = r.1; reads = record { leads = r.2; short = k.short; placed = k.placed } }

reads_front : (l : Bounds) (o : ℕ) (b piece : List ℕ) (room n : ℕ) (t : State) → HasRoom l o b room → n ≤ room → n ≤ length piece → LeadsWithin l.depth (b ++ take n (take room piece)) t → Reads l o (b ++ take n piece) t
reads_front l o b piece room n t h few within leads =
    let len : length (b ++ take n piece) ≡ length b + n = front_length b piece n within in
    let short : length b + room ≤ l.item_bytes = h.short in
    let placed : o + (length b + room) ≤ last_offset = h.placed in
    record {
      leads = subst (λ c. LeadsWithin l.depth (b ++ c) t) (take-take n room piece few) leads;
      short = omega arith;
      placed = omega arith;
    }

-- the whole piece has room
pub goes_on : (l : Bounds) (o : ℕ) (b piece : List ℕ) (room : ℕ) (v : Work) → HasRoom l o b room → length piece ≤ room → IsInWork l.depth o (b ++ take room piece) v → IsBegun l o (b ++ piece) v
goes_on l o b piece room v h few k =
    let len : length (b ++ piece) ≡ length b + length piece = length-append b piece in
    let short : length b + room ≤ l.item_bytes = h.short in
    let placed : o + (length b + room) ≤ last_offset = h.placed in
    record { work = subst (λ c. IsInWork l.depth o (b ++ c) v) (take_all room piece few) k; short = omega arith; placed = omega arith }

pub ends : (l : Bounds) (o : ℕ) (b piece : List ℕ) (room used : ℕ) (x : Value) (v : Work) → HasRoom l o b room → l.depth ≤ 256 → IsBuilt l.depth o b (take room piece) used x (state_in v.builder) v.form v.noted → IsEnded l o b piece used x v
ends l o b piece room used x v h shallow k =
    let len : length (take room piece) ≡ min room (length piece) = length-take room piece in
    let within : used ≤ length (take room piece) = k.within in
    let few : used ≤ room = omega arith in
    let front : List ℕ = b ++ take used piece in
    let builds : Builds l.depth o front (building.done x) = subst (λ c. Builds l.depth o (b ++ c) (building.done x)) (take-take used room piece few) k.builds in
    let value : IsValueOf front x = record { means = built l.depth o front x builds } in
    let reads : Reads l o front done = reads_front l o b piece room used done h few (omega arith) (builds_leads l.depth o (b ++ take used (take room piece)) (building.done x) k.builds) in
    record {
      some = k.some;
      within = omega arith;
      reads = reads;
      value = value;
      sound = sound_but_keys l o front x reads shallow value;
      next = k.next;
    }

pub misread : (l : Bounds) (o : ℕ) (b piece : List ℕ) (room used place : ℕ) → HasRoom l o b room → IsBadEnd l.depth o b (take room piece) used place → IsMisread l o b piece used (record { at = place; kind = BadText })
misread l o b piece room used place h k =
    let len : length (take room piece) ≡ min room (length piece) = length-take room piece in
    let within : used ≤ length (take room piece) = k.within in
    let few : used ≤ room = omega arith in
    let reads : Reads l o (b ++ take used piece) done = reads_front l o b piece room used done h few (omega arith) (notes_leads l.depth o (b ++ take used (take room piece)) done place k.notes) in
    record {
      within = omega arith;
      reads = reads;
      wrong = text_told l o (b ++ take used piece) place reads (subst (λ c. Notes l.depth o (b ++ c) done place) (take-take used room piece few) k.notes);
    }

-- one byte more, refused by its form
form_told : (l : Bounds) (o : ℕ) (b more : List ℕ) (s : State) (x : ℕ) (kind : FaultKind) → Reads l o b s → s ≢ done → x < 256 → step s x ≡ None → refused_kind s x ≡ kind → IsFaultOf l o (b ++ x ∷ more) kind (o + length b)
form_told l o b more s x kind r live small e is = subst (λ k. IsFaultOf l o (b ++ x ∷ more) k (o + length b)) is (tell_form l o b more s x r live small e)

-- whatever the machine refuses is told of a byte
refused_of_form : (s : State) (x : ℕ) → IsOfForm (refused_kind s x)
refused_of_form (item around) x = elim (tested (x % 32 == 31)) [
  | inl last ↦ elim (tested (x / 32 == 7)) [
    | inl major ↦ rw (last, major) tt
    | inr other ↦ rw (last, other) tt
  ]
  | inr before ↦ rw before tt
]
refused_of_form (chunk major around) x = elim (tested (x / 32 == major)) [
  | inl same ↦ elim (tested (x % 32 == 31)) [
    | inl last ↦ rw (same, last) tt
    | inr before ↦ rw (same, before) tt
  ]
  | inr other ↦ rw other tt
]
refused_of_form (argument major left number around) x = tt
refused_of_form (body left around) x = tt
refused_of_form (chunk_argument major left number around) x = tt
refused_of_form (chunk_body major left around) x = tt
refused_of_form (simple around) x = tt
refused_of_form done x = tt

pub refused : (l : Bounds) (o : ℕ) (b piece : List ℕ) (room used : ℕ) (kind : FaultKind) → HasRoom l o b room → AreBytes piece → working.IsStopped l.depth b (take room piece) used kind → IsHalted l o b piece used (record { at = (o + length b) + used; kind = kind })
refused l o b piece room used kind h bytes w =
    let len : length (take room piece) ≡ min room (length piece) = length-take room piece in
    let within : used < length (take room piece) = w.within in
    let inside : used < room = omega arith in
    let few : used ≤ room = omega arith in
    let t : State = w.state in
    let x : ℕ = get_or piece used 0 in
    let byte : get_or (take room piece) used 0 ≡ x = get_or-take room piece used 0 inside in
    let front : List ℕ = b ++ take used piece in
    let read = reads_front l o b piece room used t h few (omega arith) w.leads in
    let here : o + length front ≡ (o + length b) + used = omega (arith, front_length b piece used (omega arith)) in
    record {
      within = omega arith;
      form = subst IsOfForm w.kind_is (refused_of_form t (get_or (take room piece) used 0));
      told = λ more.
          subst (λ a. IsFaultOf l o ((b ++ piece) ++ more) kind a) here
          (subst (λ c. IsFaultOf l o c kind (o + length front)) (cut_at b piece more used (omega arith))
          (form_told l o front (drop (used + 1) piece ++ more) t x kind read w.live (bytes_small piece bytes used) (ap (step t) (sym byte) ∙ w.refused) (ap (refused_kind t) (sym byte) ∙ w.kind_is)));
      place = sym here;
    }

pub too_deep_there : (l : Bounds) (o : ℕ) (b piece : List ℕ) (room used : ℕ) → HasRoom l o b room → AreBytes piece → working.IsFull l.depth b (take room piece) used → IsHalted l o b piece used (record { at = (o + length b) + used; kind = TooDeep })
too_deep_there l o b piece room used h bytes w =
    let len : length (take room piece) ≡ min room (length piece) = length-take room piece in
    let within : used < length (take room piece) = w.within in
    let inside : used < room = omega arith in
    let few : used ≤ room = omega arith in
    let t : State = w.state in
    let x : ℕ = get_or piece used 0 in
    let byte : get_or (take room piece) used 0 ≡ x = get_or-take room piece used 0 inside in
    let front : List ℕ = b ++ take used piece in
    let read = reads_front l o b piece room used t h few (omega arith) w.leads in
    let here : o + length front ≡ (o + length b) + used = omega (arith, front_length b piece used (omega arith)) in
    record {
      within = omega arith;
      form = tt;
      told = λ more.
          subst (λ a. IsFaultOf l o ((b ++ piece) ++ more) TooDeep a) here
          (subst (λ c. IsFaultOf l o c TooDeep (o + length front)) (cut_at b piece more used (omega arith))
          (tell_deep l o front (drop (used + 1) piece ++ more) t w.else_on.0 x read w.live (bytes_small piece bytes used) (ap (step t) (sym byte) ∙ w.else_on.1) (ap (step_in l.depth t) (sym byte) ∙ w.stops)));
      place = sym here;
    }

-- a byte that has no room

one_step : (d : ℕ) (s t : State) (x : ℕ) → steps_in d s (x ∷ []) ≡ Some t → step_in d s x ≡ Some t
one_step d s t x e = sym (last (step_in d s x)) ∙ e
  where
    last : (o : Option State) → option_and_then (λ u. steps_in d u []) o ≡ o
    last None = refl
    last (Some u) = refl

-- the machine gets along it
pub past_on : (l : Bounds) (o : ℕ) (b byte : List ℕ) (w : Work) (t : State) → IsBegun l o b w → length byte ≡ 1 → AreBytes byte → LeadsWithin l.depth (b ++ byte) t → IsToldPast l o b byte TooLong
past_on l o b (x ∷ []) w t k one bytes leads =
    let r = reads_begun l o b w k in
    let s : State = r.state in
    let c : List ℕ = x ∷ [] in
    let on : steps_in l.depth s c ≡ Some t = sym (ap (option_and_then (λ u. steps_in l.depth u c)) r.reads.leads.is) ∙ (sym (steps_in-append l.depth (item []) b c) ∙ leads.is) in
    record { form = tt; told = λ more why. tell_long l o b more s t x r.reads r.live bytes.0 (one_step l.depth s t x on) why }
past_on l o b [] w t k one bytes leads = absurd (omega arith)
past_on l o b (x ∷ y ∷ r) w t k one bytes leads = absurd (omega arith)

past_more : (l : Bounds) (o : ℕ) (b byte : List ℕ) (w v : Work) → IsBegun l o b w → length byte ≡ 1 → AreBytes byte → IsInWork l.depth o (b ++ byte) v → IsToldPast l o b byte TooLong
past_more l o b byte w v k one bytes h = let r = work_leads l.depth o (b ++ byte) v h in past_on l o b byte w r.0 k one bytes r.2

-- the item ends with it
past_end : (l : Bounds) (o : ℕ) (b byte : List ℕ) (w : Work) (used : ℕ) → IsBegun l o b w → length byte ≡ 1 → AreBytes byte → 0 < used → LeadsWithin l.depth (b ++ take used byte) done → IsToldPast l o b byte TooLong
past_end l o b byte w used k one bytes some leads = past_on l o b byte w done k one bytes (subst (λ c. LeadsWithin l.depth (b ++ c) done) (take_all used byte (omega arith)) leads)

past_item : (l : Bounds) (o : ℕ) (b byte : List ℕ) (w v : Work) (used : ℕ) (x : Item) → IsBegun l o b w → length byte ≡ 1 → AreBytes byte → IsTaken l.depth o b byte (steps.Item used x) v → IsToldPast l o b byte TooLong
past_item l o b byte w v used x k one bytes h = past_end l o b byte w used k one bytes h.some (builds_leads l.depth o (b ++ take used byte) (building.done (view x)) h.builds)

past_bad : (l : Bounds) (o : ℕ) (b byte : List ℕ) (w v : Work) (used place : ℕ) → IsBegun l o b w → length byte ≡ 1 → AreBytes byte → IsTaken l.depth o b byte (steps.BadText used place) v → IsToldPast l o b byte TooLong
past_bad l o b byte w v used place k one bytes h = past_end l o b byte w used k one bytes h.some (notes_leads l.depth o (b ++ take used byte) done place h.notes)

-- what was read to is read to, where a list of no bytes follows
read_to : (l : Bounds) (o : ℕ) (b : List ℕ) (w : Work) (s : State) → IsBegun l o b w → LeadsWithin l.depth (b ++ []) s → Reads l o b s
read_to l o b w s k leads = record { leads = subst (λ c. LeadsWithin l.depth c s) (append-nil b) leads; short = k.short; placed = k.placed }

past_refused : (l : Bounds) (o : ℕ) (b byte : List ℕ) (w : Work) (used : ℕ) (kind : FaultKind) → IsBegun l o b w → length byte ≡ 1 → AreBytes byte → working.IsStopped l.depth b byte used kind → IsToldPast l o b byte kind
past_refused l o b (x ∷ []) w zero kind k one bytes h = record {
  form = subst IsOfForm h.kind_is (refused_of_form h.state x);
  told = λ more why. form_told l o b more h.state x kind (read_to l o b w h.state k h.leads) h.live bytes.0 h.refused h.kind_is;
}
past_refused l o b (x ∷ []) w (suc n) kind k one bytes h = absurd (let within : suc n < 1 = h.within in omega arith)
past_refused l o b [] w used kind k one bytes h = absurd (omega arith)
past_refused l o b (x ∷ y ∷ r) w used kind k one bytes h = absurd (omega arith)

past_deep : (l : Bounds) (o : ℕ) (b byte : List ℕ) (w : Work) (used : ℕ) → IsBegun l o b w → length byte ≡ 1 → AreBytes byte → working.IsFull l.depth b byte used → IsToldPast l o b byte TooDeep
past_deep l o b (x ∷ []) w zero k one bytes h = record {
  form = tt;
  told = λ more why. tell_deep l o b more h.state h.else_on.0 x (read_to l o b w h.state k h.leads) h.live bytes.0 h.else_on.1 h.stops;
}
past_deep l o b (x ∷ []) w (suc n) k one bytes h = absurd (let within : suc n < 1 = h.within in omega arith)
past_deep l o b [] w used k one bytes h = absurd (omega arith)
past_deep l o b (x ∷ y ∷ r) w used k one bytes h = absurd (omega arith)

pub past_told : (l : Bounds) (o : ℕ) (b byte : List ℕ) (w v : Work) (step : Step) → IsBegun l o b w → length byte ≡ 1 → AreBytes byte → IsTaken l.depth o b byte step v → IsToldPast l o b byte (kind_past_of step)
past_told l o b byte w v steps.More k one bytes h = past_more l o b byte w v k one bytes h
past_told l o b byte w v (steps.Item used x) k one bytes h = past_item l o b byte w v used x k one bytes h
past_told l o b byte w v (steps.BadText used place) k one bytes h = past_bad l o b byte w v used place k one bytes h
past_told l o b byte w v (steps.Refused used kind) k one bytes h = past_refused l o b byte w used kind k one bytes h
past_told l o b byte w v (steps.TooDeep used) k one bytes h = past_deep l o b byte w used k one bytes h

-- the bytes that had room are begun
pub begun_past : (l : Bounds) (o : ℕ) (b piece : List ℕ) (room : ℕ) (v : Work) → HasRoom l o b room → room < length piece → IsInWork l.depth o (b ++ take room piece) v → IsBegun l o (b ++ take room piece) v
begun_past l o b piece room v h within k =
    let len : length (b ++ take room piece) ≡ length b + room = front_length b piece room (omega arith) in
    let short : length b + room ≤ l.item_bytes = h.short in
    let placed : o + (length b + room) ≤ last_offset = h.placed in
    record { work = k; short = omega arith; placed = omega arith }

pub past_room : (l : Bounds) (o : ℕ) (b piece : List ℕ) (room : ℕ) (w : Work) (byte : List ℕ) (k : FaultKind) → IsBegun l o b w → room ≡ min (l.item_bytes - length b) (2 ^ 64 - 1 - (o + length b)) → room < length piece →
    byte ≡ get_or piece room 0 ∷ [] → IsToldPast l o (b ++ take room piece) byte k → IsHalted l o b piece room (record { at = (o + length b) + room; kind = k })
past_room l o b piece room w byte k begun e within is past =
    let front : List ℕ = b ++ take room piece in
    let len : length front ≡ length b + room = front_length b piece room (omega arith) in
    let here : o + length front ≡ (o + length b) + room = omega arith in
    record {
      within = within;
      form = past.form;
      told = λ more.
          subst (λ a. IsFaultOf l o ((b ++ piece) ++ more) k a) here
          (subst (λ c. IsFaultOf l o c k (o + length front)) (ap (λ y. front ++ (y ++ (drop (room + 1) piece ++ more))) is ∙ cut_at b piece more room within)
          (past.told (drop (room + 1) piece ++ more) (full l o b front w room begun e len)));
      place = sym here;
    }

-- the end of the bytes

pub open_end : (l : Bounds) (o : ℕ) (b : List ℕ) (w : Work) → IsBegun l o b w → b ≢ [] → IsOpen l o b
open_end l o b w k some = let r = reads_begun l o b w k in record { state = r.state; reads = r.reads; live = r.live; some = some }

pub full_end : (l : Bounds) (o : ℕ) (b : List ℕ) → IsOpen l o b → length b ≡ l.item_bytes → IsFaultOf l o b TooLong (o + length b)
full_end l o b h e = tell_long_end l o b h.state h.reads h.live e

pub cut_end : (l : Bounds) (o : ℕ) (b : List ℕ) → IsOpen l o b → length b ≢ l.item_bytes → IsFaultOf l o b Truncated (o + length b)
cut_end l o b h few = let short : length b ≤ l.item_bytes = h.reads.short in tell_end l o b h.state h.reads h.live h.some (omega arith)

-- what is said of a piece's front, at any offset, is said of the item in work
pub taken_front : (l : Bounds) (o : ℕ) (b : List ℕ) (count : ℕ) (piece : List ℕ) (room d at : ℕ) (front : List ℕ) (step : Step) (w v : Work) → IsKept l o b count w → d ≡ l.depth → front ≡ take room piece → at ≡ o + count →
    ((p : ℕ) (fed : List ℕ) → at ≡ p + length fed → IsInWork d p fed w → IsTaken d p fed front step v) → IsTaken l.depth o b (take room piece) step v
taken_front l o b count piece room d at front step w v k deep is here f =
    subst (λ c. IsTaken l.depth o b c step v) is (subst (λ e. IsTaken e o b front step v) deep (f o b (here ∙ ap (λ n. o + n) k.same) (subst (λ e. IsInWork e o b w) (sym deep) k.begun.work)))

-- the same of a byte past them
pub taken_past : (l : Bounds) (o : ℕ) (b byte : List ℕ) (d at : ℕ) (step : Step) (w v : Work) → d ≡ l.depth → at ≡ o + length b → IsBegun l o b w →
    ((p : ℕ) (fed : List ℕ) → at ≡ p + length fed → IsInWork d p fed w → IsTaken d p fed byte step v) → IsTaken l.depth o b byte step v
taken_past l o b byte d at step w v deep here k f = subst (λ e. IsTaken e o b byte step v) deep (f o b here (subst (λ e. IsInWork e o b w) (sym deep) k.work))

-- what so many bytes have as room
pub room_is : (l : Bounds) (o : ℕ) (b : List ℕ) (count room : ℕ) (w : Work) → IsKept l o b count w → room ≡ min (l.item_bytes - count) (2 ^ 64 - 1 - (o + count)) → room ≡ min (l.item_bytes - length b) (2 ^ 64 - 1 - (o + length b))
room_is l o b count room w k e = subst (λ n. room ≡ min (l.item_bytes - n) (2 ^ 64 - 1 - (o + n))) k.same e

-- the place, by the number of the bytes
pub halted_at : (l : Bounds) (o : ℕ) (b : List ℕ) (count : ℕ) (piece : List ℕ) (used : ℕ) (kind : FaultKind) → count ≡ length b → IsHalted l o b piece used (record { at = (o + length b) + used; kind = kind }) → IsHalted l o b piece used (record { at = (o + count) + used; kind = kind })
halted_at l o b count piece used kind same h = subst (λ n. IsHalted l o b piece used (record { at = (o + n) + used; kind = kind })) (sym same) h
