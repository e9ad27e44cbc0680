-- What the builder's and the form reader's answers say of all bytes fed.
use Rattle.std.proofs.Common.{◌≡◌, ◌≢◌, ℕ, zero, suc, ◌+◌, ◌-◌, ◌<◌, ◌≤◌, List, [], ◌∷◌, ◌++◌, length, take, drop, get_or, Option, Some, None, sym, ap, ◌∙◌, subst, arith, append_assoc, length-drop}
use Rattle.std.proofs.lemmas.List.{take-append-drop, take_all, get_or-drop}
use Rattle.std.proofs.Math.Seq.{take-add}
use Rattle.cbor_data.specs.Value.{Value, AreBytes}
use Rattle.cbor_data.specs.declared.FaultKind.{FaultKind}
use Rattle.cbor_data.specs.Machine.Machine as machine
use Rattle.cbor_data.specs.Machine.Reads.{LeadsWithin}
use Rattle.read_building.specs.Building.{State, item, argument, string, bits, chunk, chunk_argument, chunk_string, simple_value, done, Text, form_of, form_next}
use Rattle.read_building.specs.Builds.{IsRun, IsBadRun, Builds, Notes}
use Rattle.read_building.specs.Texts.{IsFirstBad}
use Rattle.read_building.specs.Progress as build
use Rattle.read_building.specs.Progress.{IsLive}
use Rattle.read_building.specs.Working.{IsBuilding, IsNoted, IsWork, IsInWork, IsBuilt, IsBadEnd, IsStopped, IsFull}
use Rattle.read_building.specs.declared.work.Work.{Work}
use Rattle.read_building.proofs.Builds.{builds_leads, notes_leads, builds_open, builds_held, notes_open, nothing_built, builds_on, builds_bad, notes_on}
use Rattle.read_building.proofs.Forms.{form_of-step, form_of-step_in}
use Rattle.read_items.specs.Form.Progress as form

pub are_bytes : (xs : List ℕ) → ((i : ℕ) → get_or xs i 0 < 256) → AreBytes xs
are_bytes [] h = tt
are_bytes (x ∷ xs) h = (h 0, are_bytes xs (λ i. h (suc i)))

bytes-take : (n : ℕ) (xs : List ℕ) → AreBytes xs → AreBytes (take n xs)
bytes-take zero xs h = tt
bytes-take (suc n) [] h = tt
bytes-take (suc n) (x ∷ xs) h = (h.0, bytes-take n xs h.1)

bytes-drop : (n : ℕ) (xs : List ℕ) → AreBytes xs → AreBytes (drop n xs)
bytes-drop zero xs h = h
bytes-drop (suc n) [] h = h
bytes-drop (suc n) (x ∷ xs) h = bytes-drop n xs h.1

live_form : (s : State) → IsLive s → form_of s ≢ machine.done
live_form (item K) h e = cc
live_form (argument from m k n K) h e = cc
live_form (string from m k s K) h e = cc
live_form (bits w k n K) h e = cc
live_form (chunk m s K) h e = cc
live_form (chunk_argument from m k n s K) h e = cc
live_form (chunk_string from m k s c K) h e = cc
live_form (simple_value K) h e = cc
live_form (done x) h e = h

building : (d o : ℕ) (fed : List ℕ) (s : State) → IsLive s → Builds d o fed s → IsBuilding d o fed s
building d o fed s live b = record { builds = b; live = live; few = builds_open d o fed s b; held = builds_held d o fed s b }

noting : (d o : ℕ) (fed : List ℕ) (m : machine.State) (place : ℕ) → m ≢ machine.done → Notes d o fed m place → IsNoted d o fed m place
noting d o fed m place live n = record { notes = n; live = live; few = notes_open d o fed m place n }

pub none_built : (d o : ℕ) (s : State) → s ≡ item [] → IsBuilding d o [] s
none_built d o s e = building d o [] s (subst IsLive (sym e) tt) (subst (Builds d o []) (sym e) (nothing_built d o))

-- the form of what is in work
in_work : (d o : ℕ) (fed : List ℕ) (s : State) (m : machine.State) (noted : Option ℕ) → IsWork d o fed s m noted → (n : machine.State) × (n ≢ machine.done) × LeadsWithin d fed n
in_work d o fed s m None w = (form_of s, live_form s w.live, builds_leads d o fed s w.builds)
in_work d o fed s m (Some place) w = (m, w.live, notes_leads d o fed m place w.notes)

pub work_leads : (d o : ℕ) (fed : List ℕ) (w : Work) → IsInWork d o fed w → (n : machine.State) × (n ≢ machine.done) × LeadsWithin d fed n
work_leads d o fed w h = in_work d o fed (build.state_in w.builder) w.form w.noted h

-- where there are no bytes yet, the offset plays no part
no_bytes : (d o : ℕ) (s : State) (m : machine.State) (noted : Option ℕ) → IsWork d o [] s m noted → (e p : ℕ) → IsWork e p [] s m noted
no_bytes d o s m None w e p = none_built e p s (sym (ap (λ (r : Option (List Text × State)). state_or r) w.builds.run.is))
  where
    state_or : Option (List Text × State) → State
    state_or None = s
    state_or (Some r) = r.1
no_bytes d o s m (Some place) w e p = absurd (subst (λ T. IsFirstBad T place) (sym (ap (λ (r : Option (List Text × State)). texts_or r) w.notes.run.is)) w.notes.run.bad)
  where
    texts_or : Option (List Text × State) → List Text
    texts_or None = w.notes.run.told
    texts_or (Some r) = r.0

pub nothing_in_work : (d o : ℕ) (w : Work) → IsInWork d o [] w → (e p : ℕ) → IsInWork e p [] w
nothing_in_work d o w h e p = no_bytes d o (build.state_in w.builder) w.form w.noted h e p

run_at : (d o at : ℕ) (fed c : List ℕ) (s t : State) → at ≡ o + length fed → Builds d o fed s → AreBytes c → IsRun d at s c t → Builds d o (fed ++ c) t
run_at d o at fed c s t e b bytes run = builds_on d o fed c s t b bytes (subst (λ a. IsRun d a s c t) e run)

pub more : (d o at : ℕ) (fed piece : List ℕ) (s t : State) → at ≡ o + length fed → IsBuilding d o fed s → AreBytes piece → IsLive t → IsRun d at s piece t → IsBuilding d o (fed ++ piece) t
more d o at fed piece s t e b bytes live run = building d o (fed ++ piece) t live (run_at d o at fed piece s t e b.builds bytes run)

pub whole : (d o at : ℕ) (fed piece : List ℕ) (s t : State) (form : machine.State) (noted : Option ℕ) (used : ℕ) (x : Value) → at ≡ o + length fed → noted ≡ None → IsBuilding d o fed s → AreBytes piece → build.IsItemEnd d at s piece used x t → IsBuilt d o fed piece used x t form noted
whole d o at fed piece s t form noted used x e none b bytes w = record {
  some = w.some;
  within = w.within;
  builds = run_at d o at fed (take used piece) s (done x) e b.builds (bytes-take used piece bytes) w.run;
  next = λ d p. subst (IsWork d p [] t form) (sym none) (none_built d p t w.next);
}

bad_at : (d o at : ℕ) (fed piece : List ℕ) (s t : State) (used place : ℕ) (after : Option machine.State) → at ≡ o + length fed → IsBuilding d o fed s → AreBytes piece → (w : build.IsBad d at s piece used place after t) → Notes d o (fed ++ take used piece) (form_of w.state) place
bad_at d o at fed piece s t used place after e b bytes w = builds_bad d o fed (take used piece) s w.state place b.builds (bytes-take used piece bytes) (subst (λ a. IsBadRun d a s (take used piece) w.state place) e w.run)

pub bad_end : (d o at : ℕ) (fed piece : List ℕ) (s t : State) (used place : ℕ) → at ≡ o + length fed → IsBuilding d o fed s → AreBytes piece → build.IsBad d at s piece used place None t → IsBadEnd d o fed piece used place
bad_end d o at fed piece s t used place e b bytes w = record {
  some = w.some;
  within = w.within;
  notes = subst (λ m. Notes d o (fed ++ take used piece) m place) w.after (bad_at d o at fed piece s t used place None e b bytes w);
}

pub bad_on : (d o at : ℕ) (fed piece : List ℕ) (s t : State) (used place : ℕ) (m : machine.State) → at ≡ o + length fed → IsBuilding d o fed s → AreBytes piece → build.IsBad d at s piece used place (Some m) t → IsNoted d o (fed ++ take used piece) m place
bad_on d o at fed piece s t used place m e b bytes w =
    noting d o (fed ++ take used piece) m place w.after.1 (subst (λ n. Notes d o (fed ++ take used piece) n place) (sym w.after.0) (bad_at d o at fed piece s t used place (Some m) e b bytes w))

pub refused : (d o at : ℕ) (fed piece : List ℕ) (s t : State) (used : ℕ) (kind : FaultKind) → at ≡ o + length fed → IsBuilding d o fed s → AreBytes piece → IsLive t → build.IsRefused d at s piece used kind t → IsStopped d fed piece used kind
refused d o at fed piece s t used kind e b bytes live w = record {
  within = w.within;
  state = form_of t;
  live = live_form t live;
  leads = builds_leads d o (fed ++ take used piece) t (run_at d o at fed (take used piece) s t e b.builds (bytes-take used piece bytes) w.run);
  refused = sym (form_of-step (at + used) t (get_or piece used 0)) ∙ ap form_next w.refused;
  kind_is = w.kind_is;
}

pub full : (d o at : ℕ) (fed piece : List ℕ) (s t : State) (used : ℕ) → at ≡ o + length fed → IsBuilding d o fed s → AreBytes piece → IsLive t → build.IsTooDeep d at s piece used t → IsFull d fed piece used
full d o at fed piece s t used e b bytes live w = record {
  within = w.within;
  state = form_of t;
  live = live_form t live;
  leads = builds_leads d o (fed ++ take used piece) t (run_at d o at fed (take used piece) s t e b.builds (bytes-take used piece bytes) w.run);
  stops = sym (form_of-step_in d (at + used) t (get_or piece used 0)) ∙ ap form_next w.stops;
  else_on = (form_of w.else_on.0, sym (form_of-step (at + used) t (get_or piece used 0)) ∙ ap form_next w.else_on.1);
}

-- the form alone, from so many bytes of the piece on

pub rest_is : (piece : List ℕ) (from : ℕ) → take (length piece - from) (drop from piece) ≡ drop from piece
rest_is piece from = take_all (length piece - from) (drop from piece) (omega (arith, length-drop from piece))

joined : (fed piece : List ℕ) (from : ℕ) → (fed ++ take from piece) ++ drop from piece ≡ fed ++ piece
joined fed piece from = append_assoc fed (take from piece) (drop from piece) ∙ ap (λ c. fed ++ c) (take-append-drop from piece)

joined_front : (fed piece : List ℕ) (from used : ℕ) → (fed ++ take from piece) ++ take used (drop from piece) ≡ fed ++ take (from + used) piece
joined_front fed piece from used = append_assoc fed (take from piece) (take used (drop from piece)) ∙ ap (λ c. fed ++ c) (sym (take-add from used piece))

front_noted : (d o : ℕ) (fed piece : List ℕ) (m n : machine.State) (from used place : ℕ) → IsNoted d o (fed ++ take from piece) m place → AreBytes piece → machine.steps_in d m (take used (drop from piece)) ≡ Some n → Notes d o (fed ++ take (from + used) piece) n place
front_noted d o fed piece m n from used place b bytes e =
    subst (λ c. Notes d o c n place) (joined_front fed piece from used) (notes_on d o (fed ++ take from piece) (take used (drop from piece)) m n place b.notes (bytes-take used (drop from piece) (bytes-drop from piece bytes)) e)

inside : (piece : List ℕ) (from used : ℕ) → used < length (drop from piece) → from + used < length piece
inside piece from used h = omega (arith, length-drop from piece)

pub inside_end : (piece : List ℕ) (from used : ℕ) → from ≤ length piece → used ≤ length (drop from piece) → from + used ≤ length piece
inside_end piece from used h k = omega (arith, length-drop from piece)

pub more_noted : (d o : ℕ) (fed piece : List ℕ) (m n : machine.State) (from place : ℕ) → IsNoted d o (fed ++ take from piece) m place → AreBytes piece → n ≢ machine.done → machine.steps_in d m (drop from piece) ≡ Some n → IsNoted d o (fed ++ piece) n place
more_noted d o fed piece m n from place b bytes live e =
    noting d o (fed ++ piece) n place live (subst (λ c. Notes d o c n place) (joined fed piece from) (notes_on d o (fed ++ take from piece) (drop from piece) m n place b.notes (bytes-drop from piece bytes) e))

pub noted_end : (d o : ℕ) (fed piece : List ℕ) (m n : machine.State) (from used place : ℕ) → from ≤ length piece → IsNoted d o (fed ++ take from piece) m place → AreBytes piece → form.IsItemEnd d m (drop from piece) used n → IsBadEnd d o fed piece (from + used) place
noted_end d o fed piece m n from used place h b bytes w = record {
  some = (let some : 0 < used = w.some in omega arith);
  within = inside_end piece from used h w.within;
  notes = front_noted d o fed piece m machine.done from used place b bytes w.leads;
}

pub noted_refused : (d o : ℕ) (fed piece : List ℕ) (m n : machine.State) (from used place : ℕ) (kind : FaultKind) → IsNoted d o (fed ++ take from piece) m place → AreBytes piece → n ≢ machine.done → form.IsRefused d m (drop from piece) used kind n → IsStopped d fed piece (from + used) kind
noted_refused d o fed piece m n from used place kind b bytes live w =
    let byte : get_or (drop from piece) used 0 ≡ get_or piece (from + used) 0 = get_or-drop from piece used 0 in
    record {
      within = inside piece from used w.within;
      state = n;
      live = live;
      leads = notes_leads d o (fed ++ take (from + used) piece) n place (front_noted d o fed piece m n from used place b bytes w.leads);
      refused = ap (machine.step n) (sym byte) ∙ w.refused;
      kind_is = ap (machine.refused_kind n) (sym byte) ∙ w.kind_is;
    }

pub noted_full : (d o : ℕ) (fed piece : List ℕ) (m n : machine.State) (from used place : ℕ) → IsNoted d o (fed ++ take from piece) m place → AreBytes piece → n ≢ machine.done → form.IsTooDeep d m (drop from piece) used n → IsFull d fed piece (from + used)
noted_full d o fed piece m n from used place b bytes live w =
    let byte : get_or (drop from piece) used 0 ≡ get_or piece (from + used) 0 = get_or-drop from piece used 0 in
    record {
      within = inside piece from used w.within;
      state = n;
      live = live;
      leads = notes_leads d o (fed ++ take (from + used) piece) n place (front_noted d o fed piece m n from used place b bytes w.leads);
      stops = ap (machine.step_in d n) (sym byte) ∙ w.stops;
      else_on = (w.else_on.0, ap (machine.step n) (sym byte) ∙ w.else_on.1);
    }
