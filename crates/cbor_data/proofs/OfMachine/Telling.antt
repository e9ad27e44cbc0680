-- What the machine's state says of the bytes read: the facts that a reader rests on.
use Rattle.std.proofs.Common.{◌≡◌, ◌≢◌, ℕ, suc, ◌+◌, ◌<◌, ◌≤◌, List, [], ◌∷◌, ◌++◌, length, take, drop, get_or, nat_lt, Some, None, option_and_then, ◌⊎◌, inl, inr, refl, sym, ap, ◌∙◌, subst, arith, append_assoc, append-nil, length-append}
use Rattle.std.proofs.lemmas.List.{take-append-drop, take-append-le}
use Rattle.std.proofs.Math.Seq.{take-append_seam, take-append-add, get_or-append_seam}
use Rattle.std.proofs.lemmas.Bool.Decides.{nat_tests}
use Rattle.lists.proofs.Lemmas.{tested}
use Rattle.cbor_data.specs.Forms.{IsWellFormed, Begins, IsUnfinished}
use Rattle.cbor_data.specs.Faults.{Bounds, last_offset, BeginsWithin, IsFormFaultAt, malformed, deep, long, IsClearBefore, IsWholeFront, IsFaultOf, of_form, of_end, IsKindOf}
use Rattle.cbor_data.specs.declared.FaultKind.{FaultKind}
use Rattle.cbor_data.specs.declared.FaultKind.TheVariants.{TooDeep, TooLong, Truncated}
use Rattle.cbor_data.specs.Machine.Machine.{State, item, done, step, steps, step_in, steps_in, refused_kind}
use Rattle.cbor_data.specs.Machine.Reads.{Leads, LeadsWithin, Reads}
use Rattle.cbor_data.proofs.OfMachine.Forward.{completes, Completes, steps-append}
use Rattle.cbor_data.proofs.OfMachine.Keeping.{done_whole, bytes-append}
use Rattle.cbor_data.proofs.OfMachine.Refusing.{step_begins, step_refuses, refused_is_kind}
use Rattle.cbor_data.proofs.OfMachine.Shallow.{leads, leads_begins_within, refused_within, steps_in-append}

pub nothing_read : (l : Bounds) (o : ℕ) → o ≤ last_offset → Reads l o [] (item [])
nothing_read l o h = record { leads = record { are = tt; is = refl }; short = omega arith; placed = omega arith }

-- a beginning of what begins so begins so
front_begins_within : (d : ℕ) (b : List ℕ) (n : ℕ) → BeginsWithin d b → BeginsWithin d (take n b)
front_begins_within d b n w = record {
  more = drop n b ++ w.more;
  written = w.written;
  ok = w.ok;
  is = sym (append_assoc (take n b) (drop n b) w.more) ∙ (ap (λ x. x ++ w.more) (take-append-drop n b) ∙ w.is);
  shallow = w.shallow;
}

pub within_begins : (d : ℕ) (b : List ℕ) → BeginsWithin d b → Begins b
within_begins d b w = (w.more, record { written = w.written; ok = w.ok; is = w.is })

-- nothing is wrong before the end of what was read, however it goes on
pub clear : (l : Bounds) (o : ℕ) (b : List ℕ) (s : State) (rest : List ℕ) → Reads l o b s → IsClearBefore l o (b ++ rest) (length b)
clear l o b s rest r q kind below fault = at fault
  where
    same : take (q + 1) (b ++ rest) ≡ take (q + 1) b
    same = take-append-le (q + 1) b rest (omega arith)

    within : BeginsWithin l.depth (take (q + 1) (b ++ rest))
    within = subst (BeginsWithin l.depth) (sym same) (front_begins_within l.depth b (q + 1) (leads_begins_within l.depth b s r.leads))

    at : {kind : FaultKind} → IsFormFaultAt l o (b ++ rest) q kind → ⊥
    at (malformed h none is) = none (within_begins l.depth (take (q + 1) (b ++ rest)) within)
    at (deep h begins not) = not within
    at (long w (inl e)) = let short : length b ≤ l.item_bytes = r.short in omega arith
    at (long w (inr e)) = let placed : o + length b ≤ last_offset = r.placed in omega arith

not_empty : (b : List ℕ) (s : State) → steps (item []) b ≡ Some s → (more : List ℕ) → more ≡ [] → steps s more ≡ Some done → s ≡ done
not_empty b s is more e d = let f : steps s [] ≡ Some done = subst (λ m. steps s m ≡ Some done) e d in cc

-- a machine that is not done has read a proper beginning
pub unfinished : (l : Bounds) (o : ℕ) (b : List ℕ) (s : State) → Reads l o b s → s ≢ done → IsUnfinished b
unfinished l o b s r live = on c.more refl
  where
    c : Completes s
    c = completes s

    read : Leads b s
    read = leads l.depth b s r.leads

    on : (more : List ℕ) → c.more ≡ more → IsUnfinished b
    on [] e = absurd (live (not_empty b s read.is c.more e c.done))
    on (x ∷ more) e =
        let is : steps (item []) (b ++ c.more) ≡ Some done = steps-append (item []) b c.more ∙ (ap (option_and_then (λ t. steps t c.more)) read.is ∙ c.done) in
        let whole : IsWellFormed (b ++ c.more) = done_whole (b ++ c.more) (bytes-append b c.more read.are c.bytes) is in
        (x, more, subst (λ m. IsWellFormed (b ++ m)) e whole)

front : (b more : List ℕ) → take (length b) (b ++ more) ≡ b
front b more = take-append_seam b more

front_and : (b more : List ℕ) (x : ℕ) → take (length b + 1) (b ++ x ∷ more) ≡ b ++ x ∷ []
front_and b more x = take-append-add b (x ∷ more) 1

next_byte : (b more : List ℕ) (x : ℕ) → get_or (b ++ x ∷ more) (length b) 0 ≡ x
next_byte b more x = get_or-append_seam b x more 0

inside : (b more : List ℕ) (x : ℕ) → length b < length (b ++ x ∷ more)
inside b more x = omega (arith, length-append b (x ∷ more))

told_at : (l : Bounds) (o : ℕ) (b more : List ℕ) (s : State) (x : ℕ) (kind : FaultKind) → Reads l o b s → s ≢ done → IsFormFaultAt l o (b ++ x ∷ more) (length b) kind → IsFaultOf l o (b ++ x ∷ more) kind (o + length b)
told_at l o b more s x kind r live fault =
    let within : length b < length (b ++ x ∷ more) = inside b more x in
    of_form (length b) (omega arith) (subst IsUnfinished (sym (front b (x ∷ more))) (unfinished l o b s r live)) fault (clear l o b s (x ∷ more) r) refl

-- a byte that no item has there
pub tell_form : (l : Bounds) (o : ℕ) (b more : List ℕ) (s : State) (x : ℕ) → Reads l o b s → s ≢ done → x < 256 → step s x ≡ None → IsFaultOf l o (b ++ x ∷ more) (refused_kind s x) (o + length b)
tell_form l o b more s x r live small e =
    let read : Leads b s = leads l.depth b s r.leads in
    let kind = refused_is_kind b s x read live small e in
    told_at l o b more s x (refused_kind s x) r live (malformed (inside b more x) (λ begins. step_refuses b s x read e (subst Begins (front_and b more x) begins))
    (subst (λ a. IsKind a (get_or (b ++ x ∷ more) (length b) 0)) (sym (front b (x ∷ more))) (subst (λ y. IsKind b y) (sym (next_byte b more x)) kind)))
  where
    IsKind : List ℕ → ℕ → Type 0
    IsKind a y = IsKindOf a y (refused_kind s x)

-- the head of a container inside as many as may be open
pub tell_deep : (l : Bounds) (o : ℕ) (b more : List ℕ) (s t : State) (x : ℕ) → Reads l o b s → s ≢ done → x < 256 → step s x ≡ Some t → step_in l.depth s x ≡ None → IsFaultOf l o (b ++ x ∷ more) TooDeep (o + length b)
tell_deep l o b more s t x r live small e none =
    let read : Leads b s = leads l.depth b s r.leads in
    let refuses : steps_in l.depth (item []) (b ++ x ∷ []) ≡ None =
    steps_in-append l.depth (item []) b (x ∷ []) ∙ (ap (option_and_then (λ u. steps_in l.depth u (x ∷ []))) r.leads.is ∙ ap (option_and_then (λ u. steps_in l.depth u [])) none) in
    told_at l o b more s x TooDeep r live (deep (inside b more x) (subst Begins (sym (front_and b more x)) (step_begins b s t x read small e))
    (λ w. refused_within l.depth (b ++ x ∷ []) refuses (subst (BeginsWithin l.depth) (front_and b more x) w)))

step_within : (l : Bounds) (o : ℕ) (b : List ℕ) (s t : State) (x : ℕ) → Reads l o b s → x < 256 → step_in l.depth s x ≡ Some t → LeadsWithin l.depth (b ++ x ∷ []) t
step_within l o b s t x r small e = record {
  are = bytes-append b (x ∷ []) r.leads.are (small, tt);
  is = steps_in-append l.depth (item []) b (x ∷ []) ∙ (ap (option_and_then (λ u. steps_in l.depth u (x ∷ []))) r.leads.is ∙ ap (option_and_then (λ u. steps_in l.depth u [])) e);
}

-- a byte more than the item, or the stream, may have
pub tell_long : (l : Bounds) (o : ℕ) (b more : List ℕ) (s t : State) (x : ℕ) → Reads l o b s → s ≢ done → x < 256 → step_in l.depth s x ≡ Some t →
    (length b ≡ l.item_bytes) ⊎ (o + length b ≡ last_offset) → IsFaultOf l o (b ++ x ∷ more) TooLong (o + length b)
tell_long l o b more s t x r live small e full =
    let within : BeginsWithin l.depth (b ++ x ∷ []) = leads_begins_within l.depth (b ++ x ∷ []) t (step_within l o b s t x r small e) in
    let why : (length b ≡ l.item_bytes) ⊎ ((length b < length (b ++ x ∷ more)) × (o + length b ≡ last_offset)) = elim full [ inl h ↦ inl h | inr h ↦ inr (inside b more x, h) ] in
    told_at l o b more s x TooLong r live (long (subst (BeginsWithin l.depth) (sym (front_and b more x)) within) why)

-- a byte that goes on
pub reads_on : (l : Bounds) (o : ℕ) (b : List ℕ) (s t : State) (x : ℕ) → Reads l o b s → x < 256 → step_in l.depth s x ≡ Some t → length b < l.item_bytes → o + length b < last_offset → Reads l o (b ++ x ∷ []) t
reads_on l o b s t x r small e short placed =
    let len : length (b ++ x ∷ []) ≡ length b + 1 = length-append b (x ∷ []) in
    record { leads = step_within l o b s t x r small e; short = omega arith; placed = omega arith }

-- a machine that is done has read a whole item, with nothing wrong in its form
pub whole : (l : Bounds) (o : ℕ) (b : List ℕ) → Reads l o b done → IsWellFormed b
whole l o b r = let read : Leads b done = leads l.depth b done r.leads in done_whole b read.are read.is

pub whole_front : (l : Bounds) (o : ℕ) (b more : List ℕ) (r : Reads l o b done) → IsWholeFront l o (b ++ more) (length b) (whole l o b r).written
whole_front l o b more r =
    let w : IsWellFormed b = whole l o b r in
    record {
      within = omega (arith, length-append b more);
      ok = w.ok;
      is = front b more ∙ w.is;
      before = clear l o b done more r;
    }

-- the bytes end inside an item that has all its bytes
pub tell_long_end : (l : Bounds) (o : ℕ) (b : List ℕ) (s : State) → Reads l o b s → s ≢ done → length b ≡ l.item_bytes → IsFaultOf l o b TooLong (o + length b)
tell_long_end l o b s r live full =
    let all : take (length b + 1) b ≡ b = take_past b in
    of_form (length b) (omega arith) (subst IsUnfinished (sym (take_all b)) (unfinished l o b s r live))
    (long (subst (BeginsWithin l.depth) (sym all) (leads_begins_within l.depth b s r.leads)) (inl full)) (subst (λ c. IsClearBefore l o c (length b)) (append-nil b) (clear l o b s [] r)) refl
  where
    take_all : (b : List ℕ) → take (length b) b ≡ b
    take_all b = ap (take (length b)) (sym (append-nil b)) ∙ take-append_seam b []

    take_past : (b : List ℕ) → take (length b + 1) b ≡ b
    take_past b = ap (take (length b + 1)) (sym (append-nil b)) ∙ (take-append-add b [] 1 ∙ append-nil b)

-- the bytes end inside an item
pub tell_end : (l : Bounds) (o : ℕ) (b : List ℕ) (s : State) → Reads l o b s → s ≢ done → b ≢ [] → length b < l.item_bytes → IsFaultOf l o b Truncated (o + length b)
tell_end l o b s r live some room = of_end some (unfinished l o b s r live) none refl
  where
    before : IsClearBefore l o b (length b)
    before = subst (λ c. IsClearBefore l o c (length b)) (append-nil b) (clear l o b s [] r)

    at : (q : ℕ) (kind : FaultKind) → q ≡ length b → IsFormFaultAt l o b q kind → ⊥
    at q _ e (malformed h n k) = omega arith
    at q _ e (deep h n k) = omega arith
    at q _ e (long w (inl f)) = omega arith
    at q _ e (long w (inr f)) = omega arith

    none : IsClearBefore l o b (suc (length b))
    none q kind h fault = elim (tested (nat_lt q (length b))) [
      | inl t ↦ before q kind (grind (arith, nat_tests)) fault
      | inr t ↦ let e : q ≡ length b = (let g : length b ≤ q = grind (arith, nat_tests) in omega arith) in at q kind e fault
    ]
