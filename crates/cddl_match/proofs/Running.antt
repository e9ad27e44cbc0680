-- What each turn keeps.
use Rattle.std.proofs.Common.{◌≡◌, ℕ, zero, suc, ◌+◌, ◌*◌, ◌-◌, ◌<◌, ◌≤◌, List, [], ◌∷◌, ◌++◌, inl, inr, length, map, reverse, slice_index_or, slice_set, take, refl, sym, ap, subst, ◌∙◌, arith}
use Rattle.std.specs.Prelude.{All, true, false}
use Rattle.std.proofs.lemmas.List.Elements.{All-head, All-tail}
use Rattle.std.proofs.lemmas.List.{length-append, length-reverse, map-append, reverse-append}
use Rattle.cbor_data.specs.Value.{Value}
use Rattle.cddl_meaning.specs.Forms.{Content, Counting, Language, MapEntry, by_keys, entry_cost, every_entry, is_passed_over, pair_cost}
use Rattle.cddl_meaning.specs.Held.{Holds}
use Rattle.cddl_meaning.specs.Judges.{Reply, Fails}
use Rattle.cddl_meaning.specs.Moves.{Question, OfType, Pending, InRef, InKey, InHeld, Sorting, Move, Answered, Asks, Tries, Enters, Reads, Replies, LeadsTo, first_move, next_move, next_entry, Weighs}
use Rattle.cddl_meaning.specs.Moves as M
use Rattle.cddl_match.specs.Ahead.{Opens}
use Rattle.cddl_match.specs.Entering.{ArePassed, IsPassed}
use Rattle.cddl_match.specs.Machine.{Finds, FindsAt, IsAt, IsRun, IsStep, IsTurn, WaitsAt, asked_in, asks_in, below, last_of, next_in, noted, pending_in}
use Rattle.cddl_match.specs.Open.{AreOpenWith, nothing, further}
use Rattle.cddl_match.specs.Unwinding.{IsOnTheWay, Unwinds}
use Rattle.match_moves.specs.Views.{move_view, pending_view, reply_view}
use Rattle.cddl_match.specs.Within.{Outcome, Replied, Stopped, Says}
use Rattle.match_moves.specs.declared.questions.Move as C
use Rattle.match_moves.specs.declared.questions.Move.TheVariants as D
use Rattle.match_moves.specs.declared.questions.Reply as R
use Rattle.cddl_match.specs.declared.calls.Stop.TheVariants as S
use Rattle.cddl_match.specs.declared.stack.Run.{Run}
use Rattle.cddl_match.specs.declared.stack.Waiting.{Waiting}
use Rattle.table_nodes.specs.declared.nodes.GroupId.{GroupId}
use Rattle.table_nodes.specs.declared.nodes.TypeId.{TypeId}
use Rattle.cddl_match.proofs.Held.{reads_none, reads_on, weighs_on}
use Rattle.cddl_match.proofs.Open.{open_asked, open_answered, open_tried, open_passed, open_entered, open_read, open_unread, open_weighed}
use Rattle.lists.proofs.Lemmas.{none_left}
use Rattle.cddl_match.proofs.Turns as T
use Rattle.cddl_match.proofs.Ways as W

pub asked_push : (ws : List Waiting) (w : Waiting) → reverse (asked_in (ws ++ w ∷ [])) ≡ noted w.asked ∷ reverse (asked_in ws)
asked_push ws w = ap reverse (map-append (λ w. noted w.asked) ws (w ∷ [])) ∙ reverse-append (asked_in ws) (noted w.asked ∷ [])

pub pending_push : (ws : List Waiting) (w : Waiting) → pending_in (ws ++ w ∷ []) ≡ pending_view w.pending ∷ pending_in ws
pending_push ws w = ap reverse (map-append (λ w. pending_view w.pending) ws (w ∷ [])) ∙ reverse-append (map (λ w. pending_view w.pending) ws) (pending_view w.pending ∷ [])

last_below : (os : List (Pending TypeId GroupId)) → last_of os ∷ below os ≡ os ++ InRef ∷ []
last_below [] = refl
last_below (o ∷ os) = refl

-- a list that has just so many, and one whose last one was written anew
pub last_there : {A : Type 0} (xs : List A) (k : ℕ) (x : A) → k + 1 ≡ length xs → x ≡ slice_index_or xs k x → xs ≡ take k xs ++ x ∷ []
last_there [] k x h e = absurd (omega (arith, h))
last_there (y ∷ []) zero x h e = ap (λ z. z ∷ []) (sym e)
last_there (y ∷ z ∷ xs) zero x h e = absurd (omega (arith, h))
last_there (y ∷ xs) (suc k) x h e = ap (λ ys. y ∷ ys) (last_there xs k x (omega (arith, h)) e)

pub some_last : {A : Type 0} (xs : List A) (k : ℕ) → k + 1 ≡ length xs → (x : A) × (xs ≡ take k xs ++ x ∷ [])
some_last [] k h = absurd (omega (arith, h))
some_last (y ∷ []) zero h = (y, refl)
some_last (y ∷ z ∷ xs) zero h = absurd (omega (arith, h))
some_last (y ∷ xs) (suc k) h = let more = some_last xs k (omega (arith, h)) in (more.0, ap (λ ys. y ∷ ys) more.1)

pub last_written : {A : Type 0} (xs : List A) (k : ℕ) (x : A) → k + 1 ≡ length xs → slice_set xs k x ≡ take k xs ++ x ∷ []
last_written [] k x h = absurd (omega (arith, h))
last_written (y ∷ []) zero x h = refl
last_written (y ∷ z ∷ xs) zero x h = absurd (omega (arith, h))
last_written (y ∷ xs) (suc k) x h = ap (λ ys. y ∷ ys) (last_written xs k x (omega (arith, h)))

-- a pair that is tried counts one at least
pair_counts : {N : Type 0} (c : Counting N) (n : ℕ) → 0 < pair_cost c n
pair_counts every_entry n = omega arith
pair_counts (by_keys f) n = omega arith

module _ {N G : Type 0} (l : Language N G) where
  pub at_steps : {first : Question N G} {m n : ℕ} {qs : List (Question N G)} {os : List (Pending N G)} {o : Move N G} → m ≡ n → IsAt l first m qs os o → IsAt l first n qs os o
  at_steps {first = first} {qs = qs} {os = os} {o = o} e h = subst (λ n. IsAt l first n qs os o) e h

  pub at_begin : (q : Question N G) → IsAt l q 0 [] [] (Asks q InRef)
  at_begin q = record { way = T.begun l q; opened = nothing }

  pub at_asked : {first q : Question N G} {taken : ℕ} {qs : List (Question N G)} {o : Pending N G} {os : List (Pending N G)} → IsAt l first taken qs os (Asks q o) → IsAt l first (taken + 1) (q ∷ qs) (o ∷ os) (first_move l q)
  at_asked {q = q} h = record { way = T.asked l (W.opens l q) h.way; opened = open_asked l h.opened }

  pub at_answered : {first q : Question N G} {taken : ℕ} {o : Pending N G} {os : List (Pending N G)} {r : Reply} (qs : List (Question N G)) → 0 < length qs → IsAt l first taken (q ∷ qs) (o ∷ os) (Answered r) → IsAt l first taken qs os (next_move o r)
  at_answered [] e h = absurd (omega (arith, e))
  at_answered (p ∷ qs) e h = record { way = T.answered l h.way; opened = open_answered l h.opened }

  pub at_tried : {first : Question N G} {taken : ℕ} {qs : List (Question N G)} {os : List (Pending N G)} {s : Sorting N} → IsAt l first taken qs os (Tries s) → IsAt l first (taken + pair_cost l.counting (length s.entries)) qs os (next_entry s.entries s)
  at_tried {s = s} h = record { way = T.gone_on l (W.tries_on l s) h.way; opened = open_tried l h.opened }

  -- an entry is passed over, or asked
  pub at_passed : {first : Question N G} {taken : ℕ} {qs : List (Question N G)} {os : List (Pending N G)} {e : MapEntry N} {es : List (MapEntry N)} {s : Sorting N} → is_passed_over l.counting e.key_type s.key ≡ true → IsAt l first taken qs os (Enters e es s) → IsAt l first taken qs os (next_entry es s)
  at_passed {e = e} {es = es} {s = s} i h = record { way = T.in_steps (omega arith) (T.gone_on l (W.passes_on l e es s i) h.way); opened = open_passed l i h.opened }

  pub at_entered : {first : Question N G} {taken : ℕ} {qs : List (Question N G)} {os : List (Pending N G)} {e : MapEntry N} {es : List (MapEntry N)} {s : Sorting N} → is_passed_over l.counting e.key_type s.key ≡ false → IsAt l first taken qs os (Enters e es s) → IsAt l first (taken + entry_cost l.counting) qs os (Asks (OfType e.key_type s.key_place s.key) (InKey e es s))
  at_entered {e = e} {es = es} {s = s} i h = record { way = T.gone_on l (W.enters_on l e es s i) h.way; opened = open_entered l i h.opened }

  -- entries are passed over, one after the other
  at_all_passed : {first : Question N G} {taken : ℕ} {qs : List (Question N G)} {os : List (Pending N G)} (s : Sorting N) (before left : List (MapEntry N)) → All (IsPassed l s.key) before → IsAt l first taken qs os (next_entry (before ++ left) s) → IsAt l first taken qs os (next_entry left s)
  at_all_passed s [] left i h = h
  at_all_passed s (e ∷ before) left i h = at_all_passed s before left (All-tail (IsPassed l s.key) e before i) (at_passed (All-head (IsPassed l s.key) e before i) h)

  pub at_left : {first : Question N G} {taken : ℕ} {qs : List (Question N G)} {os : List (Pending N G)} (s : Sorting N) (es left : List (MapEntry N)) → ArePassed l s.key es left → IsAt l first taken qs os (next_entry es s) → IsAt l first taken qs os (next_entry left s)
  at_left {first = first} {taken = taken} {qs = qs} {os = os} s es left p h = at_all_passed s p.before left p.each (subst (λ es. IsAt l first taken qs os (next_entry es s)) p.whole h)

  pub at_read : {first : Question N G} {taken : ℕ} {qs : List (Question N G)} {os : List (Pending N G)} {c : Content} {b : List ℕ} {n : N} {p next : ℕ} {y : Value} → Holds c b y → IsAt l first taken qs os (Reads c b n p next) → IsAt l first taken qs os (Asks (OfType n 0 y) (InHeld p next))
  at_read {c = c} {b = b} {n = n} {p = p} {next = next} {y = y} k h = record { way = T.in_steps (omega arith) (T.gone_on l (reads_on l c b n p next y k) h.way); opened = open_read l k h.opened }

  pub at_unread : {first : Question N G} {taken : ℕ} {qs : List (Question N G)} {os : List (Pending N G)} {c : Content} {b : List ℕ} {n : N} {p next : ℕ} → ((y : Value) → Holds c b y → ⊥) → IsAt l first taken qs os (Reads c b n p next) → IsAt l first taken qs os (Answered (Fails p))
  at_unread {c = c} {b = b} {n = n} {p = p} {next = next} k h = record { way = T.in_steps (omega arith) (T.gone_on l (reads_none l c b n p next k) h.way); opened = open_unread l k h.opened }

  at_weighed : {first : Question N G} {taken n : ℕ} {qs : List (Question N G)} {os : List (Pending N G)} {r : Reply} → IsAt l first taken qs os (Weighs n r) → IsAt l first (taken + n) qs os (Answered r)
  at_weighed {n = n} {r = r} h = record { way = T.gone_on l (weighs_on l n r) h.way; opened = open_weighed l h.opened }

  -- none was set
  pub at_unweighed : {first : Question N G} {taken : ℕ} {qs : List (Question N G)} {os : List (Pending N G)} {r : Reply} (n : ℕ) → n ≡ 0 → IsAt l first taken qs os (Weighs n r) → IsAt l first taken qs os (Answered r)
  at_unweighed n e h = at_steps (omega (arith, e)) (at_weighed h)

  root_only : {first q : Question N G} {o : Pending N G} {m : Move N G} → AreOpenWith l first (q ∷ []) (o ∷ []) m → o ≡ InRef
  root_only (further nothing c) = refl

  pub read_some : {first : Question N G} {qs : List (Question N G)} {os : List (Pending N G)} {c : Content} {b : List ℕ} {n : N} {p next : ℕ} → AreOpenWith l first qs os (Reads c b n p next) → 0 < length qs
  read_some (further h c) = omega arith

  pub tried_some : {first : Question N G} {qs : List (Question N G)} {os : List (Pending N G)} {s : Sorting N} → AreOpenWith l first qs os (Tries s) → 0 < length qs
  tried_some (further h c) = omega arith

  weighed_some : {first : Question N G} {qs : List (Question N G)} {os : List (Pending N G)} {n : ℕ} {r : Reply} → AreOpenWith l first qs os (Weighs n r) → 0 < length qs
  weighed_some (further h c) = omega arith

  -- what waits for the first question's reply has that reply
  root_end : {s r : Reply} {u : ℕ} → Unwinds l (InRef ∷ []) (Answered r) s u → LeadsTo {N = N} {G = G} l (Answered r) s u
  root_end (t, v, w, M.at_once, M.at_once, is) = subst (λ n. LeadsTo {N = N} {G = G} l (Answered t) t n) (omega (arith, is)) M.at_once

  end_unwinds : {s r : Reply} {u : ℕ} → LeadsTo {N = N} {G = G} l (Answered r) s u → Unwinds l (InRef ∷ []) (Answered r) s u
  end_unwinds {r = r} M.at_once = (r, 0, 0, M.at_once, M.at_once, refl)

  -- the first question has its reply
  pub at_end : {first q : Question N G} {taken : ℕ} {o : Pending N G} {r : Reply} → IsAt l first taken (q ∷ []) (o ∷ []) (Answered r) → Opens l first (Answered r) taken
  at_end {first = first} {q = q} {taken = taken} {o = o} {r = r} h =
      let way = subst (λ o. IsOnTheWay l first taken (o ∷ []) (Answered r)) (root_only h.opened) h.way in
      record {
        leads = λ s w d. way.leads s w (end_unwinds d);
        comes = λ s w d. let c = way.comes s w d in (c.0, root_end c.1, c.2);
      }

  pub at_none : {first : Question N G} {taken : ℕ} {os : List (Pending N G)} {r : Reply} → IsAt l first taken [] os (Answered r) → ⊥
  at_none h = by h.opened
    where
      by : {first : Question N G} {os : List (Pending N G)} {r : Reply} → AreOpenWith l first [] os (Answered r) → ⊥
      by h = elim h [ ]

  -- More steps are needed.
  pub at_ask_over : {first q : Question N G} {taken : ℕ} {qs : List (Question N G)} {o : Pending N G} {os : List (Pending N G)} → IsAt l first taken qs os (Asks q o) → (r : Reply) (w : ℕ) → Replies l first r w → taken < w
  at_ask_over {q = q} h r w d = omega (arith, T.heavier l (W.opens l q) h.way r w d)

  pub at_most : {first : Question N G} {taken : ℕ} {qs : List (Question N G)} {os : List (Pending N G)} {m : Move N G} → IsAt l first taken qs os m → (r : Reply) (w : ℕ) → Replies l first r w → taken ≤ w
  at_most h r w d = omega (arith, (h.way.comes r w d).2)

  pub at_pair_over : {first : Question N G} {taken : ℕ} {qs : List (Question N G)} {os : List (Pending N G)} {s : Sorting N} → IsAt l first taken qs os (Tries s) → (r : Reply) (w : ℕ) → Replies l first r w → taken < w
  at_pair_over {s = s} h r w d = omega (arith, at_most (at_tried h) r w d, pair_counts l.counting (length s.entries))

  pub at_entry_over : {first : Question N G} {taken : ℕ} {qs : List (Question N G)} {os : List (Pending N G)} {e : MapEntry N} {es : List (MapEntry N)} {s : Sorting N} → is_passed_over l.counting e.key_type s.key ≡ false → IsAt l first taken qs os (Enters e es s) → (r : Reply) (w : ℕ) → Replies l first r w → taken < w
  at_entry_over i h r w d = omega (arith, at_ask_over (at_entered i h) r w d)

  pub at_bits_over : {first : Question N G} {taken n : ℕ} {qs : List (Question N G)} {os : List (Pending N G)} {s : Reply} → IsAt l first taken qs os (Weighs n s) → (r : Reply) (w : ℕ) → Replies l first r w → taken + n ≤ w
  at_bits_over h r w d = at_most (at_weighed h) r w d

-- one that was put behind all others
pub pushed_there : {A : Type 0} (xs : List A) (k : ℕ) (x v : A) (ys : List A) → k ≡ length xs → ys ≡ xs ++ x ∷ [] → v ≡ slice_index_or ys k v → v ≡ x
pushed_there {A = A} xs k x v ys h e i = i ∙ ap (λ ys. slice_index_or ys k v) e ∙ by xs k h
  where
    by : (xs : List A) (k : ℕ) → k ≡ length xs → slice_index_or (xs ++ x ∷ []) k v ≡ x
    by [] zero h = refl
    by [] (suc k) h = absurd (omega (arith, h))
    by (y ∷ xs) zero h = absurd (omega (arith, h))
    by (y ∷ xs) (suc k) h = by xs k (omega (arith, h))

pub pushed_written : {A : Type 0} (xs : List A) (k : ℕ) (x u : A) (ys : List A) → k ≡ length xs → ys ≡ xs ++ x ∷ [] → slice_set ys k u ≡ xs ++ u ∷ []
pushed_written {A = A} xs k x u ys h e = ap (λ ys. slice_set ys k u) e ∙ by xs k h
  where
    by : (xs : List A) (k : ℕ) → k ≡ length xs → slice_set (xs ++ x ∷ []) k u ≡ xs ++ u ∷ []
    by [] zero h = refl
    by [] (suc k) h = absurd (omega (arith, h))
    by (y ∷ xs) zero h = absurd (omega (arith, h))
    by (y ∷ xs) (suc k) h = ap (λ ys. y ∷ ys) (by xs k (omega (arith, h)))

-- a question more waits
asked_more : (ws : List Waiting) (w : Waiting) → asked_in (ws ++ w ∷ []) ≡ asked_in ws ++ noted w.asked ∷ []
asked_more ws w = map-append (λ w. noted w.asked) ws (w ∷ [])

some_left : (ws : List Waiting) (w : Waiting) → 0 < length (asked_in (ws ++ w ∷ []))
some_left ws w = rw (asked_more ws w) (omega (arith, length-append (asked_in ws) (noted w.asked ∷ [])))

-- the last one waits in another way
pub same_asked : (ws : List Waiting) (v u : Waiting) → noted u.asked ≡ noted v.asked → asked_in (ws ++ u ∷ []) ≡ asked_in (ws ++ v ∷ [])
same_asked ws v u e = asked_more ws u ∙ ap (λ q. asked_in ws ++ q ∷ []) e ∙ sym (asked_more ws v)

last_waits : (ws : List Waiting) (w : Waiting) → last_of (pending_in (ws ++ w ∷ [])) ≡ pending_view w.pending
last_waits ws w = ap last_of (pending_push ws w)

pub nothing_there : (n : ℕ) → (0 < n → false ≡ true) → n ≡ 0
nothing_there zero f = refl
nothing_there (suc n) f = cc (f (omega arith))

-- the next move of a run that owes nothing
pub next_at : (l : Language TypeId GroupId) (first : Question TypeId GroupId) (r : Run) (m : C.Move) → r.owed ≡ 0 → r.next ≡ m → IsRun l first r → WaitsAt l first r.taken r.waiting.items (move_view m (last_of (pending_in r.waiting.items)))
next_at l first r m owed next run = subst (λ m. WaitsAt l first r.taken r.waiting.items (move_view m (last_of (pending_in r.waiting.items)))) next (at_steps l {m = r.taken + r.owed} (omega (arith, owed)) run.at)

module _ (l : Language TypeId GroupId) (first : Question TypeId GroupId) (taken : ℕ) where
  -- what holds where the last question is this one
  waits_more : (ws : List Waiting) (w : Waiting) (m : Move TypeId GroupId) → IsAt l first taken (noted w.asked ∷ reverse (asked_in ws)) (pending_in ws ++ InRef ∷ []) m → WaitsAt l first taken (ws ++ w ∷ []) m
  waits_more ws w m h = rw (asked_push ws w, pending_push ws w) h

  waits_last : (xs ws : List Waiting) (w : Waiting) (m : Move TypeId GroupId) → xs ≡ ws ++ w ∷ [] → WaitsAt l first taken xs m → IsAt l first taken (noted w.asked ∷ reverse (asked_in ws)) (pending_in ws ++ InRef ∷ []) m
  waits_last xs ws w m e h = rw (e, asked_push ws w, pending_push ws w) at h

  -- the next move of a run is one of its last question
  run_more : (r : Run) (ws : List Waiting) (w : Waiting) {m : Move TypeId GroupId} → r.waiting.items ≡ ws ++ w ∷ [] → move_view r.next (pending_view w.pending) ≡ m → IsAt l first taken (noted w.asked ∷ reverse (asked_in ws)) (pending_in ws ++ InRef ∷ []) m → WaitsAt l first taken r.waiting.items (next_in r)
  run_more r ws w {m = m} items next h =
      let same : move_view r.next (last_of (pending_in r.waiting.items)) ≡ m = ap (λ xs. move_view r.next (last_of (pending_in xs))) items ∙ ap (λ o. move_view r.next o) (last_waits ws w) ∙ next in
      subst (λ n. WaitsAt l first taken r.waiting.items n) (sym same) (subst (λ xs. WaitsAt l first taken xs m) (sym items) (waits_more ws w m h))

  -- Only questions that are open read byte strings.
  pub none_reads : (ws : List Waiting) (c : Content) (b : List ℕ) (n : TypeId) (p next : ℕ) → length ws ≡ 0 → WaitsAt l first taken ws (Reads c b n p next) → ⊥
  none_reads ws c b n p next none h =
      let h2 = rw (none_left ws none) at h in
      absurd (omega (arith, read_some l h2.opened))

  -- A byte string is read, and the last question waits for what is said of what it holds.
  pub read_on : (xs ys ws : List Waiting) (v u : Waiting) (c : Content) (b : List ℕ) (n : TypeId) (p next : ℕ) (y : Value) → Holds c b y → xs ≡ ws ++ v ∷ [] → ys ≡ ws ++ u ∷ [] → noted u.asked ≡ noted v.asked → pending_view u.pending ≡ InHeld p next → WaitsAt l first taken xs (Reads c b n p next) → WaitsAt l first taken ys (Asks (OfType n 0 y) (last_of (pending_in ys)))
  read_on xs ys ws v u c b n p next y k before after asked held h =
      let read = at_read l k (waits_last xs ws v (Reads c b n p next) before h) in
      let here = rw (← asked) at read in
      let same : last_of (pending_in ys) ≡ InHeld p next = ap (λ xs. last_of (pending_in xs)) after ∙ last_waits ws u ∙ held in
      subst (λ o. WaitsAt l first taken ys (Asks (OfType n 0 y) o)) (sym same) (subst (λ xs. WaitsAt l first taken xs (Asks (OfType n 0 y) (InHeld p next))) (sym after) (waits_more ws u (Asks (OfType n 0 y) (InHeld p next)) here))

module _ (l : Language TypeId GroupId) (first : Question TypeId GroupId) (steps : ℕ) where
  -- More steps are needed.
  pub is_spent : (left : ℕ) → ((r : Reply) (w : ℕ) → Replies l first r w → steps < w) → Says l first steps left (Stopped S.Spent)
  is_spent left h = h

  -- the first question has its reply, in so many steps
  pub is_replied : (taken : ℕ) (r : Reply) → taken ≤ steps → Opens l first (Answered r) taken → Says l first steps (steps - taken) (Replied r)
  is_replied taken r h d = (subst (λ n. Opens l first (Answered r) n) (omega (arith, h)) d, omega arith)

module _ (l : Language TypeId GroupId) (first : Question TypeId GroupId) (steps : ℕ) (before after : Run) where
  -- a question is asked
  pub ask_step : (w : Waiting) {q : Question TypeId GroupId} → before.owed ≡ 0 → after.owed ≡ before.owed → after.taken ≡ before.taken + 1 → before.taken < steps → WaitsAt l first before.taken before.waiting.items (asks_in before q) → after.waiting.items ≡ before.waiting.items ++ w ∷ [] → noted w.asked ≡ q → move_view after.next (pending_view w.pending) ≡ first_move l q → IsStep l first steps before after
  ask_step w {q = q} owed owes taken less h items asked next = record {
    run = record {
      at = run_more l first (after.taken + after.owed) after before.waiting.items w items next (at_steps l {m = before.taken + 1} (omega (arith, owed, owes, taken)) (rw (asked, ← last_below (pending_in before.waiting.items)) (at_asked l h)));
      owes = λ more. absurd (omega (arith, owed, owes, more));
    };
    within = omega (arith, taken, less);
    turn = inl (taken, inr (q, rw (items, asked_more before.waiting.items w, asked) refl));
    some = rw items (some_left before.waiting.items w);
  }

  -- a step of a pair that is tried
  pub owed_step : 0 < before.owed → after.owed ≡ before.owed - 1 → after.taken ≡ before.taken + 1 → before.taken < steps → IsRun l first before → after.waiting.items ≡ before.waiting.items → after.next ≡ before.next → IsStep l first steps before after
  owed_step owed owes taken less r items next = record {
    run = record {
      at = rw (items, next) (at_steps l (omega (arith, owed, owes, taken)) r.at);
      owes = λ more. rw items (r.owes owed);
    };
    within = omega (arith, taken, less);
    turn = inl (taken, inl (ap asked_in items));
    some = rw items (r.owes owed);
  }

  -- a pair is tried
  pub try_step : {s : Sorting TypeId} → pair_cost l.counting (length s.entries) ≡ 1 → before.owed ≡ 0 → after.owed ≡ before.owed → after.taken ≡ before.taken + 1 → before.taken < steps → WaitsAt l first before.taken before.waiting.items (Tries s) → after.waiting.items ≡ before.waiting.items → next_in after ≡ next_entry s.entries s → IsStep l first steps before after
  try_step {s = s} one owed owes taken less h items next =
      let open_some : 0 < length (asked_in before.waiting.items) = omega (arith, tried_some l h.opened, length-reverse (asked_in before.waiting.items)) in
      record {
        run = record {
          at = rw (next, items) (at_steps l {m = before.taken + pair_cost l.counting (length s.entries)} (omega (arith, one, owed, owes, taken)) (at_tried l h));
          owes = λ more. absurd (omega (arith, owed, owes, more));
        };
        within = omega (arith, taken, less);
        turn = inl (taken, inl (ap asked_in items));
        some = rw items open_some;
      }

  -- an entry is asked about a pair
  pub entry_step : (ws : List Waiting) (v u : Waiting) {e : MapEntry TypeId} {es : List (MapEntry TypeId)} {s : Sorting TypeId} → entry_cost l.counting ≡ 1 → is_passed_over l.counting e.key_type s.key ≡ false → before.owed ≡ 0 → after.owed ≡ before.owed → after.taken ≡ before.taken + 1 → before.taken < steps → WaitsAt l first before.taken before.waiting.items (Enters e es s) → before.waiting.items ≡ ws ++ v ∷ [] → after.waiting.items ≡ ws ++ u ∷ [] → noted u.asked ≡ noted v.asked → move_view after.next (pending_view u.pending) ≡ Asks (OfType e.key_type s.key_place s.key) (InKey e es s) → IsStep l first steps before after
  entry_step ws v u {e = e} {es = es} {s = s} one i owed owes taken less h items left asked next = record {
    run = record {
      at = run_more l first (after.taken + after.owed) after ws u left next (at_steps l {m = before.taken + entry_cost l.counting} (omega (arith, one, owed, owes, taken)) (rw asked (at_entered l i (waits_last l first before.taken before.waiting.items ws v (Enters e es s) items h))));
      owes = λ more. absurd (omega (arith, owed, owes, more));
    };
    within = omega (arith, taken, less);
    turn = inl (taken, inl (rw (items, left) (same_asked ws v u asked)));
    some = rw left (some_left ws u);
  }

  -- bits are weighed: the first of them now, and the others in the turns to come
  pub weigh_step : (n : ℕ) (r : R.Reply) → 0 < n → after.owed ≡ n - 1 → after.taken ≡ before.taken + 1 → before.taken < steps → WaitsAt l first before.taken before.waiting.items (Weighs n (reply_view r)) → after.waiting.items ≡ before.waiting.items → after.next ≡ D.Answered r → IsStep l first steps before after
  weigh_step n r some owed taken less h items next =
      let open_some : 0 < length (asked_in before.waiting.items) = omega (arith, weighed_some l h.opened, length-reverse (asked_in before.waiting.items)) in
      record {
        run = record {
          at = rw (items, next) (at_steps l {m = before.taken + n} (omega (arith, some, owed, taken)) (at_weighed l h));
          owes = λ more. rw items open_some;
        };
        within = omega (arith, taken, less);
        turn = inl (taken, inl (ap asked_in items));
        some = rw items open_some;
      }

  -- the last question has its reply
  pub reply_step : (ws : List Waiting) (v u w : Waiting) {r : Reply} → before.owed ≡ 0 → after.owed ≡ before.owed → after.taken ≡ before.taken → before.taken ≤ steps → WaitsAt l first before.taken before.waiting.items (Answered r) → before.waiting.items ≡ (ws ++ v ∷ []) ++ w ∷ [] → after.waiting.items ≡ ws ++ u ∷ [] → noted u.asked ≡ noted v.asked → move_view after.next (pending_view u.pending) ≡ next_move (pending_view v.pending) r → IsStep l first steps before after
  reply_step ws v u w {r = r} owed owes taken within h items left asked next =
      let last = waits_last l first before.taken before.waiting.items (ws ++ v ∷ []) w (Answered r) items h in
      let below_it = rw (asked_push ws v, pending_push ws v) at last in
      let here = at_answered l (noted v.asked ∷ reverse (asked_in ws)) (omega arith) below_it in
      record {
        run = record {
          at = run_more l first (after.taken + after.owed) after ws u left next (at_steps l {m = before.taken} (omega (arith, owed, owes, taken)) (rw asked here));
          owes = λ more. absurd (omega (arith, owed, owes, more));
        };
        within = omega (arith, taken, within);
        turn = inr (taken, (noted w.asked, ap asked_in items ∙ asked_more (ws ++ v ∷ []) w ∙ ap (λ qs. qs ++ noted w.asked ∷ []) (sym (ap asked_in left ∙ same_asked ws v u asked))));
        some = rw left (some_left ws u);
      }

-- the first question has its reply
pub end_step : (l : Language TypeId GroupId) (first : Question TypeId GroupId) (steps taken : ℕ) (ws left : List Waiting) (w : Waiting) (r : Reply) → taken ≤ steps → WaitsAt l first taken ws (Answered r) → ws ≡ left ++ w ∷ [] → length left ≡ 0 → Says l first steps (steps - taken) (Replied r)
end_step l first steps taken ws left w r within h items none =
    let h2 = rw (items, none_left left none) at h in
    is_replied l first steps taken r within (at_end l h2)

-- a reply needs a question
pub no_end : (l : Language TypeId GroupId) (first : Question TypeId GroupId) (taken : ℕ) (ws : List Waiting) (r : Reply) → length ws ≡ 0 → WaitsAt l first taken ws (Answered r) → ⊥
no_end l first taken ws r none h =
    let h2 = rw (none_left ws none) at h in
    at_none l h2

-- one question has its reply, and none has none
pub end_or_none : (l : Language TypeId GroupId) (first : Question TypeId GroupId) (steps taken : ℕ) (ws : List Waiting) (r : Reply) → taken ≤ steps → WaitsAt l first taken ws (Answered r) → length ws < 2 → Says l first steps (steps - taken) (Replied r)
end_or_none l first steps taken [] r within h few = absurd (no_end l first taken [] r refl h)
end_or_none l first steps taken (w ∷ []) r within h few = end_step l first steps taken (w ∷ []) [] w r within h refl refl
end_or_none l first steps taken (w ∷ v ∷ ws) r within h few = absurd (omega (arith, few))

-- A turn from a run is one from another that has taken as many steps and in which the same questions wait.
pub step_of : (l : Language TypeId GroupId) (first : Question TypeId GroupId) (steps : ℕ) (before other after : Run) → before.taken ≡ other.taken → asked_in before.waiting.items ≡ asked_in other.waiting.items → IsStep l first steps before after → IsStep l first steps other after
step_of l first steps before other after taken asked s = record { run = s.run; within = s.within; turn = rw (← taken, ← asked) s.turn; some = s.some }

-- what is found at a move to which another run or move leads, which has taken as many steps
pub found_from : (l : Language TypeId GroupId) (steps : ℕ) (before mid : Run) (m n : Move TypeId GroupId) (o : Outcome) → mid.taken ≡ before.taken → ((first : Question TypeId GroupId) → WaitsAt l first before.taken before.waiting.items n → WaitsAt l first mid.taken mid.waiting.items m) → FindsAt l steps mid m o → FindsAt l steps before n o
found_from l steps before mid m n o taken lead finds = λ first at within. rw (← taken) (finds first (lead first at) (omega (arith, within, taken)))

-- what is found by a run whose next move is this one
pub finds_from : (l : Language TypeId GroupId) (steps : ℕ) (before mid : Run) (m : Move TypeId GroupId) (o : Outcome) → mid.taken ≡ before.taken → ((first : Question TypeId GroupId) → IsRun l first before → WaitsAt l first mid.taken mid.waiting.items m) → FindsAt l steps mid m o → Finds l steps before o
finds_from l steps before mid m o taken lead finds = λ first run within. rw (← taken) (finds first (lead first run) (omega (arith, within, taken)))

-- a run that has come further at no step, with the same questions open
pub passed_run : (l : Language TypeId GroupId) (first : Question TypeId GroupId) (before after : Run) → after.waiting ≡ before.waiting → after.taken ≡ before.taken → after.owed ≡ before.owed → ((taken : ℕ) → WaitsAt l first taken before.waiting.items (next_in before) → WaitsAt l first taken after.waiting.items (next_in after)) → IsRun l first before → IsRun l first after
passed_run l first before after waiting taken owed comes run = record {
  at = at_steps l {m = before.taken + before.owed} (omega (arith, taken, owed)) (comes (before.taken + before.owed) run.at);
  owes = λ more. rw waiting (run.owes (omega (arith, owed, more)));
}

-- what is found by it
pub finds_of : (l : Language TypeId GroupId) (steps : ℕ) (before mid : Run) (o : Outcome) → mid.taken ≡ before.taken → ((first : Question TypeId GroupId) → IsRun l first before → IsRun l first mid) → Finds l steps mid o → Finds l steps before o
finds_of l steps before mid o taken lead finds = λ first run within. rw (← taken) (finds first (lead first run) (omega (arith, within, taken)))

-- Turns come to an end: each takes a step, and asks one question more at most, or takes one off.
pub turns_left : (l : Language TypeId GroupId) (first : Question TypeId GroupId) (steps : ℕ) (before after : Run) → IsStep l first steps before after → 2 * (steps - after.taken) + length (asked_in after.waiting.items) < 2 * (steps - before.taken) + length (asked_in before.waiting.items)
turns_left l first steps before after s = by before.taken after.taken (asked_in before.waiting.items) (asked_in after.waiting.items) s.within s.turn
  where
    by : (taken later : ℕ) (qs rs : List (Question TypeId GroupId)) → later ≤ steps → IsTurn taken qs later rs → 2 * (steps - later) + length rs < 2 * (steps - taken) + length qs
    by taken later qs rs h (inl (more, inl same)) = omega (arith, h, more, ap length same)
    by taken later qs rs h (inl (more, inr (q, asked))) = omega (arith, h, more, ap length asked, length-append qs (q ∷ []))
    by taken later qs rs h (inr (same, (q, off))) = omega (arith, h, same, ap length off, length-append rs (q ∷ []))
