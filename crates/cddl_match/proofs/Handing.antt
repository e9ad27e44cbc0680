-- What the entries of an alternative do with a pair, one after the other.
use Rattle.std.proofs.Common.{◌≡◌, ℕ, ◌+◌, ◌-◌, ◌<◌, ◌≤◌, ◌++◌, length, List, [], ◌∷◌, true, false, refl, sym, ap, subst, ◌∙◌, append_assoc, arith}
use Rattle.std.proofs.lemmas.List.{append-nil, length-append}
use Rattle.std.proofs.lemmas.List.Elements.{All-head, All-tail}
use Rattle.std.specs.Prelude.{All, Err, Ok, Some}
use Rattle.cbor_data.specs.Value.{Pairs, place_count}
use Rattle.item_nodes.specs.View.{view}
use Rattle.item_nodes.specs.declared.item.Item.{Item}
use Rattle.cddl_meaning.specs.Forms as F
use Rattle.cddl_meaning.specs.Forms.{Language}
use Rattle.cddl_meaning.specs.Judges as J
use Rattle.cddl_meaning.specs.Judges.{Takes, Fails}
use Rattle.cddl_meaning.specs.Moves as M
use Rattle.cddl_meaning.specs.Moves.{OfType}
use Rattle.cddl_match.specs.Ahead.{ComesTo}
use Rattle.cddl_match.specs.Entering.{ArePassed, IsPassed}
use Rattle.cddl_match.specs.Tellings.{Becomes, BelongsBy, HandsOn, Keeps, KeySays, Meets, PassesOn, Sorts, sorting_of}
use Rattle.match_moves.specs.Views.{fate_view}
use Rattle.cddl_match.specs.Within.{Outcome, Replied, Stopped, Says}
use Rattle.match_moves.specs.declared.questions.Fate.{Fate}
use Rattle.match_moves.specs.declared.questions.Fate.TheVariants as T
use Rattle.cddl_match.specs.declared.calls.Stop.{Stop}
use Rattle.cddl_match.specs.declared.calls.Stop.TheVariants.{Spent, NoMemory}
use Rattle.cddl_match.proofs.Outcomes.{asks_stopped, begins, ends_on}
use Rattle.cddl_match.proofs.Sayings.{ends_so, key_yes, pair_taken, pair_kept, pair_handed_on}
use Rattle.cddl_match.proofs.Ways.{and_on, answers, enters_on, passes_on, stays}

module _ {N G : Type 0} (l : Language N G) (place : ℕ) (both : Item × Item) (e : F.MapEntry N) where
  -- An entry is passed over, which takes no step; or it is asked, which takes one, and then its key type.
  pub key_passed : (far steps : ℕ) → F.is_passed_over l.counting e.key_type (view both.0) ≡ true → KeySays l place both e steps steps (Replied (Fails far))
  key_passed far steps i = (λ es all base rest tally. and_on l (passes_on l e es (sorting_of all base place both rest tally) i) (stays l (M.next_entry es (sorting_of all base place both rest tally))) (omega arith), omega arith)

  pub key_asked : (steps mid left : ℕ) (o : Outcome) → F.is_passed_over l.counting e.key_type (view both.0) ≡ false → F.entry_cost l.counting + mid ≡ steps → Says l (OfType e.key_type place (view both.0)) mid left o → KeySays l place both e steps left o
  key_asked steps mid left (Replied r) i c k = (λ es all base rest tally. (let s = sorting_of all base place both rest tally in and_on l (enters_on l e es s i) (answers l (M.InKey e es s) k.0) (omega (arith, c, k.1))), omega (arith, c, k.1))
  key_asked steps mid left (Stopped Spent) i c k = λ es all base rest tally.
      let s = sorting_of all base place both rest tally in
      ends_on l steps mid left (Stopped Spent) (enters_on l e es s i) c (asks_stopped l (OfType e.key_type place (view both.0)) mid left (M.InKey e es s) Spent k)
  key_asked steps mid left (Stopped NoMemory) i c k = tt

  pub key_few : (steps left : ℕ) → F.is_passed_over l.counting e.key_type (view both.0) ≡ false → steps < F.entry_cost l.counting → KeySays l place both e steps left (Stopped Spent)
  key_few steps left i h = λ es all base rest tally r w d. (let x = (enters_on l e es (sorting_of all base place both rest tally) i).comes r w d in omega (arith, x.2, h))

-- What an entry comes to whose key type has said yes: by what its value type says.
module _ {N G : Type 0} (l : Language N G) (place : ℕ) (both : Item × Item) (e : F.MapEntry N) (steps some left : ℕ) (k : KeySays l place both e steps some (Replied (Takes [] 0 0))) where
  abbrev value : M.Question N G
  value = OfType e.value_type (M.plus place (place_count (view both.0))) (view both.1)

  at_entry : (es all : List (F.MapEntry N)) (base : ℕ) (rest : Pairs) (tally : M.Tally) → ComesTo l (M.next_entry (e ∷ es) (sorting_of all base place both rest tally)) (M.next_entry (e ∷ es) (sorting_of all base place both rest tally)) (steps - steps)
  at_entry es all base rest tally = begins l (M.next_entry (e ∷ es) (sorting_of all base place both rest tally)) steps

  -- it has another value, which the entry lets pass
  pub other_value : {far : ℕ} → e.cuts ≡ false → Says l value some left (Replied (Fails far)) → PassesOn l place both e (steps - left) × (left ≤ steps)
  other_value c v = (λ es all base rest tally. pair_handed_on l e es (sorting_of all base place both rest tally) steps steps some left c (at_entry es all base rest tally) (omega arith) (k.0 es all base rest tally, k.1) v, omega (arith, k.1, v.1))

  pub its_value : {later : ℕ} → Says l value some left (Replied (Takes [] later 0)) → Keeps l place both e J.Yes (steps - left) × (left ≤ steps)
  its_value v = (λ es all base rest tally. (pair_taken l e es (sorting_of all base place both rest tally) (length es) steps steps some left refl (at_entry es all base rest tally) (omega arith) (k.0 es all base rest tally, k.1) v).0, omega (arith, k.1, v.1))

  pub kept : {far : ℕ} → e.cuts ≡ true → Says l value some left (Replied (Fails far)) → Keeps l place both e (J.No far) (steps - left) × (left ≤ steps)
  kept {far = far} c v = (λ es all base rest tally. (pair_kept l e es (sorting_of all base place both rest tally) (length es) far steps steps some left refl c (at_entry es all base rest tally) (omega arith) (k.0 es all base rest tally, k.1) v).0, omega (arith, k.1, v.1))

  pub value_spent : (after : ℕ) → Says l value some left (Stopped Spent) → Meets l place both e after steps left (Err Spent)
  value_spent after v = λ es all base rest tally.
      let s = sorting_of all base place both rest tally in
      let x = key_yes l e es s steps steps some (at_entry es all base rest tally) (omega arith) (k.0 es all base rest tally, k.1) in
      ends_so l steps some left (Stopped Spent) x.0 x.1 (asks_stopped l (OfType e.value_type s.value_place s.held) some left (M.InValue e es s) Spent v)

module _ {N G : Type 0} (l : Language N G) where
  -- no entry was tried yet
  pub none_tried : (place : ℕ) (both : Item × Item) (es : List (F.MapEntry N)) (steps : ℕ) → HandsOn l place both es es (steps - steps)
  none_tried place both es steps = record {
    first = [];
    parts = refl;
    comes = λ xs all base rest tally. begins l (M.next_entry xs (sorting_of all base place both rest tally)) steps;
  }

  module _ (place : ℕ) (both : Item × Item) (es : List (F.MapEntry N)) (e : F.MapEntry N) (others : List (F.MapEntry N)) (steps mid : ℕ) (h : HandsOn l place both es (e ∷ others) (steps - mid)) (b : mid ≤ steps) where
    abbrev front : List (F.MapEntry N)
    front = h.first ++ e ∷ []

    in_front : (xs : List (F.MapEntry N)) → front ++ xs ≡ h.first ++ (e ∷ xs)
    in_front xs = append_assoc h.first (e ∷ []) xs

    -- It is handed on.
    pub handed_on : (left : ℕ) → PassesOn l place both e (mid - left) × (left ≤ mid) → HandsOn l place both es others (steps - left)
    handed_on left m = record {
      first = front;
      parts = h.parts ∙ sym (in_front others);
      comes = λ xs all base rest tally. rw (in_front xs) (and_on l (h.comes (e ∷ xs) all base rest tally) (m.0 xs all base rest tally) (omega (arith, b, m.1)));
    }

    belongs : {after : ℕ} (left : ℕ) {answer : J.Answer} → after ≡ length others → ((xs all : List (F.MapEntry N)) (base : ℕ) (rest : Pairs) (tally : M.Tally) → ComesTo l (M.next_entry (h.first ++ (e ∷ xs)) (sorting_of all base place both rest tally)) (M.sorted (sorting_of all base place both rest tally) (J.BelongsTo (length xs) answer)) (steps - left)) → BelongsBy l place both es after answer (steps - left)
    belongs left i f = record {
      first = front;
      others = others;
      parts = h.parts ∙ sym (in_front others);
      some = omega (arith, length-append h.first (e ∷ []));
      many = sym i;
      comes = λ xs all base rest tally. rw (in_front xs) (f xs all base rest tally);
    }

    here : (all : List (F.MapEntry N)) (base : ℕ) (rest : Pairs) (tally : M.Tally) → ComesTo l (M.next_entry es (sorting_of all base place both rest tally)) (M.next_entry (e ∷ others) (sorting_of all base place both rest tally)) (steps - mid)
    here all base rest tally = subst (λ xs. ComesTo l (M.next_entry xs (sorting_of all base place both rest tally)) (M.next_entry (e ∷ others) (sorting_of all base place both rest tally)) (steps - mid)) (sym h.parts) (h.comes (e ∷ others) all base rest tally)

    keeps : (after left : ℕ) (answer : J.Answer) → after ≡ length others → Keeps l place both e answer (mid - left) × (left ≤ mid) → BelongsBy l place both es after answer (steps - left)
    keeps after left answer i m = belongs left i (λ xs all base rest tally. and_on l (h.comes (e ∷ xs) all base rest tally) (m.0 xs all base rest tally) (omega (arith, b, m.1)))

    -- It belongs to the entry.
    pub met : (after left : ℕ) (fate : Fate) → after ≡ length others → Meets l place both e after mid left (Ok (Some fate)) → Sorts l place both es steps left (Ok fate)
    met after left (T.Matches n) i m = (keeps n left J.Yes (m.0 ∙ i) m.1, omega (arith, b, m.1.1))
    met after left (T.Fails n far) i m = (keeps n left (J.No far) (m.0 ∙ i) m.1, omega (arith, b, m.1.1))
    met after left (T.Stray q) i m = absurd m

    -- What was asked has stopped.
    pub met_stops : (after left : ℕ) (stop : Stop) → Meets l place both e after mid left (Err stop) → Sorts l place both es steps left (Err stop)
    met_stops after left Spent m = λ all base rest tally. ends_so l steps mid left (Stopped Spent) (here all base rest tally) b (m others all base rest tally)
    met_stops after left NoMemory m = tt

  -- Entries that are passed over take no step.
  over_passed : (before xs : List (F.MapEntry N)) (s : M.Sorting N) → All (IsPassed l s.key) before → ComesTo l (M.next_entry (before ++ xs) s) (M.next_entry xs s) 0
  over_passed [] xs s h = stays l (M.next_entry xs s)
  over_passed (e ∷ es) xs s h = and_on l (passes_on l e (es ++ xs) s (All-head (IsPassed l s.key) e es h)) (over_passed es xs s (All-tail (IsPassed l s.key) e es h)) (omega arith)

  -- Where an index leads past entries, the pair is handed on to those after them.
  pub handed_past : (place : ℕ) (both : Item × Item) (es left others : List (F.MapEntry N)) (k : ℕ) → HandsOn l place both es left k → ArePassed l (view both.0) left others → HandsOn l place both es others k
  handed_past place both es left others k h p = record {
    first = h.first ++ p.before;
    parts = h.parts ∙ ap (λ xs. h.first ++ xs) p.whole ∙ sym (append_assoc h.first p.before others);
    comes = λ xs all base rest tally. rw (append_assoc h.first p.before xs) (and_on l (h.comes (p.before ++ xs) all base rest tally) (over_passed p.before xs (sorting_of all base place both rest tally) p.each) (omega arith));
  }

  -- It belongs to no entry.
  pub is_stray : (place : ℕ) (both : Item × Item) (es : List (F.MapEntry N)) (k : ℕ) → HandsOn l place both es [] k → Becomes l place both es (T.Stray place) k
  is_stray place both es k h = λ all base rest tally. subst (λ xs. ComesTo l (M.next_entry xs (sorting_of all base place both rest tally)) (M.sorted (sorting_of all base place both rest tally) (J.Stray place)) k) (append-nil h.first ∙ sym (h.parts ∙ append-nil h.first)) (h.comes [] all base rest tally)

  -- What becomes of a pair becomes of it whatever else there is.
  pub becomes_so : (place : ℕ) (both : Item × Item) (es : List (F.MapEntry N)) (fate : Fate) (k : ℕ) → Becomes l place both es fate k → (all : List (F.MapEntry N)) (base : ℕ) (rest : Pairs) (tally : M.Tally) → ComesTo l (M.next_entry es (sorting_of all base place both rest tally)) (M.sorted (sorting_of all base place both rest tally) (fate_view fate)) k
  becomes_so place both es (T.Stray q) k h all base rest tally = h all base rest tally
  becomes_so place both es (T.Matches after) k h all base rest tally = by_parts h all base rest tally
    where
      by_parts : BelongsBy l place both es after J.Yes k → (all : List (F.MapEntry N)) (base : ℕ) (rest : Pairs) (tally : M.Tally) → ComesTo l (M.next_entry es (sorting_of all base place both rest tally)) (M.sorted (sorting_of all base place both rest tally) (J.BelongsTo after J.Yes)) k
      by_parts b all base rest tally = rw (b.parts, sym b.many) (b.comes b.others all base rest tally)
  becomes_so place both es (T.Fails after far) k h all base rest tally = by_parts h all base rest tally
    where
      by_parts : BelongsBy l place both es after (J.No far) k → (all : List (F.MapEntry N)) (base : ℕ) (rest : Pairs) (tally : M.Tally) → ComesTo l (M.next_entry es (sorting_of all base place both rest tally)) (M.sorted (sorting_of all base place both rest tally) (J.BelongsTo after (J.No far))) k
      by_parts b all base rest tally = rw (b.parts, sym b.many) (b.comes b.others all base rest tally)
