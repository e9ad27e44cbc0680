-- What types, maps and groups come to within a number of steps, by what they ask.
use Rattle.std.proofs.Common.{◌≡◌, ℕ, ◌+◌, ◌-◌, ◌≤◌, ◌<◌, ◌^◌, length, max, List, [], ◌∷◌, Some, true, false, nat_eq, refl, sym, subst, arith}
use Rattle.std.proofs.lemmas.Bool.Decides.{nat_tests}
use Rattle.cbor_data.specs.Value.{Value, uint}
use Rattle.cddl_meaning.specs.Forms as F
use Rattle.cddl_meaning.specs.Forms.{Language, Test, bits_among, bits_asked, passes, Node, Content, Group}
use Rattle.cddl_meaning.specs.Held.{Holds}
use Rattle.cddl_meaning.specs.Judges.{Reply, Takes, Fails, Yes, No, BelongsTo, is_over}
use Rattle.cddl_meaning.specs.Moves as M
use Rattle.cddl_meaning.specs.Moves.{Question, OfType, OfGroup, OfAlternative, Move, Answered, Asks, at_once, next_move, type_move, group_move}
use Rattle.cddl_match.specs.Ahead.{ComesTo, Opens, IsTypeOf, IsGroupOf}
use Rattle.cddl_match.specs.Within.{Outcome, Replied, Stopped, Says, Ends, said_view, array_outcome, entry_outcome, simple_outcome, held_outcome}
use Rattle.cddl_match.specs.declared.calls.Said.{Said}
use Rattle.cddl_match.specs.declared.calls.Said.TheVariants as S
use Rattle.cddl_match.specs.declared.calls.Stop.{Stop}
use Rattle.cddl_match.specs.declared.calls.Stop.TheVariants.{Spent, NoMemory}
use Rattle.cddl_match.proofs.Held.{reads_on, reads_none, weighs_on}
use Rattle.cddl_match.proofs.Outcomes.{says_on, ends_on, answered, few, asks, asks_stopped}
use Rattle.cddl_match.proofs.Shapes.{IsTypeReply, says_yes, type_shape}
use Rattle.cddl_match.proofs.Ways.{and_on, and_opens, opens, answers}

-- what is said, unless that has stopped
pub has_said : (said : Said) → (said ≡ S.Spent → ⊥) → (said ≡ S.NoMemory → ⊥) → (r : Reply) × (said_view said ≡ Replied r)
has_said (S.Yes next) h i = (Takes [] next 0, refl)
has_said (S.No far) h i = (Fails far, refl)
has_said S.Spent h i = absurd (h refl)
has_said S.NoMemory h i = absurd (i refl)

is_meant : (k n : ℕ) → k ≡ n → true ≡ nat_eq k n
is_meant k n h = grind (arith, nat_tests)

module _ {N G : Type 0} (l : Language N G) where
  -- a type, or a group, behind so many names
  pub type_on : {n m : N} {f : Node N G} {passed : ℕ} (p : ℕ) (x : Value) (steps mid left : ℕ) (o : Outcome) → IsTypeOf l n m passed → p < 2 ^ 64 → l.type_at m ≡ f → passed + 1 + mid ≡ steps → Ends l (type_move f p x) mid left o → Says l (OfType n p x) steps left o
  type_on {m = m} p x steps mid left o a h e i d = says_on l steps mid left o (and_opens l (a p x h) (subst (λ f. Opens l (OfType m p x) (type_move f p x) 1) e (opens l (OfType m p x))) refl) i d

  pub type_few : {n m : N} {passed : ℕ} (p : ℕ) (x : Value) (steps left : ℕ) → IsTypeOf l n m passed → p < 2 ^ 64 → steps < passed + 1 → Says l (OfType n p x) steps left (Stopped Spent)
  type_few {m = m} p x steps left a h b = few l steps left (and_opens l (a p x h) (opens l (OfType m p x)) refl) b

  pub group_on : {g h : G} {f : Group N G} {passed : ℕ} (base q : ℕ) (xs : List Value) (steps mid left : ℕ) (o : Outcome) → IsGroupOf l g h passed → l.group_at h ≡ f → passed + 1 + mid ≡ steps → Ends l (group_move f base q xs) mid left o → Says l (OfGroup g base q xs) steps left o
  group_on {h = h} base q xs steps mid left o a e i d = says_on l steps mid left o (and_opens l (a base q xs) (subst (λ f. Opens l (OfGroup h base q xs) (group_move f base q xs) 1) e (opens l (OfGroup h base q xs))) refl) i d

  pub group_few : {g h : G} {passed : ℕ} (base q : ℕ) (xs : List Value) (steps left : ℕ) → IsGroupOf l g h passed → steps < passed + 1 → Says l (OfGroup g base q xs) steps left (Stopped Spent)
  group_few {h = h} base q xs steps left a b = few l steps left (and_opens l (a base q xs) (opens l (OfGroup h base q xs)) refl) b

  -- a type that is a test
  pub test_on : {n : N} (p : ℕ) (x : Value) (t : Test) (steps left : ℕ) → l.type_at n ≡ F.Plain t → 1 + left ≡ steps → Says l (OfType n p x) steps left (Replied (M.test_reply p x (passes t x)))
  test_on {n = n} p x t steps left e i = says_on l steps left left (Replied (M.test_reply p x (passes t x))) (subst (λ f. Opens l (OfType n p x) (type_move f p x) 1) e (opens l (OfType n p x))) i (answered l left (M.test_reply p x (passes t x)))

  -- A type's yes leaves nothing, and tells no trials that failed.
  pub type_yes : {n : N} (p : ℕ) (x : Value) (steps left next far : ℕ) (xs : List Value) → p < 2 ^ 64 → Opens l (OfType n p x) (Answered (Takes xs next far)) (steps - left) × left ≤ steps → Opens l (OfType n p x) (Answered (Takes [] next 0)) (steps - left) × left ≤ steps
  type_yes {n = n} p x steps left next far xs h d = by (type_shape l h (d.0.leads (Takes xs next far) 0 at_once)) d
    where
      by : {ys : List Value} {k : ℕ} → IsTypeReply p (Takes ys next k) → Opens l (OfType n p x) (Answered (Takes ys next k)) (steps - left) × left ≤ steps → Opens l (OfType n p x) (Answered (Takes [] next 0)) (steps - left) × left ≤ steps
      by says_yes e = e

  -- What was asked has said no, or stopped, and so has what asked it.
  pub no_passes : (q : Question N G) (steps left : ℕ) (p : M.Pending N G) (said : Said) → ((far : ℕ) → next_move p (Fails far) ≡ Answered (Fails far)) → ((next : ℕ) → said ≡ S.Yes next → ⊥) → Says l q steps left (said_view said) → Ends l (Asks q p) steps left (said_view said)
  no_passes q steps left p (S.Yes next) e n h = absurd (n next refl)
  no_passes q steps left p (S.No far) e n h = asks l steps left left p (Replied (Fails far)) h (subst (λ m. Ends l m left left (Replied (Fails far))) (sym (e far)) (answered l left (Fails far)))
  no_passes q steps left p S.Spent e n h = asks_stopped l q steps left p Spent h
  no_passes q steps left p S.NoMemory e n h = asks_stopped l q steps left p NoMemory h

  -- a member of a choice has said yes, or stopped
  pub yes_passes : (q : Question N G) (steps left : ℕ) (p : M.Pending N G) (said : Said) → ((next : ℕ) → next_move p (Takes [] next 0) ≡ Answered (Takes [] next 0)) → ((far : ℕ) → said ≡ S.No far → ⊥) → Says l q steps left (said_view said) → Ends l (Asks q p) steps left (said_view said)
  yes_passes q steps left p (S.Yes next) e n h = asks l steps left left p (Replied (Takes [] next 0)) h (subst (λ m. Ends l m left left (Replied (Takes [] next 0))) (sym (e next)) (answered l left (Takes [] next 0)))
  yes_passes q steps left p (S.No far) e n h = absurd (n far refl)
  yes_passes q steps left p S.Spent e n h = asks_stopped l q steps left p Spent h
  yes_passes q steps left p S.NoMemory e n h = asks_stopped l q steps left p NoMemory h

  -- What was asked has stopped, since it has said neither.
  pub stops : (q : Question N G) (steps left : ℕ) (p : M.Pending N G) (said : Said) → ((next : ℕ) → said ≡ S.Yes next → ⊥) → ((far : ℕ) → said ≡ S.No far → ⊥) → Says l q steps left (said_view said) → Ends l (Asks q p) steps left (said_view said)
  stops q steps left p (S.Yes next) n m h = absurd (n next refl)
  stops q steps left p (S.No far) n m h = absurd (m far refl)
  stops q steps left p S.Spent n m h = asks_stopped l q steps left p Spent h
  stops q steps left p S.NoMemory n m h = asks_stopped l q steps left p NoMemory h

  -- A round has stopped.
  pub round_stops : (least : ℕ) (most : F.Most) (g : G) (base q : ℕ) (xs : List Value) (far : ℕ) (s : Stop) (steps left : ℕ) → is_over most ≡ false → Says l (OfGroup g base q xs) steps left (Stopped s) → Ends l (M.repetition least most g base q xs far) steps left (Stopped s)
  round_stops least most g base q xs far s steps left over h = subst (λ b. Ends l (M.next_round b least most g base q xs far) steps left (Stopped s)) (sym over) (asks_stopped l (OfGroup g base q xs) steps left (M.InRepeat least most g base q xs far) s h)

  pub array_ends : (g : G) (p : ℕ) (xs : List Value) (steps left : ℕ) (o : Outcome) → Says l (OfGroup g p (M.plus p 1) xs) steps left o → Ends l (M.array_move g p (Some xs)) steps left (array_outcome o)
  array_ends g p xs steps left (Replied r) h = asks l steps left left M.InArray (Replied (M.array_reply r)) h (answered l left (M.array_reply r))
  array_ends g p xs steps left (Stopped s) h = asks_stopped l (OfGroup g p (M.plus p 1) xs) steps left M.InArray s h

  pub simple_ends : (m : N) (p n steps left : ℕ) (o : Outcome) → Says l (OfType m p (uint n)) steps left o → Ends l (M.simple_move m p (Some n)) steps left (simple_outcome p o)
  simple_ends m p n steps left (Replied (Takes xs next far)) h = asks l steps left left (M.InSimple p) (Replied (Takes [] (M.plus p 1) 0)) h (answered l left (Takes [] (M.plus p 1) 0))
  simple_ends m p n steps left (Replied (Fails far)) h = asks l steps left left (M.InSimple p) (Replied (Fails p)) h (answered l left (Fails p))
  simple_ends m p n steps left (Stopped s) h = asks_stopped l (OfType m p (uint n)) steps left (M.InSimple p) s h

  -- A test behind a type: the bits that it asks about are weighed, or those are too many.
  pub tested_ends : (t : Test) (p next : ℕ) (x : Value) (steps left : ℕ) → bits_asked t x + left ≡ steps → Ends l (M.tested_move t p next x) steps left (Replied (M.such_reply p next (passes t x)))
  tested_ends (bits_among rs) p next x steps left e = ends_on l steps left left (Replied (M.such_reply p next (passes (bits_among rs) x))) (weighs_on l (bits_asked (bits_among rs) x) (M.such_reply p next (passes (bits_among rs) x))) e (answered l left (M.such_reply p next (passes (bits_among rs) x)))
  tested_ends t p next x steps left e = subst (λ n. Ends l (Answered (M.such_reply p next (passes t x))) n left (Replied (M.such_reply p next (passes t x)))) (omega (arith, e)) (answered l left (M.such_reply p next (passes t x)))

  pub too_many_bits : (t : Test) (p next : ℕ) (x : Value) (steps left : ℕ) → steps < bits_asked t x → Ends l (M.tested_move t p next x) steps left (Stopped Spent)
  too_many_bits (bits_among rs) p next x steps left h = λ r w d. by h d
    where
      by : {n w : ℕ} {s r : Reply} → steps < n → M.LeadsTo {N = N} {G = G} l (M.Weighs n s) r w → steps < w
      by i M.weighs = i
  too_many_bits t p next x steps left h = absurd (omega (arith, h))

  -- a tag of the number that is meant
  pub meant_ends : (k n : ℕ) (m : N) (p : ℕ) (y : Value) (steps left : ℕ) (o : Outcome) → k ≡ n → Ends l (M.content_move m p y true) steps left o → Ends l (M.tag_move (F.exactly k) m p (Some (n, y))) steps left o
  meant_ends k n m p y steps left o e h = subst (λ b. Ends l (M.content_move m p y b) steps left o) (is_meant k n e) h

  -- a byte string that holds this, or nothing
  pub held_ends : (c : Content) (b : List ℕ) (n : N) (p next : ℕ) (y : Value) (steps left : ℕ) (o : Outcome) → Holds c b y → Says l (OfType n 0 y) steps left o → Ends l (M.Reads c b n p next) steps left (held_outcome p next o)
  held_ends c b n p next y steps left (Replied (Takes xs after far)) k h = ends_on l steps steps left (Replied (Takes [] next 0)) (reads_on l c b n p next y k) (omega arith) (asks l steps left left (M.InHeld p next) (Replied (Takes [] next 0)) h (answered l left (Takes [] next 0)))
  held_ends c b n p next y steps left (Replied (Fails far)) k h = ends_on l steps steps left (Replied (Fails p)) (reads_on l c b n p next y k) (omega arith) (asks l steps left left (M.InHeld p next) (Replied (Fails p)) h (answered l left (Fails p)))
  held_ends c b n p next y steps left (Stopped s) k h = ends_on l steps steps left (Stopped s) (reads_on l c b n p next y k) (omega arith) (asks_stopped l (OfType n 0 y) steps left (M.InHeld p next) s h)

  pub nothing_held : (c : Content) (b : List ℕ) (n : N) (p next steps : ℕ) → ((y : Value) → Holds c b y → ⊥) → Ends l (M.Reads c b n p next) steps steps (Replied (Fails p))
  nothing_held c b n p next steps h = ends_on l steps steps steps (Replied (Fails p)) (reads_none l c b n p next h) (omega arith) (answered l steps (Fails p))

  pub entry_ends : (m : N) (base q : ℕ) (x : Value) (xs : List Value) (steps left : ℕ) (o : Outcome) → Says l (OfType m q x) steps left o → Ends l (M.entry_move m base q (x ∷ xs)) steps left (entry_outcome base xs o)
  entry_ends m base q x xs steps left (Replied (Takes ys next far)) h = asks l steps left left (M.InEntry base xs) (Replied (Takes xs next base)) h (answered l left (Takes xs next base))
  entry_ends m base q x xs steps left (Replied (Fails far)) h = asks l steps left left (M.InEntry base xs) (Replied (Fails (max base far))) h (answered l left (Fails (max base far)))
  entry_ends m base q x xs steps left (Stopped s) h = asks_stopped l (OfType m q x) steps left (M.InEntry base xs) s h

  -- A loop: what was asked so far comes to a question, which is replied to.
  pub goes_on : {first : Move N G} {q : Question N G} {s : Reply} (p : M.Pending N G) (steps mid left : ℕ) → ComesTo l first (Asks q p) (steps - mid) → mid ≤ steps → Says l q mid left (Replied s) → ComesTo l first (next_move p s) (steps - left)
  goes_on p steps mid left a b h = and_on l a (answers l p h.0) (omega (arith, b, h.1))

  -- It ends: what was asked so far comes to a move with this outcome.
  pub ends_so : {first m : Move N G} (steps mid left : ℕ) (o : Outcome) → ComesTo l first m (steps - mid) → mid ≤ steps → Ends l m mid left o → Ends l first steps left o
  ends_so steps mid left o a b h = ends_on l steps mid left o a (omega (arith, b)) h

  -- An entry has taken a pair, or kept it, or handed it on; or that has stopped. Its key type has said yes.
  abbrev KeyYes : F.MapEntry N → List (F.MapEntry N) → M.Sorting N → (steps left : ℕ) → Type 0
  KeyYes e es s steps left = ComesTo l (M.next_entry (e ∷ es) s) (Asks (OfType e.value_type s.value_place s.held) (M.InValue e es s)) (steps - left) × left ≤ steps

  pub key_yes : {first : Move N G} (e : F.MapEntry N) (es : List (F.MapEntry N)) (s : M.Sorting N) (steps mid some : ℕ) → ComesTo l first (M.next_entry (e ∷ es) s) (steps - mid) → mid ≤ steps → KeyYes e es s mid some → ComesTo l first (Asks (OfType e.value_type s.value_place s.held) (M.InValue e es s)) (steps - some) × some ≤ steps
  key_yes e es s steps mid some a b k = (and_on l a k.0 (omega (arith, b, k.1)), omega (arith, b, k.1))

  pub pair_taken : {first : Move N G} {later : ℕ} (e : F.MapEntry N) (es : List (F.MapEntry N)) (s : M.Sorting N) (after steps mid some left : ℕ) → after ≡ length es → ComesTo l first (M.next_entry (e ∷ es) s) (steps - mid) → mid ≤ steps → KeyYes e es s mid some → Says l (OfType e.value_type s.value_place s.held) some left (Replied (Takes [] later 0)) → ComesTo l first (M.sorted s (BelongsTo after Yes)) (steps - left) × left ≤ steps
  pair_taken e es s after steps mid some left i a b k v = let x = key_yes e es s steps mid some a b k in (rw i (goes_on (M.InValue e es s) steps some left x.0 x.1 v), omega (arith, x.1, v.1))

  pub pair_kept : {first : Move N G} (e : F.MapEntry N) (es : List (F.MapEntry N)) (s : M.Sorting N) (after far steps mid some left : ℕ) → after ≡ length es → e.cuts ≡ true → ComesTo l first (M.next_entry (e ∷ es) s) (steps - mid) → mid ≤ steps → KeyYes e es s mid some → Says l (OfType e.value_type s.value_place s.held) some left (Replied (Fails far)) → ComesTo l first (M.sorted s (BelongsTo after (No far))) (steps - left) × left ≤ steps
  pair_kept {first = first} e es s after far steps mid some left i c a b k v =
      let x = key_yes e es s steps mid some a b k in
      (rw i (subst (λ cuts. ComesTo l first (M.after_value cuts es s far) (steps - left)) c (goes_on (M.InValue e es s) steps some left x.0 x.1 v)), omega (arith, x.1, v.1))

  pub pair_handed_on : {first : Move N G} {far : ℕ} (e : F.MapEntry N) (es : List (F.MapEntry N)) (s : M.Sorting N) (steps mid some left : ℕ) → e.cuts ≡ false → ComesTo l first (M.next_entry (e ∷ es) s) (steps - mid) → mid ≤ steps → KeyYes e es s mid some → Says l (OfType e.value_type s.value_place s.held) some left (Replied (Fails far)) → ComesTo l first (M.next_entry es s) (steps - left)
  pair_handed_on {first = first} {far = far} e es s steps mid some left c a b k v =
      let x = key_yes e es s steps mid some a b k in
      subst (λ cuts. ComesTo l first (M.after_value cuts es s far) (steps - left)) c (goes_on (M.InValue e es s) steps some left x.0 x.1 v)
