-- Room beside that for questions is needed only where the last question is one of a map or of what a byte string holds.
use Rattle.std.proofs.Common.{◌≡◌, ◌≤◌, ◌⊎◌, inl, inr, ℕ, List, [], ◌∷◌, ◌++◌, reverse, refl, ap, sym, subst, ◌∙◌}
use Rattle.std.specs.Prelude.{Bool, true, false, ◌||◌, zero, suc, Option, Some, None, nat_eq, length, vec_capacity, vec_len}
use Rattle.std.proofs.lemmas.List.{reverse-append, reverse-reverse}
use Rattle.cbor_data.specs.Value.{Value, Pairs, no_pairs, pair}
use Rattle.cddl_meaning.specs.Forms.{TagNumber, any_number, exactly, such_as, MapEntry, Node, Plain, Ref, Choice, ArrayOf, TagOf, SimpleBy, MapOf, Both, Such, Holding, Most, Group, Entry, GroupRef, Sequence, Alternatives, Repeat, Language, members_in, tag_in, simple_in, Test, bits_among}
use Rattle.cddl_meaning.specs.Judges.{Reply, Takes, Fails, is_over}
use Rattle.cddl_meaning.specs.Moves.{Question, OfType, OfGroup, OfAlternative, Pending, InRef, InChoice, InArray, InHead, InSimple, InEntry, InSequence, InAlternatives, InRepeat, InMap, InKey, InValue, InLeft, InSuch, InHolder, InHeld, Sorting, Tally, Move, Answered, Asks, Tries, Enters, Reads, next_member, next_part, next_alternative, next_round, after_round, end_of_rounds, array_move, content_move, tag_move, simple_move, next_pair, next_entry, after_value, type_move, entry_move, group_move, first_move, next_move, Weighs, tested_move}
use Rattle.cddl_match.specs.Machine.{LastNeedsRoom, NeedsMore, WaitsAt, asked_in, is_alternative, last_of, next_in, pending_in}
use Rattle.match_moves.specs.Views.{move_view}
use Rattle.match_moves.specs.declared.questions.Move as C
use Rattle.cddl_match.specs.declared.stack.Run.{Run}
use Rattle.table_nodes.specs.declared.nodes.GroupId.{GroupId}
use Rattle.table_nodes.specs.declared.nodes.TypeId.{TypeId}
use Rattle.cddl_match.specs.Open.{ComesUpTo, begins, goes_on, tries, passes_over, enters, reads, reads_nothing, AreOpenWith, nothing, further, NeedsRoom, of_map, of_alternative, of_held, weighs}

module _ {N G : Type 0} where
  -- what is asked of a map, or about a byte string
  abbrev pub needs_more : Pending N G → Bool
  needs_more (InMap ess base ps sofar) = true
  needs_more (InHolder c n p x) = true
  needs_more _ = false

  abbrev pub takes_room : Move N G → Bool
  takes_room (Answered r) = false
  takes_room (Asks q o) = needs_more o || is_alternative q
  takes_room (Tries s) = false
  takes_room (Enters e es s) = false
  takes_room (Reads c b n p next) = true
  takes_room (Weighs n r) = false

module _ (N G : Type 0) where
  abbrev Not : Move N G → Type 0
  Not m = takes_room m ≡ true → ⊥

  tested_not : (t : Test) (p next : ℕ) (x : Value) → Not (tested_move t p next x)
  tested_not (bits_among rs) p next x h = cc
  tested_not t p next x h = cc

  member_not : (ms : List N) (p : ℕ) (x : Value) (far : ℕ) → Not (next_member ms p x far)
  member_not [] p x far h = cc
  member_not (m ∷ ms) p x far h = cc

  part_not : (gs : List G) (base q : ℕ) (xs : List Value) (far : ℕ) → Not (next_part gs base q xs far)
  part_not [] base q xs far h = cc
  part_not (g ∷ gs) base q xs far h = cc

  alternative_not : (gs : List G) (base q : ℕ) (xs : List Value) (far : ℕ) → Not (next_alternative gs base q xs far)
  alternative_not [] base q xs far h = cc
  alternative_not (g ∷ gs) base q xs far h = cc

  round_not : (b : Bool) (least : ℕ) (most : Most) (g : G) (base q : ℕ) (xs : List Value) (far : ℕ) → Not (next_round b least most g base q xs far)
  round_not true least most g base q xs far h = cc
  round_not false least most g base q xs far h = cc

  after_not : (b : Bool) (least : ℕ) (most : Most) (g : G) (base q : ℕ) (xs : List Value) (far : ℕ) (left : List Value) (next : ℕ) → Not (after_round b least most g base q xs far left next)
  after_not true least most g base q xs far left next h = cc
  after_not false least most g base q xs far left next h = round_not _ _ _ _ _ _ _ _ h

  end_not : (least : ℕ) (xs : List Value) (q far : ℕ) → Not (end_of_rounds least xs q far)
  end_not zero xs q far h = cc
  end_not (suc least) xs q far h = cc

  array_not : (g : G) (p : ℕ) (o : Option (List Value)) → Not (array_move g p o)
  array_not g p None h = cc
  array_not g p (Some xs) h = cc

  content_not : (m : N) (p : ℕ) (y : Value) (b : Bool) → Not (content_move m p y b)
  content_not m p y true h = cc
  content_not m p y false h = cc

  tag_not : (t : TagNumber N) (m : N) (p : ℕ) (o : Option (ℕ × Value)) → Not (tag_move t m p o)
  tag_not t m p None h = cc
  tag_not any_number m p (Some (n, y)) h = cc
  tag_not (exactly k) m p (Some (n, y)) h = content_not m p y (nat_eq k n) h
  tag_not (such_as k) m p (Some (n, y)) h = cc

  simple_not : (m : N) (p : ℕ) (o : Option ℕ) → Not (simple_move m p o)
  simple_not m p None h = cc
  simple_not m p (Some n) h = cc

  entry_not : (m : N) (base q : ℕ) (xs : List Value) → Not (entry_move m base q xs)
  entry_not m base q [] h = cc
  entry_not m base q (x ∷ xs) h = cc

  pair_not : (es : List (MapEntry N)) (base q : ℕ) (ps : Pairs) (t : Tally) → Not (next_pair es base q ps t)
  pair_not es base q no_pairs t h = cc
  pair_not es base q (pair k x ps) t h = cc

  next_entry_not : (es : List (MapEntry N)) (s : Sorting N) → Not (next_entry es s)
  next_entry_not [] s h = pair_not _ _ _ s.rest _ h
  next_entry_not (e ∷ es) s h = cc

  value_not : (b : Bool) (es : List (MapEntry N)) (s : Sorting N) (far : ℕ) → Not (after_value b es s far)
  value_not true es s far h = pair_not _ _ _ s.rest _ h
  value_not false es s far h = next_entry_not es s h

  group_not : (g : Group N G) (base q : ℕ) (xs : List Value) → Not (group_move g base q xs)
  group_not (Entry m) base q xs h = entry_not m base q xs h
  group_not (GroupRef g) base q xs h = cc
  group_not (Sequence gs) base q xs h = part_not gs base q xs base h
  group_not (Alternatives gs) base q xs h = alternative_not gs base q xs base h
  group_not (Repeat least most g) base q xs h = round_not (is_over most) least most g base q xs base h

  -- what needs room was asked by what needs it
  next_needs : (o : Pending N G) (p : Question N G) (r : Reply) → takes_room (next_move o r) ≡ true → takes_room (Asks p o) ≡ true
  next_needs InRef p r h = cc
  next_needs (InChoice ms b x far) p (Takes left next later) h = cc
  next_needs (InChoice ms b x far) p (Fails later) h = absurd (member_not ms b x _ h)
  next_needs InArray p r h = cc
  next_needs (InHead m b y) p (Takes left next later) h = cc
  next_needs (InHead m b y) p (Fails later) h = cc
  next_needs (InSimple b) p (Takes left next later) h = cc
  next_needs (InSimple b) p (Fails later) h = cc
  next_needs (InEntry base xs) p (Takes left next later) h = cc
  next_needs (InEntry base xs) p (Fails later) h = cc
  next_needs (InSequence gs base far) p (Takes left next later) h = absurd (part_not gs base next left _ h)
  next_needs (InSequence gs base far) p (Fails later) h = cc
  next_needs (InAlternatives gs base q xs far) p (Takes left next later) h = cc
  next_needs (InAlternatives gs base q xs far) p (Fails later) h = absurd (alternative_not gs base q xs _ h)
  next_needs (InRepeat least most g base q xs far) p (Takes left next later) h = absurd (after_not (nat_eq (length left) (length xs)) least most g base q xs _ left next h)
  next_needs (InRepeat least most g base q xs far) p (Fails later) h = absurd (end_not least xs q _ h)
  next_needs (InMap ess base ps sofar) p r h = refl
  next_needs (InKey e es s) p (Takes left next later) h = cc
  next_needs (InKey e es s) p (Fails later) h = absurd (next_entry_not es s h)
  next_needs (InValue e es s) p (Takes left next later) h = absurd (pair_not _ _ _ s.rest _ h)
  next_needs (InValue e es s) p (Fails later) h = absurd (value_not e.cuts es s later h)
  next_needs (InLeft n b x) p (Takes left next later) h = cc
  next_needs (InLeft n b x) p (Fails later) h = cc
  next_needs (InSuch t b x) p (Takes left next later) h = absurd (tested_not t b next x h)
  next_needs (InSuch t b x) p (Fails later) h = cc
  next_needs (InHolder c n b x) p r h = refl
  next_needs (InHeld b next) p (Takes left a later) h = cc
  next_needs (InHeld b next) p (Fails later) h = cc

turned : {A : Type 0} (xs : List A) (x : A) (ys : List A) → reverse xs ≡ x ∷ ys → xs ≡ reverse ys ++ x ∷ []
turned xs x ys e = sym (reverse-reverse xs) ∙ ap reverse e ∙ reverse-append (x ∷ []) ys

module _ {N G : Type 0} (l : Language N G) where
  type_needs : (n : N) (p : ℕ) (x : Value) (f : Node N G) → l.type_at n ≡ f → takes_room (type_move f p x) ≡ true → NeedsRoom l (OfType n p x)
  type_needs n p x (Plain t) e h = cc
  type_needs n p x (Ref m) e h = cc
  type_needs n p x (Choice ms) e h = absurd (member_not N G ms p x p h)
  type_needs n p x (ArrayOf g) e h = absurd (array_not N G g p (members_in x) h)
  type_needs n p x (TagOf t m) e h = absurd (tag_not N G t m p (tag_in x) h)
  type_needs n p x (SimpleBy m) e h = absurd (simple_not N G m p (simple_in x) h)
  type_needs n p x (MapOf ess) e h = of_map e
  type_needs n p x (Both m k) e h = cc
  type_needs n p x (Such m t) e h = cc
  type_needs n p x (Holding m c k) e h = of_held e

  first_needs : (q : Question N G) → takes_room (first_move l q) ≡ true → NeedsRoom l q
  first_needs (OfType n p x) h = type_needs n p x (l.type_at n) refl h
  first_needs (OfGroup g base q xs) h = absurd (group_not N G (l.group_at g) base q xs h)
  first_needs (OfAlternative es base ps) h = of_alternative

  comes_needs : {q : Question N G} {m : Move N G} → ComesUpTo l q m → takes_room m ≡ true → NeedsRoom l q
  comes_needs (begins {q = q}) h = first_needs q h
  comes_needs (goes_on {q = p} {o = o} {r = r} c d) h = comes_needs c (next_needs N G o p r h)
  comes_needs (tries {s = s} c) h = absurd (next_entry_not N G s.entries s h)
  comes_needs (passes_over {es = es} {s = s} i c) h = absurd (next_entry_not N G es s h)
  comes_needs (enters i c) h = cc
  comes_needs (weighs c) h = cc
  comes_needs (reads k c) h = cc
  comes_needs (reads_nothing k c) h = cc

  pub last_needs : {first : Question N G} {os : List (Pending N G)} {m : Move N G} (qs rs : List (Question N G)) → is_alternative first ≡ false → rs ≡ reverse qs → AreOpenWith l first rs os m → takes_room m ≡ true → (q : Question N G) × (left : List (Question N G)) × (qs ≡ left ++ q ∷ []) × NeedsRoom l q
  last_needs qs [] a e nothing h = cc
  last_needs qs (q ∷ rs) a e (further o c) h = (q, reverse rs, turned qs q rs (sym e), comes_needs c h)

pub or_so : {P Q R : Type 0} → P ⊎ Q → (Q → R) → P ⊎ R
or_so (inl p) f = inl p
or_so (inr q) f = inr (f q)

pub or_true : {N G : Type 0} (o : Pending N G) (q : Question N G) → is_alternative q ≡ true → takes_room (Asks q o) ≡ true
or_true o q h = by (needs_more o) h
  where
    by : {b : Bool} (a : Bool) → b ≡ true → (a || b) ≡ true
    by true h = refl
    by false h = h

-- the last question needs room, where the run did not begin with an alternative
pub room_needed : (l : Language TypeId GroupId) (r : Run) (m : C.Move) → r.next ≡ m → takes_room (move_view m (last_of (pending_in r.waiting.items))) ≡ true → NeedsMore l r (next_in r)
room_needed l r m next e = subst (λ m. NeedsMore l r (move_view m (last_of (pending_in r.waiting.items)))) (sym next) (needed (move_view m (last_of (pending_in r.waiting.items))) e)
  where
    needed : (m : Move TypeId GroupId) → takes_room m ≡ true → NeedsMore l r m
    needed m e first taken a h = last_needs l (asked_in r.waiting.items) (reverse (asked_in r.waiting.items)) a refl h.opened e

-- what is wanted by a run that has come further with the same questions open was wanted before
pub wants_before : (l : Language TypeId GroupId) (before mid : Run) → mid.waiting ≡ before.waiting → ((first : Question TypeId GroupId) (taken : ℕ) → WaitsAt l first taken before.waiting.items (next_in before) → WaitsAt l first taken mid.waiting.items (next_in mid)) → (vec_capacity mid.waiting ≤ vec_len mid.waiting) ⊎ NeedsMore l mid (next_in mid) → (vec_capacity before.waiting ≤ vec_len before.waiting) ⊎ NeedsMore l before (next_in before)
wants_before l before mid waiting comes (inl full) = inl (rw (← waiting) full)
wants_before l before mid waiting comes (inr more) = inr (λ first taken a h. subst (λ v. LastNeedsRoom l (asked_in v.items)) waiting (more first taken a (comes first taken h)))
