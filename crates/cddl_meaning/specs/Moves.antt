-- The moves of a matcher, as functions: each is a reply, or a question and what waits for its reply. They reply just what
-- the definition says, wherever places have numbers below 2^64.
use Rattle.std.specs.Prelude.{◌≡◌, ℕ, zero, suc, ◌+◌, ◌-◌, ◌^◌, min, max, length, List, [], ◌∷◌, Option, Some, None, Bool, true, false, nat_eq, nat_le, ◌&&◌, if◌then◌else◌}
use Rattle.cbor_data.specs.Value.{Value, uint, place_count, Pairs, no_pairs, pair}
use Rattle.cddl_meaning.specs.Forms.{Test, bits_among, passes, bits_asked, members_in, pairs_in, bytes_in, tag_in, simple_in, TagNumber, any_number, exactly, such_as, Content, MapEntry, Node, Plain, Ref, Choice, ArrayOf, TagOf, SimpleBy, MapOf, Both, Such, Holding, Most, Group, Entry, GroupRef, Sequence, Alternatives, Repeat, Language, is_passed_over, pair_cost, entry_cost}
use Rattle.cddl_meaning.specs.Held.{Holds}
use Rattle.cddl_meaning.specs.Judges.{Answer, Yes, No, Reply, Takes, Fails, is_over, one_less, is_up_to_most, Fate, BelongsTo, Stray, by_counts, shown_by}

-- A question asks a type of an item at a place; a group of items, the first of them at a place, of the array at a base; or
-- an alternative of the pairs of the map at a base.
pub data Question (N G : Type 0) : Type 0 where
  OfType : N → (place : ℕ) → Value → Question N G
  OfGroup : G → (base place : ℕ) → List Value → Question N G
  OfAlternative : List (MapEntry N) → (base : ℕ) → Pairs → Question N G

-- An alternative's pairs so far: how many belong to each of its entries, the first stray key, and where the first failing
-- value shows.
pub record Tally : Type 0 where
  pub counts : List ℕ
  pub stray : Option ℕ
  pub failing : Option ℕ

-- A pair that is sorted: the alternative, and the map's place; the pair with its places, and the place after it; the pairs
-- that are left; and the tally of those before.
pub record Sorting (N : Type 0) : Type 0 where
  pub entries : List (MapEntry N)
  pub base : ℕ
  pub key_place : ℕ
  pub key : Value
  pub value_place : ℕ
  pub held : Value
  pub next_place : ℕ
  pub rest : Pairs
  pub tally : Tally

-- what waits for the reply to the question that it asked
pub data Pending (N G : Type 0) : Type 0 where
  -- The reply is this question's, too.
  InRef : Pending N G
  -- the members that are left, what they are asked of, and the greatest place so far
  InChoice : List N → (place : ℕ) → Value → (far : ℕ) → Pending N G
  -- The group has to take all items.
  InArray : Pending N G
  -- the content, and its type, of a tag whose number is asked about
  InHead : N → (place : ℕ) → Value → Pending N G
  -- the simple value whose number is asked about
  InSimple : (place : ℕ) → Pending N G
  -- the items after the one that is asked about
  InEntry : (base : ℕ) → List Value → Pending N G
  -- the groups that are left
  InSequence : List G → (base far : ℕ) → Pending N G
  -- the groups that are left, and the items that each of them is asked of
  InAlternatives : List G → (base place : ℕ) → List Value → (far : ℕ) → Pending N G
  -- the rounds that are left, with the one that is asked about
  InRepeat : (least : ℕ) → Most → G → (base place : ℕ) → List Value → (far : ℕ) → Pending N G
  -- the alternatives that are left, and what those before replied
  InMap : List (List (MapEntry N)) → (base : ℕ) → Pairs → (sofar : Reply) → Pending N G
  -- the entry whose key type is asked, and those after it
  InKey : MapEntry N → List (MapEntry N) → Sorting N → Pending N G
  -- the same, where its value type is asked
  InValue : MapEntry N → List (MapEntry N) → Sorting N → Pending N G
  -- the right type, which is asked of the item if the left says yes
  InLeft : N → (place : ℕ) → Value → Pending N G
  -- the test, which the item has to pass if the type says yes
  InSuch : Test → (place : ℕ) → Value → Pending N G
  -- what is asked about the content of the item, a byte string, if its own type says yes
  InHolder : Content → N → (place : ℕ) → Value → Pending N G
  -- the byte string whose content is asked about, and the place after it
  InHeld : (place next : ℕ) → Pending N G

-- Either the reply, or what is asked first; or a pair is tried with the entries of its alternative, and there with one of them
-- before those after it; or a byte string at a place is read, and a type asked of what it holds; or so many bits are weighed,
-- and then this is the reply.
pub data Move (N G : Type 0) : Type 0 where
  Answered : Reply → Move N G
  Asks : Question N G → Pending N G → Move N G
  Tries : Sorting N → Move N G
  Enters : MapEntry N → List (MapEntry N) → Sorting N → Move N G
  Reads : Content → List ℕ → N → (place next : ℕ) → Move N G
  Weighs : (bits : ℕ) → Reply → Move N G

-- a sum that stays at the greatest number; a sound item has fewer places
abbrev pub plus : ℕ → ℕ → ℕ
plus a b = min (a + b) (2 ^ 64 - 1)

-- a type's yes to the item x at the place p: it takes nothing from a list, and tells the place after the item
abbrev pub yes_reply : ℕ → Value → Reply
yes_reply p x = Takes [] (plus p (place_count x)) 0

-- a type's answer for the item x at the place p, as a reply
abbrev pub reply_of : ℕ → Value → Answer → Reply
reply_of p x Yes = yes_reply p x
reply_of p x (No far) = Fails far

-- a test's reply: it fails at the item
abbrev pub test_reply : ℕ → Value → Bool → Reply
test_reply p x true = yes_reply p x
test_reply p x false = Fails p

-- a test's reply after a type that has told the place after the item
abbrev pub such_reply : ℕ → (next : ℕ) → Bool → Reply
such_reply p next true = Takes [] next 0
such_reply p next false = Fails p

-- An array's reply, by what its group did: the first item that is left shows a no.
abbrev pub array_reply : Reply → Reply
array_reply (Takes [] next far) = Takes [] next 0
array_reply (Takes (x ∷ xs) next far) = Fails (max far next)
array_reply (Fails far) = Fails far

-- what is said of an item that ends before this place, as a reply
abbrev pub answer_reply : ℕ → Answer → Reply
answer_reply next Yes = Takes [] next 0
answer_reply next (No far) = Fails far

-- yes if one of them is yes; else the greater place
abbrev pub either_reply : Reply → Reply → Reply
either_reply (Takes left next far) r = Takes left next far
either_reply (Fails p) (Takes left next far) = Takes left next far
either_reply (Fails p) (Fails q) = Fails (max p q)

-- no pair was sorted
abbrev pub no_counts : {N : Type 0} → List (MapEntry N) → List ℕ
no_counts [] = []
no_counts (e ∷ es) = 0 ∷ no_counts es

abbrev pub fresh : {N : Type 0} → List (MapEntry N) → Tally
fresh es = record { counts = no_counts es; stray = None; failing = None }

-- one more for the entry with i entries after it, as far as 2^64 - 1: a map has fewer pairs
abbrev pub counted : ℕ → List ℕ → List ℕ
counted i [] = []
counted i (n ∷ ns) = if nat_eq i (length ns) then plus n 1 ∷ ns else n ∷ counted i ns

-- the first place that shows is kept
abbrev pub first_of : Option ℕ → ℕ → Option ℕ
first_of (Some p) q = Some p
first_of None q = Some q

-- the tally with one pair more
abbrev pub tallied : Tally → Fate → Tally
tallied t (BelongsTo i Yes) = record { counts = counted i t.counts; stray = t.stray; failing = t.failing }
tallied t (BelongsTo i (No far)) = record { counts = counted i t.counts; stray = t.stray; failing = first_of t.failing far }
tallied t (Stray q) = record { counts = t.counts; stray = first_of t.stray q; failing = t.failing }

-- as many pairs belong to each entry as it asks for
abbrev pub enough_of : {N : Type 0} → List (MapEntry N) → List ℕ → Bool
enough_of (e ∷ es) (n ∷ ns) = (nat_le e.least n && is_up_to_most n e.most) && enough_of es ns
enough_of _ _ = true

-- what an alternative says of a map at p whose pairs are all tallied
abbrev pub tally_says : {N : Type 0} → List (MapEntry N) → ℕ → Tally → Answer
tally_says es p t = shown_by t.stray (shown_by t.failing (by_counts p (enough_of es t.counts)))

module _ {N G : Type 0} where
  -- the next member of a choice of types
  abbrev pub next_member : List N → ℕ → Value → ℕ → Move N G
  next_member [] p x far = Answered (Fails far)
  next_member (m ∷ ms) p x far = Asks (OfType m p x) (InChoice ms p x far)

  -- the next group of a sequence
  abbrev pub next_part : List G → ℕ → ℕ → List Value → ℕ → Move N G
  next_part [] base q xs far = Answered (Takes xs q far)
  next_part (g ∷ gs) base q xs far = Asks (OfGroup g base q xs) (InSequence gs base far)

  -- the next group of a choice of groups
  abbrev pub next_alternative : List G → ℕ → ℕ → List Value → ℕ → Move N G
  next_alternative [] base q xs far = Answered (Fails far)
  next_alternative (g ∷ gs) base q xs far = Asks (OfGroup g base q xs) (InAlternatives gs base q xs far)

  -- Another round is asked for, unless there were as many as may be.
  abbrev pub next_round : Bool → ℕ → Most → G → ℕ → ℕ → List Value → ℕ → Move N G
  next_round true least most g base q xs far = Answered (Takes xs q far)
  next_round false least most g base q xs far = Asks (OfGroup g base q xs) (InRepeat least most g base q xs far)

  -- a repetition, before its first round or after another
  abbrev pub repetition : ℕ → Most → G → ℕ → ℕ → List Value → ℕ → Move N G
  repetition least most g base q xs far = next_round (is_over most) least most g base q xs far

  -- A round has taken items, or none, which ends the repetition.
  abbrev pub after_round : Bool → ℕ → Most → G → ℕ → ℕ → List Value → ℕ → List Value → ℕ → Move N G
  after_round true least most g base q xs far left next = Answered (Takes xs q far)
  after_round false least most g base q xs far left next = repetition (least - 1) (one_less most) g base next left far

  -- A round has failed, and there were enough of them or not.
  abbrev pub end_of_rounds : ℕ → List Value → ℕ → ℕ → Move N G
  end_of_rounds zero xs q far = Answered (Takes xs q far)
  end_of_rounds (suc least) xs q far = Answered (Fails far)

  -- An array asks its group of all of its items, the first of them at the place after its own.
  abbrev pub array_move : G → ℕ → Option (List Value) → Move N G
  array_move g p None = Answered (Fails p)
  array_move g p (Some xs) = Asks (OfGroup g p (plus p 1) xs) InArray

  -- A tag whose number is known to be meant asks about its content.
  abbrev pub content_move : N → ℕ → Value → Bool → Move N G
  content_move m p y true = Asks (OfType m (plus p 1) y) InRef
  content_move m p y false = Answered (Fails p)

  -- A tag asks about its number first.
  abbrev pub tag_move : TagNumber N → N → ℕ → Option (ℕ × Value) → Move N G
  tag_move t m p None = Answered (Fails p)
  tag_move any_number m p (Some (n, y)) = content_move m p y true
  tag_move (exactly k) m p (Some (n, y)) = content_move m p y (nat_eq k n)
  tag_move (such_as h) m p (Some (n, y)) = Asks (OfType h p (uint n)) (InHead m p y)

  -- A simple value asks about its number.
  abbrev pub simple_move : N → ℕ → Option ℕ → Move N G
  simple_move m p None = Answered (Fails p)
  simple_move m p (Some n) = Asks (OfType m p (uint n)) (InSimple p)

  -- What an item holds is read. It takes a byte string.
  abbrev pub read_move : Content → N → ℕ → (next : ℕ) → Option (List ℕ) → Move N G
  read_move c n p next None = Answered (Fails p)
  read_move c n p next (Some b) = Reads c b n p next

  -- A test of bits weighs those that are set, and has its reply then. Any other replies at once.
  abbrev pub tested_move : Test → (place next : ℕ) → Value → Move N G
  tested_move (bits_among rs) p next x = Weighs (bits_asked (bits_among rs) x) (such_reply p next (passes (bits_among rs) x))
  tested_move t p next x = Answered (such_reply p next (passes t x))

  -- the next alternative of a map
  abbrev pub next_way : List (List (MapEntry N)) → ℕ → Pairs → Reply → Move N G
  next_way [] p ps sofar = Answered sofar
  next_way (es ∷ ess) p ps sofar = Asks (OfAlternative es p ps) (InMap ess p ps sofar)

  abbrev pub map_move : List (List (MapEntry N)) → ℕ → Option Pairs → Move N G
  map_move ess p None = Answered (Fails p)
  map_move ess p (Some ps) = next_way ess p ps (Fails p)

  -- the next pair of an alternative, its key at q
  abbrev pub next_pair : List (MapEntry N) → ℕ → ℕ → Pairs → Tally → Move N G
  next_pair es base q no_pairs t = Answered (answer_reply q (tally_says es base t))
  next_pair es base q (pair k x ps) t = Tries (record { entries = es; base = base; key_place = q; key = k; value_place = plus q (place_count k); held = x; next_place = plus (plus q (place_count k)) (place_count x); rest = ps; tally = t })

  -- The pair's fate is known.
  abbrev pub sorted : Sorting N → Fate → Move N G
  sorted s f = next_pair s.entries s.base s.next_place s.rest (tallied s.tally f)

  -- The pair is tried with the next entry.
  abbrev pub next_entry : List (MapEntry N) → Sorting N → Move N G
  next_entry [] s = sorted s (Stray s.key_place)
  next_entry (e ∷ es) s = Enters e es s

  -- An entry whose value type has said no keeps the pair if it cuts.
  abbrev pub after_value : Bool → List (MapEntry N) → Sorting N → ℕ → Move N G
  after_value true es s far = sorted s (BelongsTo (length es) (No far))
  after_value false es s far = next_entry es s

  -- what a type asks first
  abbrev pub type_move : Node N G → ℕ → Value → Move N G
  type_move (Plain t) p x = Answered (test_reply p x (passes t x))
  type_move (Ref m) p x = Asks (OfType m p x) InRef
  type_move (Choice ms) p x = next_member ms p x p
  type_move (ArrayOf g) p x = array_move g p (members_in x)
  type_move (TagOf t m) p x = tag_move t m p (tag_in x)
  type_move (SimpleBy m) p x = simple_move m p (simple_in x)
  type_move (MapOf ess) p x = map_move ess p (pairs_in x)
  type_move (Both m n) p x = Asks (OfType m p x) (InLeft n p x)
  type_move (Such m t) p x = Asks (OfType m p x) (InSuch t p x)
  type_move (Holding m c n) p x = Asks (OfType m p x) (InHolder c n p x)

  -- An entry asks about the first item.
  abbrev pub entry_move : N → ℕ → ℕ → List Value → Move N G
  entry_move m base q [] = Answered (Fails base)
  entry_move m base q (x ∷ xs) = Asks (OfType m q x) (InEntry base xs)

  -- what a group asks first
  abbrev pub group_move : Group N G → ℕ → ℕ → List Value → Move N G
  group_move (Entry m) base q xs = entry_move m base q xs
  group_move (GroupRef g) base q xs = Asks (OfGroup g base q xs) InRef
  group_move (Sequence gs) base q xs = next_part gs base q xs base
  group_move (Alternatives gs) base q xs = next_alternative gs base q xs base
  group_move (Repeat least most g) base q xs = repetition least most g base q xs base

  -- what a question asks first, or its reply
  abbrev pub first_move : Language N G → Question N G → Move N G
  first_move l (OfType n p x) = type_move (l.type_at n) p x
  first_move l (OfGroup g base q xs) = group_move (l.group_at g) base q xs
  first_move l (OfAlternative es base ps) = next_pair es base (plus base 1) ps (fresh es)

  -- what a pending question asks next, or its reply, once what it asked has this reply
  abbrev pub next_move : Pending N G → Reply → Move N G
  next_move InRef r = Answered r
  next_move (InChoice ms p x far) (Takes left next later) = Answered (Takes [] next 0)
  next_move (InChoice ms p x far) (Fails later) = next_member ms p x (max far later)
  next_move InArray r = Answered (array_reply r)
  next_move (InHead m p y) (Takes left next later) = content_move m p y true
  next_move (InHead m p y) (Fails later) = Answered (Fails p)
  next_move (InSimple p) (Takes left next later) = Answered (Takes [] (plus p 1) 0)
  next_move (InSimple p) (Fails later) = Answered (Fails p)
  next_move (InEntry base xs) (Takes left next later) = Answered (Takes xs next base)
  next_move (InEntry base xs) (Fails later) = Answered (Fails (max base later))
  next_move (InSequence gs base far) (Takes left next later) = next_part gs base next left (max far later)
  next_move (InSequence gs base far) (Fails later) = Answered (Fails (max far later))
  next_move (InAlternatives gs base q xs far) (Takes left next later) = Answered (Takes left next (max far later))
  next_move (InAlternatives gs base q xs far) (Fails later) = next_alternative gs base q xs (max far later)
  next_move (InRepeat least most g base q xs far) (Takes left next later) = after_round (nat_eq (length left) (length xs)) least most g base q xs (max far later) left next
  next_move (InRepeat least most g base q xs far) (Fails later) = end_of_rounds least xs q (max far later)
  next_move (InMap ess p ps sofar) r = next_way ess p ps (either_reply sofar r)
  next_move (InKey e es s) (Takes left next later) = Asks (OfType e.value_type s.value_place s.held) (InValue e es s)
  next_move (InKey e es s) (Fails later) = next_entry es s
  next_move (InValue e es s) (Takes left next later) = sorted s (BelongsTo (length es) Yes)
  next_move (InValue e es s) (Fails later) = after_value e.cuts es s later
  next_move (InLeft n p x) (Takes left next later) = Asks (OfType n p x) InRef
  next_move (InLeft n p x) (Fails later) = Answered (Fails later)
  next_move (InSuch t p x) (Takes left next later) = tested_move t p next x
  next_move (InSuch t p x) (Fails later) = Answered (Fails later)
  next_move (InHolder c n p x) (Takes left next later) = read_move c n p next (bytes_in x)
  next_move (InHolder c n p x) (Fails later) = Answered (Fails later)
  next_move (InHeld p next) (Takes left b later) = Answered (Takes [] next 0)
  next_move (InHeld p next) (Fails later) = Answered (Fails p)

  -- A question's reply by the moves, with the number of questions that are asked on the way, and one more for each pair that
  -- is tried, for each entry of its alternative, and for each bit that is weighed. What is read has places of its own, and
  -- reading counts nothing.
  mutual
    pub data Replies (l : Language N G) : Question N G → Reply → ℕ → Type 0 where
      replies : {q : Question N G} {r : Reply} {w : ℕ} → LeadsTo l (first_move l q) r w → Replies l q r (suc w)

    -- what a move comes to, in so many questions more
    pub data LeadsTo (l : Language N G) : Move N G → Reply → ℕ → Type 0 where
      at_once : {r : Reply} → LeadsTo l (Answered r) r 0
      after : {q : Question N G} {o : Pending N G} {s r : Reply} {v w : ℕ} → Replies l q s v → LeadsTo l (next_move o s) r w → LeadsTo l (Asks q o) r (v + w)
      tries : {s : Sorting N} {r : Reply} {w : ℕ} → LeadsTo l (next_entry s.entries s) r w → LeadsTo l (Tries s) r (pair_cost l.counting (length s.entries) + w)
      passes_over : {e : MapEntry N} {es : List (MapEntry N)} {s : Sorting N} {r : Reply} {w : ℕ} → is_passed_over l.counting e.key_type s.key ≡ true → LeadsTo l (next_entry es s) r w → LeadsTo l (Enters e es s) r w
      enters : {e : MapEntry N} {es : List (MapEntry N)} {s : Sorting N} {r : Reply} {w : ℕ} → is_passed_over l.counting e.key_type s.key ≡ false → LeadsTo l (Asks (OfType e.key_type s.key_place s.key) (InKey e es s)) r w → LeadsTo l (Enters e es s) r (entry_cost l.counting + w)
      weighs : {n : ℕ} {r : Reply} → LeadsTo l (Weighs n r) r n
      reads : {c : Content} {b : List ℕ} {n : N} {p next w : ℕ} {y : Value} {r : Reply} → Holds c b y → LeadsTo l (Asks (OfType n 0 y) (InHeld p next)) r w → LeadsTo l (Reads c b n p next) r w
      reads_nothing : {c : Content} {b : List ℕ} {n : N} {p next : ℕ} → ((y : Value) → Holds c b y → ⊥) → LeadsTo l (Reads c b n p next) (Fails p) 0
