-- What a type says of an item, and what a group does with a list of items (RFC 8610 sections 2 and 3 and appendix A).
--
-- Choices are ordered, as in a parsing expression grammar: the first member that says yes, the first group that does not
-- fail, and no other is asked then. A group takes items from the front, as many rounds as an occurrence can, or fails and
-- takes none; what it has taken it never gives back, whatever fails after it.
--
-- A map matches if one of its alternatives says yes. Each pair belongs to the first entry whose key type says yes to its
-- key, and which cuts or whose value type says yes to its value. An alternative says yes if each pair belongs to an entry,
-- each value is as its entry says, and as many pairs belong to each entry as it asks for. All alternatives are tried, and
-- in each of them all pairs, also after one that failed.
--
-- Where two types have to say yes, the left is asked first, and the right only if it has said yes; a no is that of the one
-- that said it. A test after a type is tried if that has said yes, and its no shows at the item.
--
-- What a byte string holds is asked about if its own type has said yes. It is an item by itself, with places of its own from
-- 0 on, so a no of it shows at the byte string. Reading is no judgement.
--
-- Each derivation has a cost, the number of its judgements: a type said something of an item, or a group did something with
-- a list; and in a map one for each alternative, one for each pair in each alternative, and one for each entry that is asked
-- about a pair; and in a test of bits after a type that has said yes one for each bit that is set. An entry is passed over,
-- which costs nothing, where its key type is known to be one value and the pair has another key: it could only say no.
-- Where a language counts every entry instead, the number is the weight: each pair counts one for each entry of the
-- alternative, asked or not, and one more. A place is an item's number in preorder, a key before its value.
use Rattle.std.specs.Prelude.{◌≡◌, ◌≢◌, ℕ, zero, suc, ◌+◌, ◌-◌, max, length, List, [], ◌∷◌, Option, Some, None, Bool, true, false, nat_le, nat_eq, ◌&&◌, if◌then◌else◌}
use Rattle.cbor_data.specs.Value.{Value, uint, place_count, Pairs, no_pairs, pair}
use Rattle.cddl_meaning.specs.Held.{Holds}
use Rattle.cddl_meaning.specs.Forms.{Test, passes, bits_asked, members_in, pairs_in, bytes_in, tag_in, simple_in, TagNumber, any_number, exactly, such_as, Content, MapEntry, Node, Plain, Ref, Choice, ArrayOf, TagOf, SimpleBy, MapOf, Both, Such, Holding, Most, at_most, any_number_of, Group, Entry, GroupRef, Sequence, Alternatives, Repeat, Language, is_passed_over, pair_cost, entry_cost}

-- What a type says: yes; or no, with the place where it shows. That is the greatest place of all trials that failed, but for
-- those of types that then said yes.
pub data Answer : Type 0 where
  Yes : Answer
  No : (far : ℕ) → Answer

-- What a group does: it takes items, after which these are left, the first of them at the place `next`; or it fails. `far`
-- is the greatest place of all trials that failed, as above, and the array's own place where none did.
pub data Reply : Type 0 where
  Takes : (left : List Value) → (next far : ℕ) → Reply
  Fails : (far : ℕ) → Reply

-- An array whose group does this says that: the group has to take all of its items (section 3.4).
pub data ArraySays : Reply → Answer → Type 0 where
  whole : {next far : ℕ} → ArraySays (Takes [] next far) Yes
  over : {next far : ℕ} {x : Value} {xs : List Value} → ArraySays (Takes (x ∷ xs) next far) (No (max far next))
  failed : {far : ℕ} → ArraySays (Fails far) (No far)

-- No round may follow: an occurrence takes so many rounds at most (section 3.2).
abbrev pub is_over : Most → Bool
is_over (at_most zero) = true
is_over (at_most (suc n)) = false
is_over any_number_of = false

-- the rounds that may follow after one more
abbrev pub one_less : Most → Most
one_less (at_most zero) = at_most zero
one_less (at_most (suc n)) = at_most n
one_less any_number_of = any_number_of

-- so many pairs may belong to an entry
abbrev pub is_up_to_most : ℕ → Most → Bool
is_up_to_most n (at_most m) = nat_le n m
is_up_to_most n any_number_of = true

-- What becomes of a pair: it belongs to the entry with so many entries after it, whose value type says this of its value; or
-- its key, at this place, belongs to none.
pub data Fate : Type 0 where
  BelongsTo : (after : ℕ) → (says : Answer) → Fate
  Stray : (place : ℕ) → Fate

-- how many of these pairs belong to the entry with n entries after it
abbrev pub count_of : ℕ → List Fate → ℕ
count_of n [] = 0
count_of n (BelongsTo m a ∷ fs) = if nat_eq m n then suc (count_of n fs) else count_of n fs
count_of n (Stray q ∷ fs) = count_of n fs

-- As many belong to each of these entries, which are the last of an alternative, as it asks for.
abbrev pub are_enough : {N : Type 0} → List (MapEntry N) → List Fate → Bool
are_enough [] fs = true
are_enough (e ∷ es) fs = (nat_le e.least (count_of (length es) fs) && is_up_to_most (count_of (length es) fs) e.most) && are_enough es fs

-- the first stray key
abbrev pub first_stray : List Fate → Option ℕ
first_stray [] = None
first_stray (BelongsTo j a ∷ fs) = first_stray fs
first_stray (Stray q ∷ fs) = Some q

-- where the first value shows that is not as its entry says
abbrev pub first_failing : List Fate → Option ℕ
first_failing [] = None
first_failing (BelongsTo j Yes ∷ fs) = first_failing fs
first_failing (BelongsTo j (No far) ∷ fs) = Some far
first_failing (Stray q ∷ fs) = first_failing fs

abbrev pub by_counts : ℕ → Bool → Answer
by_counts p true = Yes
by_counts p false = No p

-- a no that shows here, if anywhere; else this
abbrev pub shown_by : Option ℕ → Answer → Answer
shown_by (Some q) a = No q
shown_by None a = a

-- What an alternative says of a map at p by the fates of its pairs. A no shows at the first stray key; else where the first
-- failing value shows it; else at the map.
abbrev pub alternative_says : {N : Type 0} → List (MapEntry N) → ℕ → List Fate → Answer
alternative_says es p fs = shown_by (first_stray fs) (shown_by (first_failing fs) (by_counts p (are_enough es fs)))

-- yes if one of them says yes; else no, with the greater place
abbrev pub either : Answer → Answer → Answer
either Yes b = Yes
either (No p) Yes = Yes
either (No p) (No q) = No (max p q)

mutual
  -- The type says this of the item x at the place p. A no shows at the item itself, or, in a choice, an array, a tag, a map
  -- or a control, wherever a part of it shows its own. The number of a tag or of a simple value has the place of its item.
  pub data Says {N G : Type 0} (l : Language N G) : Node N G → ℕ → Value → Answer → ℕ → Type 0 where
    passed : {t : Test} {p : ℕ} {x : Value} → passes t x ≡ true → Says l (Plain t) p x Yes 1
    missed : {t : Test} {p : ℕ} {x : Value} → passes t x ≡ false → Says l (Plain t) p x (No p) 1
    ref : {m : N} {p w : ℕ} {x : Value} {a : Answer} → Says l (l.type_at m) p x a w → Says l (Ref m) p x a (suc w)
    choice : {ms : List N} {p w : ℕ} {x : Value} {a : Answer} → Chooses l ms p x p a w → Says l (Choice ms) p x a (suc w)
    no_array : {g : G} {p : ℕ} {x : Value} → members_in x ≡ None → Says l (ArrayOf g) p x (No p) 1
    array : {g : G} {p w : ℕ} {x : Value} {xs : List Value} {r : Reply} {a : Answer} → members_in x ≡ Some xs → Does l (l.group_at g) p (suc p) xs r w → ArraySays r a → Says l (ArrayOf g) p x a (suc w)
    no_tag : {t : TagNumber N} {m : N} {p : ℕ} {x : Value} → tag_in x ≡ None → Says l (TagOf t m) p x (No p) 1
    tagged : {t : TagNumber N} {m : N} {p n v w : ℕ} {x y : Value} {a : Answer} → tag_in x ≡ Some (n, y) → Numbers l t p n Yes v → Says l (l.type_at m) (suc p) y a w → Says l (TagOf t m) p x a (suc (v + w))
    other_tag : {t : TagNumber N} {m : N} {p n far w : ℕ} {x y : Value} → tag_in x ≡ Some (n, y) → Numbers l t p n (No far) w → Says l (TagOf t m) p x (No p) (suc w)
    no_simple : {m : N} {p : ℕ} {x : Value} → simple_in x ≡ None → Says l (SimpleBy m) p x (No p) 1
    simple_such : {m : N} {p n w : ℕ} {x : Value} → simple_in x ≡ Some n → Says l (l.type_at m) p (uint n) Yes w → Says l (SimpleBy m) p x Yes (suc w)
    other_simple : {m : N} {p n far w : ℕ} {x : Value} → simple_in x ≡ Some n → Says l (l.type_at m) p (uint n) (No far) w → Says l (SimpleBy m) p x (No p) (suc w)
    no_map : {ess : List (List (MapEntry N))} {p : ℕ} {x : Value} → pairs_in x ≡ None → Says l (MapOf ess) p x (No p) 1
    map : {ess : List (List (MapEntry N))} {p w : ℕ} {x : Value} {ps : Pairs} {a : Answer} → pairs_in x ≡ Some ps → Maps l ess p ps (No p) a w → Says l (MapOf ess) p x a (suc w)
    left_no : {m n : N} {p far w : ℕ} {x : Value} → Says l (l.type_at m) p x (No far) w → Says l (Both m n) p x (No far) (suc w)
    left_yes : {m n : N} {p v w : ℕ} {x : Value} {a : Answer} → Says l (l.type_at m) p x Yes v → Says l (l.type_at n) p x a w → Says l (Both m n) p x a (suc (v + w))
    none_such : {m : N} {t : Test} {p far w : ℕ} {x : Value} → Says l (l.type_at m) p x (No far) w → Says l (Such m t) p x (No far) (suc w)
    such_passed : {m : N} {t : Test} {p w : ℕ} {x : Value} → Says l (l.type_at m) p x Yes w → passes t x ≡ true → Says l (Such m t) p x Yes (suc (w + bits_asked t x))
    such_missed : {m : N} {t : Test} {p w : ℕ} {x : Value} → Says l (l.type_at m) p x Yes w → passes t x ≡ false → Says l (Such m t) p x (No p) (suc (w + bits_asked t x))
    holder_no : {m n : N} {c : Content} {p far w : ℕ} {x : Value} → Says l (l.type_at m) p x (No far) w → Says l (Holding m c n) p x (No far) (suc w)
    no_string : {m n : N} {c : Content} {p w : ℕ} {x : Value} → Says l (l.type_at m) p x Yes w → bytes_in x ≡ None → Says l (Holding m c n) p x (No p) (suc w)
    holds_nothing : {m n : N} {c : Content} {p w : ℕ} {x : Value} {b : List ℕ} → Says l (l.type_at m) p x Yes w → bytes_in x ≡ Some b → ((y : Value) → Holds c b y → ⊥) → Says l (Holding m c n) p x (No p) (suc w)
    held_yes : {m n : N} {c : Content} {p v w : ℕ} {x y : Value} {b : List ℕ} → Says l (l.type_at m) p x Yes v → bytes_in x ≡ Some b → Holds c b y → Says l (l.type_at n) 0 y Yes w → Says l (Holding m c n) p x Yes (suc (v + w))
    held_no : {m n : N} {c : Content} {p far v w : ℕ} {x y : Value} {b : List ℕ} → Says l (l.type_at m) p x Yes v → bytes_in x ≡ Some b → Holds c b y → Says l (l.type_at n) 0 y (No far) w → Says l (Holding m c n) p x (No p) (suc (v + w))

  -- These alternatives say this of a map at p with these pairs, after others that said `sofar`.
  pub data Maps {N G : Type 0} (l : Language N G) : List (List (MapEntry N)) → ℕ → Pairs → (sofar : Answer) → Answer → ℕ → Type 0 where
    no_alternative : {p : ℕ} {ps : Pairs} {sofar : Answer} → Maps l [] p ps sofar sofar 0
    alternative : {es : List (MapEntry N)} {ess : List (List (MapEntry N))} {p v w : ℕ} {ps : Pairs} {sofar a : Answer} {fs : List Fate} → Sorts l es (suc p) ps fs v → Maps l ess p ps (either sofar (alternative_says es p fs)) a w → Maps l (es ∷ ess) p ps sofar a (suc v + w)

  -- Each of these pairs, the first key at q, has its fate in an alternative of these entries.
  pub data Sorts {N G : Type 0} (l : Language N G) : List (MapEntry N) → ℕ → Pairs → List Fate → ℕ → Type 0 where
    all_sorted : {es : List (MapEntry N)} {q : ℕ} → Sorts l es q no_pairs [] 0
    sort : {es : List (MapEntry N)} {q v w : ℕ} {k x : Value} {ps : Pairs} {f : Fate} {fs : List Fate} → Belongs l es q k x f v → Sorts l es (q + place_count k + place_count x) ps fs w → Sorts l es q (pair k x ps) (f ∷ fs) (pair_cost l.counting (length es) + v + w)

  -- The pair of the key k, which is at q, and the value x belongs to the first of these entries that takes it. They are the
  -- last of an alternative.
  pub data Belongs {N G : Type 0} (l : Language N G) : List (MapEntry N) → ℕ → Value → Value → Fate → ℕ → Type 0 where
    nowhere : {q : ℕ} {k x : Value} → Belongs l [] q k x (Stray q) 0
    passed_over : {e : MapEntry N} {es : List (MapEntry N)} {q w : ℕ} {k x : Value} {f : Fate} → is_passed_over l.counting e.key_type k ≡ true → Belongs l es q k x f w → Belongs l (e ∷ es) q k x f w
    asked : {e : MapEntry N} {es : List (MapEntry N)} {q w : ℕ} {k x : Value} {f : Fate} → is_passed_over l.counting e.key_type k ≡ false → BelongsAsked l e es q k x f w → Belongs l (e ∷ es) q k x f (entry_cost l.counting + w)

  -- The same, where the first of the entries is asked about it.
  pub data BelongsAsked {N G : Type 0} (l : Language N G) : MapEntry N → List (MapEntry N) → ℕ → Value → Value → Fate → ℕ → Type 0 where
    other_key : {e : MapEntry N} {es : List (MapEntry N)} {q far v w : ℕ} {k x : Value} {f : Fate} → Says l (l.type_at e.key_type) q k (No far) v → Belongs l es q k x f w → BelongsAsked l e es q k x f (v + w)
    here : {e : MapEntry N} {es : List (MapEntry N)} {q v w : ℕ} {k x : Value} → Says l (l.type_at e.key_type) q k Yes v → Says l (l.type_at e.value_type) (q + place_count k) x Yes w → BelongsAsked l e es q k x (BelongsTo (length es) Yes) (v + w)
    cut_here : {e : MapEntry N} {es : List (MapEntry N)} {q far v w : ℕ} {k x : Value} → e.cuts ≡ true → Says l (l.type_at e.key_type) q k Yes v → Says l (l.type_at e.value_type) (q + place_count k) x (No far) w → BelongsAsked l e es q k x (BelongsTo (length es) (No far)) (v + w)
    handed_on : {e : MapEntry N} {es : List (MapEntry N)} {q far u v w : ℕ} {k x : Value} {f : Fate} → e.cuts ≡ false → Says l (l.type_at e.key_type) q k Yes u → Says l (l.type_at e.value_type) (q + place_count k) x (No far) v → Belongs l es q k x f w → BelongsAsked l e es q k x f (u + (v + w))

  -- The number n of a tag at p is meant, or not.
  pub data Numbers {N G : Type 0} (l : Language N G) : TagNumber N → ℕ → ℕ → Answer → ℕ → Type 0 where
    whichever : {p n : ℕ} → Numbers l any_number p n Yes 0
    this_number : {p n : ℕ} → Numbers l (exactly n) p n Yes 0
    other_number : {p m n : ℕ} → m ≢ n → Numbers l (exactly m) p n (No p) 0
    by_head : {m : N} {p n w : ℕ} {a : Answer} → Says l (l.type_at m) p (uint n) a w → Numbers l (such_as m) p n a w

  -- The ordered choice of types says the first yes, else no, with the greatest of `far` and of their places.
  pub data Chooses {N G : Type 0} (l : Language N G) : List N → ℕ → Value → ℕ → Answer → ℕ → Type 0 where
    no_more : {p far : ℕ} {x : Value} → Chooses l [] p x far (No far) 0
    this_one : {m : N} {p far w : ℕ} {ms : List N} {x : Value} → Says l (l.type_at m) p x Yes w → Chooses l (m ∷ ms) p x far Yes w
    not_this : {m : N} {p far later v w : ℕ} {ms : List N} {x : Value} {a : Answer} → Says l (l.type_at m) p x (No later) v → Chooses l ms p x (max far later) a w → Chooses l (m ∷ ms) p x far a (v + w)

  -- The group does this with the items xs, the first of them at q, of the array at p. Where no item is left for an entry,
  -- it fails at the array.
  pub data Does {N G : Type 0} (l : Language N G) : Group N G → ℕ → ℕ → List Value → Reply → ℕ → Type 0 where
    missing : {m : N} {p q : ℕ} → Does l (Entry m) p q [] (Fails p) 1
    matches : {m : N} {p q w : ℕ} {x : Value} {xs : List Value} → Says l (l.type_at m) q x Yes w → Does l (Entry m) p q (x ∷ xs) (Takes xs (q + place_count x) p) (suc w)
    differs : {m : N} {p q far w : ℕ} {x : Value} {xs : List Value} → Says l (l.type_at m) q x (No far) w → Does l (Entry m) p q (x ∷ xs) (Fails (max p far)) (suc w)
    group_ref : {g : G} {p q w : ℕ} {xs : List Value} {r : Reply} → Does l (l.group_at g) p q xs r w → Does l (GroupRef g) p q xs r (suc w)
    sequence : {gs : List G} {p q w : ℕ} {xs : List Value} {r : Reply} → DoesEach l gs p q xs p r w → Does l (Sequence gs) p q xs r (suc w)
    alternatives : {gs : List G} {p q w : ℕ} {xs : List Value} {r : Reply} → DoesFirst l gs p q xs p r w → Does l (Alternatives gs) p q xs r (suc w)
    repeat : {least : ℕ} {most : Most} {g : G} {p q w : ℕ} {xs : List Value} {r : Reply} → Repeats l least most g p q xs p r w → Does l (Repeat least most g) p q xs r (suc w)

  -- Each of these groups is asked in turn, after trials that failed at `far` at most.
  pub data DoesEach {N G : Type 0} (l : Language N G) : List G → ℕ → ℕ → List Value → ℕ → Reply → ℕ → Type 0 where
    all_done : {p q far : ℕ} {xs : List Value} → DoesEach l [] p q xs far (Takes xs q far) 0
    one_fails : {g : G} {p q far later w : ℕ} {gs : List G} {xs : List Value} → Does l (l.group_at g) p q xs (Fails later) w → DoesEach l (g ∷ gs) p q xs far (Fails (max far later)) w
    and_then : {g : G} {p q far next later v w : ℕ} {gs : List G} {xs left : List Value} {r : Reply} → Does l (l.group_at g) p q xs (Takes left next later) v → DoesEach l gs p next left (max far later) r w → DoesEach l (g ∷ gs) p q xs far r (v + w)

  -- The ordered choice of groups does what the first does that does not fail. All are asked of the same items.
  pub data DoesFirst {N G : Type 0} (l : Language N G) : List G → ℕ → ℕ → List Value → ℕ → Reply → ℕ → Type 0 where
    all_fail : {p q far : ℕ} {xs : List Value} → DoesFirst l [] p q xs far (Fails far) 0
    one_takes : {g : G} {p q far next later w : ℕ} {gs : List G} {xs left : List Value} → Does l (l.group_at g) p q xs (Takes left next later) w → DoesFirst l (g ∷ gs) p q xs far (Takes left next (max far later)) w
    or_else : {g : G} {p q far later v w : ℕ} {gs : List G} {xs : List Value} {r : Reply} → Does l (l.group_at g) p q xs (Fails later) v → DoesFirst l gs p q xs (max far later) r w → DoesFirst l (g ∷ gs) p q xs far r (v + w)

  -- An occurrence asks the group again and again, at least `least` more times and at most `most` more, until it fails.
  pub data Repeats {N G : Type 0} (l : Language N G) : (least : ℕ) → Most → G → ℕ → ℕ → List Value → (far : ℕ) → Reply → ℕ → Type 0 where
    full : {least : ℕ} {most : Most} {g : G} {p q far : ℕ} {xs : List Value} → is_over most ≡ true → Repeats l least most g p q xs far (Takes xs q far) 0
    too_few : {least : ℕ} {most : Most} {g : G} {p q far later w : ℕ} {xs : List Value} → is_over most ≡ false → Does l (l.group_at g) p q xs (Fails later) w → Repeats l (suc least) most g p q xs far (Fails (max far later)) w
    enough : {most : Most} {g : G} {p q far later w : ℕ} {xs : List Value} → is_over most ≡ false → Does l (l.group_at g) p q xs (Fails later) w → Repeats l 0 most g p q xs far (Takes xs q (max far later)) w
    -- A round that takes no item ends the repetition and meets the rest of the minimum.
    empty_round : {least : ℕ} {most : Most} {g : G} {p q far next later w : ℕ} {xs left : List Value} → is_over most ≡ false → Does l (l.group_at g) p q xs (Takes left next later) w → length left ≡ length xs → Repeats l least most g p q xs far (Takes xs q (max far later)) w
    round : {least : ℕ} {most : Most} {g : G} {p q far next later v w : ℕ} {xs left : List Value} {r : Reply} → is_over most ≡ false → Does l (l.group_at g) p q xs (Takes left next later) v → length left ≢ length xs → Repeats l (least - 1) (one_less most) g p next left (max far later) r w → Repeats l least most g p q xs far r (v + w)
