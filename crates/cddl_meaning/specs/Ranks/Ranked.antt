-- Languages in which no type and no group leads back to itself before an item was surely taken or gone into.
use Rattle.std.specs.Prelude.{◌≡◌, ℕ, ◌<◌, ◌≤◌, List, [], ◌∷◌, true, Contains}
use Rattle.cddl_meaning.specs.Forms.{Test, Content, sequence_of_items, Node, Ref, Choice, ArrayOf, SimpleBy, Both, Such, Holding, Most, Group, GroupRef, Sequence, Alternatives, Repeat, Language}
use Rattle.cddl_meaning.specs.Judges.{is_over}

mutual
  -- A group may take no item, as its form shows. This is the least such set: a group that is not in it takes an item or
  -- fails.
  pub data MayBeEmpty {N G : Type 0} (l : Language N G) : Group N G → Type 0 where
    named : {g : G} → MayBeEmpty l (l.group_at g) → MayBeEmpty l (GroupRef g)
    every_part : {gs : List G} → AllMayBeEmpty l gs → MayBeEmpty l (Sequence gs)
    one_of_them : {gs : List G} → OneMayBeEmpty l gs → MayBeEmpty l (Alternatives gs)
    no_minimum : {most : Most} {g : G} → MayBeEmpty l (Repeat 0 most g)
    no_round : {least : ℕ} {most : Most} {g : G} → is_over most ≡ true → MayBeEmpty l (Repeat least most g)
    an_empty_round : {least : ℕ} {most : Most} {g : G} → MayBeEmpty l (l.group_at g) → MayBeEmpty l (Repeat least most g)

  -- each of these groups may
  pub data AllMayBeEmpty {N G : Type 0} (l : Language N G) : List G → Type 0 where
    no_part : AllMayBeEmpty l []
    this_part : {g : G} {gs : List G} → MayBeEmpty l (l.group_at g) → AllMayBeEmpty l gs → AllMayBeEmpty l (g ∷ gs)

  -- one of these groups may
  pub data OneMayBeEmpty {N G : Type 0} (l : Language N G) : List G → Type 0 where
    this_one : {g : G} {gs : List G} → MayBeEmpty l (l.group_at g) → OneMayBeEmpty l (g ∷ gs)
    another : {g : G} {gs : List G} → OneMayBeEmpty l gs → OneMayBeEmpty l (g ∷ gs)

-- the name of a type, or of a group
pub data Name (N G : Type 0) : Type 0 where
  a_type : N → Name N G
  a_group : G → Name N G

-- What a type may ask of the same item is free in it, and so are what it asks of all items of an array, of the number of a
-- simple value, and of the array of a sequence in a byte string, which may be as large. An array's items, a tag's content
-- and number, a map's keys and values, and the one item in a byte string are smaller than the item, so nothing is free in a
-- map.
pub data IsFreeInType {N G : Type 0} : Node N G → Name N G → Type 0 where
  same_item : {m : N} → IsFreeInType (Ref m) (a_type m)
  member : {ms : List N} {m : N} → Contains ms m → IsFreeInType (Choice ms) (a_type m)
  all_items : {g : G} → IsFreeInType (ArrayOf g) (a_group g)
  its_number : {m : N} → IsFreeInType (SimpleBy m) (a_type m)
  left_side : {m n : N} → IsFreeInType (Both m n) (a_type m)
  right_side : {m n : N} → IsFreeInType (Both m n) (a_type n)
  tested : {m : N} {t : Test} → IsFreeInType (Such m t) (a_type m)
  holder : {m n : N} {c : Content} → IsFreeInType (Holding m c n) (a_type m)
  sequence_held : {m n : N} → IsFreeInType (Holding m sequence_of_items n) (a_type n)

-- of the parts of a sequence, the first and those after groups that may all take no item
pub data IsFreePart {N G : Type 0} (l : Language N G) : List G → G → Type 0 where
  front : {g : G} {gs : List G} → IsFreePart l (g ∷ gs) g
  past_empty : {g h : G} {gs : List G} → MayBeEmpty l (l.group_at g) → IsFreePart l gs h → IsFreePart l (g ∷ gs) h

-- What a group may ask of the same list is free in it. An entry goes into an item.
pub data IsFreeInGroup {N G : Type 0} (l : Language N G) : Group N G → G → Type 0 where
  same_list : {g : G} → IsFreeInGroup l (GroupRef g) g
  part : {gs : List G} {g : G} → IsFreePart l gs g → IsFreeInGroup l (Sequence gs) g
  alternative : {gs : List G} {g : G} → Contains gs g → IsFreeInGroup l (Alternatives gs) g
  a_round : {least : ℕ} {most : Most} {g : G} → IsFreeInGroup l (Repeat least most g) g

-- The second name is free in what the first stands for.
pub data IsFree {N G : Type 0} (l : Language N G) : Name N G → Name N G → Type 0 where
  in_type : {n : N} {a : Name N G} → IsFreeInType (l.type_at n) a → IsFree l (a_type n) a
  in_group : {g h : G} → IsFreeInGroup l (l.group_at g) h → IsFree l (a_group g) (a_group h)

-- What is free in a name has a lower rank, and no rank is above `bound`.
pub record IsRanked {N G : Type 0} (l : Language N G) (rank : Name N G → ℕ) (bound : ℕ) : Type 0 where
  pub down : (a b : Name N G) → IsFree l a b → rank b < rank a
  pub most : (a : Name N G) → rank a ≤ bound

-- The second name is reached from the first by names that are each free in the one before.
pub data LeadsTo {N G : Type 0} (l : Language N G) : Name N G → Name N G → Type 0 where
  at_once : {a b : Name N G} → IsFree l a b → LeadsTo l a b
  by_way : {a b c : Name N G} → IsFree l a b → LeadsTo l b c → LeadsTo l a c
