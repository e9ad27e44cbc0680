-- Each type says something of each item, and each group does something with each list, where what is asked ends.
use Rattle.std.proofs.Common.{ℕ, zero, suc, ◌+◌, ◌^◌, ◌<◌, ◌≤◌, ◌⊎◌, inl, inr, List, [], ◌∷◌, arith}
use Rattle.cbor_data.specs.Value.{Value}
use Rattle.cddl_meaning.specs.Forms.{TagNumber, any_number, exactly, such_as, MapEntry, Node, Plain, Ref, Choice, ArrayOf, TagOf, SimpleBy, MapOf, Both, Such, Holding, Group, Entry, GroupRef, Sequence, Alternatives, Repeat, Language}
use Rattle.cddl_meaning.specs.Size.{size, list_size}
use Rattle.cddl_meaning.specs.Ranks.Decided.{IsDecided}
use Rattle.cddl_meaning.proofs.OfRanks.Founded.{AreAll, AreFounded, HasEntry, HasGroupParts, HasNumber, HasTypeParts, IsFounded, founded}
use Rattle.cddl_meaning.specs.Ranks.Ranked.{Name, a_group, a_type, in_group, in_type, IsRanked}
use Rattle.cddl_meaning.proofs.Lemmas.{one_saying}
use Rattle.cddl_meaning.proofs.OfRanks.Saying.{DoesSome, SaysSome, group_founded, group_some, type_founded, type_some}

module _ {N G : Type 0} (l : Language N G) (P : N → Type 0) (Q : G → Type 0) (are : AreFounded l P Q) where
  -- all of a smaller size
  record AllUnder (S : ℕ) : Type 0 where
    of_types : (m : N) (p : ℕ) (y : Value) → P m → size y < S → SaysSome l (l.type_at m) p y
    of_groups : (g : G) (p q : ℕ) (ys : List Value) → Q g → list_size ys < S → DoesSome l (l.group_at g) p q ys

  -- one that is no larger, of a type or a group of which what it asks ends

  abbrev Says : ℕ → N → Type 0
  Says S m = (p : ℕ) (y : Value) → size y ≤ S → SaysSome l (l.type_at m) p y

  abbrev Does : ℕ → G → Type 0
  Does S g = (p q : ℕ) (ys : List Value) → list_size ys ≤ S → DoesSome l (l.group_at g) p q ys

  abbrev Result : ℕ → Name N G → Type 0
  Result S (a_type m) = P m → Says S m
  Result S (a_group g) = Q g → Does S g

  module _ (S : ℕ) (under : AllUnder S) where
    types : (m : N) (p : ℕ) (y : Value) → (P m × (size y < S)) ⊎ (Says S m × (size y ≤ S)) → SaysSome l (l.type_at m) p y
    types m p y (inl (k, h)) = under.of_types m p y k h
    types m p y (inr (s, h)) = s p y h

    groups : (g : G) (p q : ℕ) (ys : List Value) → (Q g × (list_size ys < S)) ⊎ (Does S g × (list_size ys ≤ S)) → DoesSome l (l.group_at g) p q ys
    groups g p q ys (inl (k, h)) = under.of_groups g p q ys k h
    groups g p q ys (inr (s, h)) = s p q ys h

    result : (a : Name N G) → IsFounded l a → Result S a
    result (a_type m) (founded f) = λ k p y h. type_some l S P (Says S) Q (Does S) types groups (l.type_at m) p y h
        (type_founded l P (Says S) Q (Does S) (l.type_at m) (are.types m k) (λ n free. result (a_type n) (f (a_type n) (in_type free))) (λ g free. result (a_group g) (f (a_group g) (in_type free))))
    result (a_group g) (founded f) = λ k p q ys h. group_some l S P (Says S) Q (Does S) types groups (l.group_at g) p q ys h
        (group_founded l P (Says S) Q (Does S) (l.group_at g) (are.groups g k) (λ i free. result (a_group i) (f (a_group i) (in_group free))))

  by_size : (S : ℕ) → AllUnder S
  by_size zero = record { of_types = λ m p y k h. absurd (omega (arith, h)); of_groups = λ g p q ys k h. absurd (omega (arith, h)) }
  by_size (suc S) =
      let u = by_size S in
      record {
        of_types = λ m p y k h. result S u (a_type m) (are.type_ends m k) k p y (omega (arith, h));
        of_groups = λ g p q ys k h. result S u (a_group g) (are.group_ends g k) k p q ys (omega (arith, h));
      }

  pub named_type : (m : N) → P m → (p : ℕ) (y : Value) → SaysSome l (l.type_at m) p y
  named_type m k p y = (by_size (suc (size y))).of_types m p y k (omega arith)

  pub named_group : (g : G) → Q g → (p q : ℕ) (ys : List Value) → DoesSome l (l.group_at g) p q ys
  named_group g k p q ys = (by_size (suc (list_size ys))).of_groups g p q ys k (omega arith)

  pub founded_decided : (m : N) → P m → (p : ℕ) (x : Value) → p + size x < 2 ^ 64 → IsDecided l (l.type_at m) p x
  founded_decided m k p x h =
      let d = named_type m k p x in
      record { answer = d.answer; weight = d.weight; says = d.says; only = λ a w e. one_saying l h d.says e }

-- Where there are ranks, all names are such.

abbrev One : {A : Type 0} → A → Type 0
One a = Unit {0}

each_one : {A : Type 0} (names : List A) → AreAll One names
each_one [] = tt
each_one (a ∷ more) = (tt, each_one more)

entries_one : {N : Type 0} (es : List (MapEntry N)) → AreAll (HasEntry One) es
entries_one [] = tt
entries_one (e ∷ es) = ((tt, tt), entries_one es)

alternatives_one : {N : Type 0} (ess : List (List (MapEntry N))) → AreAll (AreAll (HasEntry One)) ess
alternatives_one [] = tt
alternatives_one (es ∷ ess) = (entries_one es, alternatives_one ess)

number_one : {N : Type 0} (t : TagNumber N) → HasNumber One t
number_one any_number = tt
number_one (exactly n) = tt
number_one (such_as m) = tt

type_one : {N G : Type 0} (f : Node N G) → HasTypeParts One One f
type_one (Plain t) = tt
type_one (Ref m) = tt
type_one (Choice ms) = each_one ms
type_one (ArrayOf g) = tt
type_one (TagOf t m) = (number_one t, tt)
type_one (SimpleBy m) = tt
type_one (MapOf ess) = alternatives_one ess
type_one (Both m n) = (tt, tt)
type_one (Such m t) = tt
type_one (Holding m c n) = (tt, tt)

group_one : {N G : Type 0} (f : Group N G) → HasGroupParts One One f
group_one (Entry m) = tt
group_one (GroupRef g) = tt
group_one (Sequence gs) = each_one gs
group_one (Alternatives gs) = each_one gs
group_one (Repeat least most g) = tt

module _ {N G : Type 0} (l : Language N G) (rank : Name N G → ℕ) (bound : ℕ) (ranked : IsRanked l rank bound) where
  ends_under : (n : ℕ) (a : Name N G) → rank a < n → IsFounded l a
  ends_under zero a h = absurd (omega (arith, h))
  ends_under (suc n) a h = founded (λ b f. ends_under n b (omega (arith, h, ranked.down a b f)))

  ends : (a : Name N G) → IsFounded l a
  ends a = ends_under (suc (rank a)) a (omega arith)

  all_founded : AreFounded l One One
  all_founded = record { types = λ n k. type_one (l.type_at n); groups = λ g k. group_one (l.group_at g); type_ends = λ n k. ends (a_type n); group_ends = λ g k. ends (a_group g) }

  types_say : (S : ℕ) (m : N) (p : ℕ) (y : Value) → (Unit {0} × (size y < S)) ⊎ (Unit {0} × (size y ≤ S)) → SaysSome l (l.type_at m) p y
  types_say S m p y i = named_type l One One all_founded m tt p y

  groups_do : (S : ℕ) (g : G) (p q : ℕ) (ys : List Value) → (Unit {0} × (list_size ys < S)) ⊎ (Unit {0} × (list_size ys ≤ S)) → DoesSome l (l.group_at g) p q ys
  groups_do S g p q ys i = named_group l One One all_founded g tt p q ys

  pub any_type : (t : Node N G) (p : ℕ) (x : Value) → SaysSome l t p x
  any_type t p x = type_some l (size x) One One One One (types_say (size x)) (groups_do (size x)) t p x (omega arith) (type_founded l One One One One t (type_one t) (λ m f k. tt) (λ g f k. tt))

  pub any_group : (t : Group N G) (p q : ℕ) (xs : List Value) → DoesSome l t p q xs
  any_group t p q xs = group_some l (list_size xs) One One One One (types_say (list_size xs)) (groups_do (list_size xs)) t p q xs (omega arith) (group_founded l One One One One t (group_one t) (λ g f k. tt))

  pub is_decided : (t : Node N G) (p : ℕ) (x : Value) → p + size x < 2 ^ 64 → IsDecided l t p x
  is_decided t p x h =
      let d = any_type t p x in
      record { answer = d.answer; weight = d.weight; says = d.says; only = λ a w e. one_saying l h d.says e }
