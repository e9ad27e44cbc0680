-- What links have led to, by numbers.
use Rattle.std.specs.Prelude.{◌≡◌, ◌↔◌, ◌⊎◌, ℕ, ◌+◌, ◌*◌, ◌<◌, ◌≤◌, nat_eq, if◌then◌else◌, Bool, true, false, List, [], ◌∷◌, ◌++◌, drop, Contains, Option, Some, None, slice_get}
use Rattle.graphs.specs.declared.implications.Implication.{Implication}
use Rattle.cddl_language.specs.Language.{TypeName, reference}
use Rattle.cddl_language.specs.Terms.{Ref}
use Rattle.check_terms.specs.declared.row.Row.{Row}
use Rattle.check_instances.specs.declared.closed.closed.Meaning.{Meaning}
use Rattle.table_making.specs.declared.origin.TypeOrigin.{TypeOrigin}
use Rattle.table_making.specs.declared.origin.TypeOrigin.TheVariants as T
use Rattle.table_nodes.specs.declared.nodes.TypeId.{TypeId}
use Rattle.type_links.specs.declared.link.Link.{Link}
use Rattle.type_links.specs.declared.link.Link.TheVariants as L
use Rattle.source_places.specs.Places.{LeadsTo}
use Rattle.source_pieces.specs.declared.piece.EntryAt.{EntryAt}
use Rattle.source_pieces.specs.declared.piece.NameAt.{NameAt}
use Rattle.source_pieces.specs.declared.piece.PieceAt.{PieceAt}
use Rattle.source_places.specs.declared.place.Place.{Place}
use Rattle.source_places.specs.declared.place.State.{State}
use Rattle.source_pieces.specs.declared.rules.RuleAt.{RuleAt}
use Rattle.source_places.specs.declared.sources.TypesInText.{TypesInText}
use Rattle.source_pieces.specs.declared.span.Span.{Span}

-- the number of the name of an instance, by the row of its reference

abbrev pub text_in : Option Row → Option ℕ
text_in None = None
text_in (Some r) = r.text

abbrev pub name_number : List Row → Meaning → Option ℕ
name_number rows m = text_in (slice_get rows m.call)

-- the number of the name of which a type is an instance

abbrev pub flattened : Option (Option ℕ) → Option ℕ
flattened None = None
flattened (Some o) = o

abbrev pub number_in : List (Option ℕ) → Option TypeOrigin → Option ℕ
number_in ns (Some (T.Instance k)) = flattened (slice_get ns k)
number_in ns _ = None

-- what the type is of to which the link is
abbrev pub origin_at : TypesInText → Link → Option TypeOrigin
origin_at x (L.Type m) = slice_get x.origins.items m.number
origin_at x (L.Alternative k) = None
origin_at x (L.Entry k) = None
origin_at x (L.Key m) = None

abbrev pub number_at : TypesInText → Link → Option ℕ
number_at x m = number_in x.numbers.items (origin_at x m)

-- the rule at the place i has this number
pub record HasNumber (x : TypesInText) (i n : ℕ) : Type 0 where
  pub at : RuleAt
  pub there : slice_get x.rules.items i ≡ Some at
  pub same : at.number ≡ n

-- the link is to an instance of no rule of the text
abbrev pub HasNoRule : TypesInText → Link → Type 0
HasNoRule x m = (n i : ℕ) → number_at x m ≡ Some n → HasNumber x i n → ⊥

-- there is a rule at this place
abbrev pub IsRuleIn : TypesInText → ℕ → Type 0
IsRuleIn x i = (a : RuleAt) × (slice_get x.rules.items i ≡ Some a)

-- a place that is of this origin
pub record IsOfOrigin (x : TypesInText) (o : TypeOrigin) (a : PieceAt) : Type 0 where
  pub contained : Contains x.pieces.items a
  pub same : a.origin ≡ Some o

-- a place that is the key of an entry, of this origin
pub record IsKeyPlace (x : TypesInText) (o : TypeOrigin) (a : PieceAt) : Type 0 where
  pub contained : Contains x.pieces.items a
  pub alone : a.origin ≡ None
  pub same : a.key ≡ Some o

-- it lies within the other
abbrev pub IsInside : PieceAt → PieceAt → Type 0
IsInside o a = (a.rule ≡ o.rule) × (o.span.first ≤ a.span.first) × (a.span.end ≤ o.span.end)

-- it lies within what was found before, or in a rule with this number, if nothing was
abbrev pub IsFrom : TypesInText → ℕ → Option PieceAt → PieceAt → Type 0
IsFrom x n None a = HasNumber x a.rule n
IsFrom x n (Some o) a = IsInside o a

-- it is of the type to which the link is
pub record IsTypeIn (x : TypesInText) (n : ℕ) (from : Option PieceAt) (m : Link) (a : PieceAt) : Type 0 where
  pub origin : TypeOrigin
  pub there : origin_at x m ≡ Some origin
  pub is : IsOfOrigin x origin a
  pub inside : IsFrom x n from a

-- its group has these brackets round it
abbrev pub IsBetween : PieceAt → PieceAt → Type 0
IsBetween o a = (a.rule ≡ o.rule) × (a.around ≡ Some o.span)

-- A name by its number, and the same after `~`.

abbrev pub plain_name : ℕ → NameAt
plain_name n = record { number = n; is_unwrapped = false }

abbrev pub unwrapped_name : ℕ → NameAt
unwrapped_name n = record { number = n; is_unwrapped = true }

-- what is round a group for which the name of a rule stands: nothing, or after `~` the ends of the rule's body
abbrev pub ends_of : Bool → RuleAt → Option Span
ends_of false r = None
ends_of true r = Some r.body

-- the name stands for the piece's group
pub record IsInBody (x : TypesInText) (a : PieceAt) (n : NameAt) : Type 0 where
  pub rule : HasNumber x a.rule n.number
  pub around : a.around ≡ ends_of n.is_unwrapped rule.at

-- it is an entry without a key that is this name
pub record IsMember (x : TypesInText) (n : NameAt) (a : PieceAt) : Type 0 where
  pub contained : Contains x.pieces.items a
  pub alone : a.entry ≡ None
  pub name : a.name ≡ Some n

-- The name stands for entries that are the map's.
pub data IsSplicedIn (x : TypesInText) (map : PieceAt) : NameAt → Type 0 where
  named_in_map : {n : NameAt} {a : PieceAt} → n.number < x.names → IsMember x n a → IsBetween map a → IsSplicedIn x map n
  named_in_group : {n m : NameAt} {a : PieceAt} → n.number < x.names → IsMember x n a → IsInBody x a m → IsSplicedIn x map m → IsSplicedIn x map n
  named_alone : {n m : ℕ} {a : PieceAt} → n < x.names → IsMember x (plain_name n) a → IsInBody x a (plain_name m) → IsSplicedIn x map (unwrapped_name m) → IsSplicedIn x map (unwrapped_name n)

-- the key or the value is in an entry of the map
pub data IsInMap (x : TypesInText) (map a : PieceAt) : Type 0 where
  in_its_brackets : IsBetween map a → IsInMap x map a
  in_its_group : {n : NameAt} → IsInBody x a n → IsSplicedIn x map n → IsInMap x map a

-- the same, where what was found before is the map, or in a rule with this number, if nothing was
abbrev pub IsInMapFrom : TypesInText → ℕ → Option PieceAt → PieceAt → Type 0
IsInMapFrom x n None a = HasNumber x a.rule n
IsInMapFrom x n (Some map) a = IsInMap x map a

-- A name has a number of its own, and the same with `~` the next one.

abbrev pub bit : Bool → ℕ
bit false = 0
bit true = 1

abbrev pub fact_of : NameAt → ℕ
fact_of n = 2 * n.number + bit n.is_unwrapped

-- that a fact follows by itself, or from another one

abbrev pub by_itself : ℕ → Implication
by_itself k = record { then = k; first = None; second = None }

abbrev pub from_one : (conclusion premise : ℕ) → Implication
from_one k j = record { then = k; first = Some j; second = None }

-- for each such number whether it is that of such a name
pub record AreSpliced (x : TypesInText) (map : PieceAt) (flags : List Bool) : Type 0 where
  pub each : (n : NameAt) → (slice_get flags (fact_of n) ≡ Some true) ↔ IsSplicedIn x map n

abbrev pub AreSplicedFrom : TypesInText → Option PieceAt → List Bool → Type 0
AreSplicedFrom x None flags = Unit {0}
AreSplicedFrom x (Some map) flags = AreSpliced x map flags

-- a name that stands for its group has a flag
abbrev pub IsFlagged : TypesInText → List Bool → PieceAt → Type 0
IsFlagged x flags a = (n : NameAt) × IsInBody x a n × (slice_get flags (fact_of n) ≡ Some true)

-- What follows from one piece: the name of a member of the map stands for entries that are its; that of a member of a group, if the name
-- for which the group stands does; and with `~` the name that is all of a rule, if that of the rule does with `~`.
pub data IsStep (x : TypesInText) (map a : PieceAt) : Implication → Type 0 where
  step_in_map : {n : NameAt} → IsMember x n a → IsBetween map a → IsStep x map a (by_itself (fact_of n))
  step_in_group : {n m : NameAt} → IsMember x n a → IsInBody x a m → IsStep x map a (from_one (fact_of n) (fact_of m))
  step_alone : {n m : ℕ} → IsMember x (plain_name n) a → IsInBody x a (plain_name m) → IsStep x map a (from_one (fact_of (unwrapped_name n)) (fact_of (unwrapped_name m)))

-- the list has what follows from one piece more
pub record HasGrown (step : Implication → Type 0) (old new : List Implication) : Type 0 where
  pub each : (i : Implication) → Contains new i → Contains old i ⊎ step i
  pub kept : (i : Implication) → Contains old i → Contains new i
  pub all : (i : Implication) → step i → Contains new i

-- it has what follows from each, and nothing else
pub record AreSteps (step : PieceAt → Implication → Type 0) (steps : List Implication) : Type 0 where
  pub each : (i : Implication) → Contains steps i → (a : PieceAt) × step a i
  pub all : (a : PieceAt) (i : Implication) → step a i → Contains steps i

-- it is the key of an entry and of this type
pub record IsKeyIn (x : TypesInText) (n : ℕ) (from : Option PieceAt) (key : TypeId) (a : PieceAt) : Type 0 where
  pub origin : TypeOrigin
  pub there : origin_at x (L.Type key) ≡ Some origin
  pub is : IsKeyPlace x origin a
  pub inside : IsInMapFrom x n from a

-- it is of the second type, the value of an entry whose key is of the first
pub record IsValueIn (x : TypesInText) (n : ℕ) (from : Option PieceAt) (key : TypeId) (m : Link) (a : PieceAt) : Type 0 where
  pub key_origin : TypeOrigin
  pub key_there : origin_at x (L.Type key) ≡ Some key_origin
  pub same : a.key ≡ Some key_origin
  pub origin : TypeOrigin
  pub there : origin_at x m ≡ Some origin
  pub is : IsOfOrigin x origin a
  pub inside : IsInMapFrom x n from a

-- it is in a rule with parameters, and with another number
pub record IsUnfilled (x : TypesInText) (n : ℕ) (a : PieceAt) : Type 0 where
  pub rule : RuleAt
  pub there : slice_get x.rules.items a.rule ≡ Some rule
  pub generic : rule.is_generic ≡ true
  pub other : rule.number ≡ n → ⊥

-- it is of some type
abbrev pub IsTyped : PieceAt → Type 0
IsTyped a = (o : TypeOrigin) × (a.origin ≡ Some o)

-- it is the value of an entry in such a rule whose key is of this origin
pub record IsUnfilledOf (x : TypesInText) (n : ℕ) (from : Option PieceAt) (key : TypeOrigin) (a : PieceAt) : Type 0 where
  pub contained : Contains x.pieces.items a
  pub typed : IsTyped a
  pub same : a.key ≡ Some key
  pub inside : IsInMapFrom x n from a
  pub unfilled : IsUnfilled x n a

-- the piece, where this type is asked
abbrev pub asking : Link → PieceAt → PieceAt
asking m a = record a { asked = Some m }

-- the same of the first type, where the other link is to a type too, which is asked there
pub record IsUnfilledIn (x : TypesInText) (n : ℕ) (from : Option PieceAt) (key : TypeId) (m : Link) (a : PieceAt) : Type 0 where
  pub key_origin : TypeOrigin
  pub key_there : origin_at x (L.Type key) ≡ Some key_origin
  pub origin : TypeOrigin
  pub there : origin_at x m ≡ Some origin
  pub piece : PieceAt
  pub is : IsUnfilledOf x n from key_origin piece
  pub same : a ≡ asking m piece

-- the type is asked in what was found before
pub record IsAskedIn (x : TypesInText) (from : Option PieceAt) (m : Link) (a : PieceAt) : Type 0 where
  pub place : PieceAt
  pub found : from ≡ Some place
  pub origin : TypeOrigin
  pub there : origin_at x m ≡ Some origin
  pub same : a ≡ asking m place

-- what is asked there may stand elsewhere
pub data IsAway (x : TypesInText) (n : ℕ) (a : PieceAt) : Type 0 where
  as_before : {k : Link} → a.asked ≡ Some k → IsAway x n a
  unfilled : IsUnfilled x n a → IsAway x n a

-- the same, where that is so
abbrev pub IsAskedThere : TypesInText → ℕ → Option PieceAt → Link → PieceAt → Type 0
IsAskedThere x n from m a = (h : IsAskedIn x from m a) × IsAway x n h.place

-- where the type of a value is asked that is known at no entry
pub data IsValueAsked (x : TypesInText) (n : ℕ) (from : Option PieceAt) (key : TypeId) (m : Link) (a : PieceAt) : Type 0 where
  of_unfilled : IsUnfilledIn x n from key m a → IsValueAsked x n from key m a
  of_map : ((b : PieceAt) → IsUnfilledIn x n from key m b → ⊥) → IsAskedIn x from m a → IsValueAsked x n from key m a

-- it is neither the value of both types nor where that is asked
abbrev pub IsNoValue : TypesInText → ℕ → Option PieceAt → TypeId → Link → PieceAt → Type 0
IsNoValue x n from key m a = (IsValueIn x n from key m a → ⊥) × (IsValueAsked x n from key m a → ⊥)

-- the entry has so many alternatives and entries after it
pub record IsPlacedIn (alternative place : ℕ) (e : Option EntryAt) : Type 0 where
  pub entry : EntryAt
  pub there : e ≡ Some entry
  pub same_alternative : entry.alternative ≡ alternative
  pub same_place : entry.place ≡ place

-- it is an entry in the rule at the place i, of the group with this round it
pub record IsEntryThere (x : TypesInText) (i : ℕ) (around : Option Span) (alternative place : ℕ) (a : PieceAt) : Type 0 where
  pub contained : Contains x.pieces.items a
  pub rule : a.rule ≡ i
  pub round : a.around ≡ around
  pub is : IsPlacedIn alternative place a.entry

-- it is an entry of the group in the brackets that are the ends of the other
abbrev pub IsEntryWithin : TypesInText → PieceAt → (alternative place : ℕ) → PieceAt → Type 0
IsEntryWithin x around k i a = IsEntryThere x around.rule (Some around.span) k i a

-- it is an entry of the rule at the place i
abbrev pub IsEntryOfRule : TypesInText → ℕ → (own place : ℕ) → PieceAt → Type 0
IsEntryOfRule x i own place a = IsEntryThere x i None own place a

-- How many alternatives a rule makes, if it has this number, and how many all rules with the number do.

abbrev pub count_of : ℕ → RuleAt → ℕ
count_of n r = if nat_eq r.number n then r.alternatives else 0

abbrev pub count_in : ℕ → Option RuleAt → ℕ
count_in n None = 0
count_in n (Some r) = count_of n r

abbrev pub counted : ℕ → List RuleAt → ℕ
counted n [] = 0
counted n (r ∷ rs) = count_of n r + counted n rs

-- The rule at the place i has an alternative with so many after it there, and so many after it in all rules with this number.
pub record IsAlternative (x : TypesInText) (n alternative i own : ℕ) : Type 0 where
  pub less : own < count_in n (slice_get x.rules.items i)
  pub after : own + counted n (drop (i + 1) x.rules.items) ≡ alternative

-- it is an entry of a rule with this number
pub record IsEntryOfName (x : TypesInText) (n alternative place : ℕ) (a : PieceAt) : Type 0 where
  pub own : ℕ
  pub is_alternative : IsAlternative x n alternative a.rule own
  pub is : IsEntryOfRule x a.rule own place a

-- the same, where this is the name that the other is
pub record IsEntryNamed (x : TypesInText) (around : PieceAt) (alternative place : ℕ) (a : PieceAt) : Type 0 where
  pub name : ℕ
  pub is_name : around.name ≡ Some (plain_name name)
  pub is : IsEntryOfName x name alternative place a

-- What `~` gives of the name of the one number is what it gives of that of the other.
pub data AreAlikeIn (x : TypesInText) (n : ℕ) : ℕ → Type 0 where
  itself : n < x.names → AreAlikeIn x n n
  alone : {k m : ℕ} {a : PieceAt} → k < x.names → IsMember x (plain_name k) a → IsInBody x a (plain_name m) → AreAlikeIn x n m → AreAlikeIn x n k

-- for each number whether it is such a one
pub record AreMarked (x : TypesInText) (n : ℕ) (flags : List Bool) : Type 0 where
  pub each : (k : ℕ) → (slice_get flags k ≡ Some true) ↔ AreAlikeIn x n k

-- the name that is all of a rule is such a one, if the name of the rule is
pub data IsAloneStep (x : TypesInText) (a : PieceAt) : Implication → Type 0 where
  step_of_rule : {k m : ℕ} → IsMember x (plain_name k) a → IsInBody x a (plain_name m) → IsAloneStep x a (from_one k m)

-- it is in the brackets that are the body of a rule whose name has a flag
pub record IsInMarked (x : TypesInText) (flags : List Bool) (a : PieceAt) : Type 0 where
  pub name : ℕ
  pub body : IsInBody x a (unwrapped_name name)
  pub flag : slice_get flags name ≡ Some true

-- it is an entry in the brackets that are the body of a rule of which `~` gives what it gives of the name of this number
pub record IsEntryInBody (x : TypesInText) (n alternative place : ℕ) (a : PieceAt) : Type 0 where
  pub contained : Contains x.pieces.items a
  pub name : ℕ
  pub alike : AreAlikeIn x n name
  pub body : IsInBody x a (unwrapped_name name)
  pub is : IsPlacedIn alternative place a.entry

-- the same, where the other is `~` and the name of this number
pub record IsEntryUnwrapped (x : TypesInText) (around : PieceAt) (alternative place : ℕ) (a : PieceAt) : Type 0 where
  pub called : ℕ
  pub is_called : around.name ≡ Some (unwrapped_name called)
  pub is : IsEntryInBody x called alternative place a

-- it is none of the name that the other is
abbrev pub AreNoEntry : TypesInText → PieceAt → (alternative place : ℕ) → PieceAt → Type 0
AreNoEntry x around k i a = (IsEntryNamed x around k i a → ⊥) × (IsEntryUnwrapped x around k i a → ⊥)

-- one of these of what was found before
pub data IsEntryOf (x : TypesInText) : Option PieceAt → (alternative place : ℕ) → PieceAt → Type 0 where
  within : {around : PieceAt} {k i : ℕ} {a : PieceAt} → IsEntryWithin x around k i a → IsEntryOf x (Some around) k i a
  named : {around : PieceAt} {k i : ℕ} {a : PieceAt} → IsEntryNamed x around k i a → IsEntryOf x (Some around) k i a
  by_unwrapping : {around : PieceAt} {k i : ℕ} {a : PieceAt} → IsEntryUnwrapped x around k i a → IsEntryOf x (Some around) k i a

-- two links lead to it together
pub data ArePairIn (x : TypesInText) (n : ℕ) (from : Option PieceAt) : Link → Link → PieceAt → Type 0 where
  of_value : {key : TypeId} {m : Link} {a : PieceAt} → IsValueIn x n from key m a → ArePairIn x n from (L.Key key) m a
  of_asked : {key : TypeId} {m : Link} {a : PieceAt} → ((b : PieceAt) → IsValueIn x n from key m b → ⊥) → IsValueAsked x n from key m a → ArePairIn x n from (L.Key key) m a
  of_entry : {k i : ℕ} {a : PieceAt} → IsEntryOf x from k i a → ArePairIn x n from (L.Alternative k) (L.Entry i) a

-- it is of the type, or that is asked there
pub data IsTypeOrAsked (x : TypesInText) (n : ℕ) (from : Option PieceAt) (m : Link) (a : PieceAt) : Type 0 where
  it_is : IsTypeIn x n from m a → IsTypeOrAsked x n from m a
  it_asks : ((b : PieceAt) → IsTypeIn x n from m b → ⊥) → IsAskedThere x n from m a → IsTypeOrAsked x n from m a

-- one link leads to it by itself
pub data IsOneIn (x : TypesInText) (n : ℕ) (from : Option PieceAt) : Link → PieceAt → Type 0 where
  of_type : {m : Link} {a : PieceAt} → IsTypeOrAsked x n from m a → IsOneIn x n from m a
  of_key : {key : TypeId} {a : PieceAt} → IsKeyIn x n from key a → IsOneIn x n from (L.Key key) a

abbrev pub AreNoPairIn : TypesInText → ℕ → Option PieceAt → Link → List Link → Type 0
AreNoPairIn x n from m [] = Unit {0}
AreNoPairIn x n from m (v ∷ ms) = (a : PieceAt) → ArePairIn x n from m v a → ⊥

-- Links lead from what was found before to what is found then.
pub data LeadsIn (x : TypesInText) (n : ℕ) : Option PieceAt → List Link → Option PieceAt → Type 0 where
  arrives : {from : Option PieceAt} → LeadsIn x n from [] from
  to_pair : {from to : Option PieceAt} {key m : Link} {ms : List Link} {a : PieceAt} → ArePairIn x n from key m a → LeadsIn x n (Some a) ms to → LeadsIn x n from (key ∷ m ∷ ms) to
  to_one : {from to : Option PieceAt} {m : Link} {ms : List Link} {a : PieceAt} → AreNoPairIn x n from m ms → IsOneIn x n from m a → LeadsIn x n (Some a) ms to → LeadsIn x n from (m ∷ ms) to
  passes : {from to : Option PieceAt} {m : Link} {ms : List Link} → AreNoPairIn x n from m ms → ((a : PieceAt) → IsOneIn x n from m a → ⊥) → LeadsIn x n from ms to → LeadsIn x n from (m ∷ ms) to

-- the link that is held back, if one is, before the others
abbrev pub with_held : Option Link → List Link → List Link
with_held None ms = ms
with_held (Some m) ms = m ∷ ms

-- Where the links lead to with others after them, what was found leads to by the held one and these.
abbrev pub IsFoundAfter : TypesInText → State → List Link → Type 0
IsFoundAfter x st ids = (rest : List Link) (to : Option PieceAt) → LeadsIn x st.number st.found (with_held st.held rest) to → LeadsIn x st.number None (ids ++ rest) to

-- Links that were passed over: none, or they begin with an instance.
abbrev pub ArePassed : TypesInText → Bool → List Link → Type 0
ArePassed x true ids = ids ≡ []
ArePassed x false ids = (m : Link) × (ms : List Link) × (k : ℕ) × (ids ≡ m ∷ ms) × (origin_at x m ≡ Some (T.Instance k))

-- The state is of the last of the links that is to an instance of a rule of the text, and of those after it up to the next instance.
pub record IsStateAfter (x : TypesInText) (ids : List Link) (st : State) : Type 0 where
  pub before : List Link
  pub instance : Link
  pub inside : List Link
  pub outside : List Link
  pub split : ids ≡ before ++ instance ∷ (inside ++ outside)
  pub number : number_at x instance ≡ Some st.number
  pub rule : HasNumber x st.rule st.number
  pub last : (m : Link) → Contains (inside ++ outside) m → HasNoRule x m
  pub passed : ArePassed x st.is_inside outside
  pub found : IsFoundAfter x st inside

abbrev pub IsStateOf : TypesInText → List Link → Option State → Type 0
IsStateOf x ids None = (m : Link) → Contains ids m → HasNoRule x m
IsStateOf x ids (Some st) = IsStateAfter x ids st

-- The state after one link more in the rule.
pub record IsNarrowed (x : TypesInText) (st : State) (m : Link) (new : State) : Type 0 where
  pub number : new.number ≡ st.number
  pub rule : new.rule ≡ st.rule
  pub inside : new.is_inside ≡ st.is_inside
  pub found : (ids : List Link) → IsFoundAfter x st ids → IsFoundAfter x new (ids ++ m ∷ [])

-- the link begins with this state
pub record IsStarted (x : TypesInText) (m : Link) (st : State) : Type 0 where
  pub number : number_at x m ≡ Some st.number
  pub rule : HasNumber x st.rule st.number
  pub inside : st.is_inside ≡ true
  pub found : st.found ≡ None
  pub held : st.held ≡ None

-- of what the piece is, or its key, where it is that in its place there

abbrev pub or_else : Option TypeOrigin → Option TypeOrigin → Option TypeOrigin
or_else (Some o) k = Some o
or_else None k = k

abbrev pub told_origin : PieceAt → Option TypeOrigin
told_origin a = or_else a.origin a.key

-- of what the type is that may be written elsewhere

abbrev pub if_filled : Bool → Option TypeOrigin → Option TypeOrigin
if_filled true o = o
if_filled false o = None

abbrev pub sought_by : TypesInText → Option Link → Option TypeOrigin → Option TypeOrigin
sought_by x (Some m) o = origin_at x m
sought_by x None o = if_filled x.filled o

abbrev pub sought_in : TypesInText → PieceAt → Option TypeOrigin
sought_in x a = sought_by x a.asked (told_origin a)

-- where there are arguments, the rule has another number
abbrev pub IsOther : TypesInText → (number rule : ℕ) → Type 0
IsOther x n i = x.filled ≡ true → HasNumber x i n → ⊥

-- a place of this origin in such a rule
pub record IsElsewhere (x : TypesInText) (n : ℕ) (o : TypeOrigin) (a : PieceAt) : Type 0 where
  pub is : IsOfOrigin x o a
  pub other : IsOther x n a.rule

-- how the type of this origin is reported in the place of what stands there
pub data IsWrittenIn (x : TypesInText) (n : ℕ) (o : Option TypeOrigin) (s : Span) : Span → Type 0 where
  elsewhere : {b : PieceAt} {u : TypeOrigin} → o ≡ Some u → IsElsewhere x n u b → IsWrittenIn x n o s b.span
  as_it_is : ((b : PieceAt) (u : TypeOrigin) → o ≡ Some u → IsElsewhere x n u b → ⊥) → IsWrittenIn x n o s s

-- What a state tells: what was found in the rules of its name, or else the body of the first of these.
abbrev pub IsTold : TypesInText → State → Option PieceAt → Place → Type 0
IsTold x st None p = (a : RuleAt) × (slice_get x.rules.items st.rule ≡ Some a) × (p.name ≡ a.name) × (p.types ≡ a.body) × (p.written ≡ a.body)
IsTold x st (Some f) p = (a : RuleAt) × (slice_get x.rules.items f.rule ≡ Some a) × (p.name ≡ a.name) × (p.types ≡ f.span) × IsWrittenIn x st.number (sought_in x f) f.span p.written

-- the link is to an instance of a rule of the text
abbrev pub HasRule : TypesInText → Link → Type 0
HasRule x m = (n : ℕ) × (i : ℕ) × (number_at x m ≡ Some n) × HasNumber x i n

-- The last of the links that is to an instance of a rule of the text is to this one.
pub record IsLastAt (x : TypesInText) (chain : List Link) (k : ℕ) : Type 0 where
  pub before : List Link
  pub last : Link
  pub others : List Link
  pub split : chain ≡ before ++ last ∷ others
  pub is : origin_at x last ≡ Some (T.Instance k)
  pub has_rule : HasRule x last
  pub none : (m : Link) → Contains others m → HasNoRule x m

abbrev pub IsLastIn : TypesInText → List Link → Option ℕ → Type 0
IsLastIn x chain None = (m : Link) → Contains chain m → HasNoRule x m
IsLastIn x chain (Some k) = IsLastAt x chain k

-- It is the reference of the last of the links that is to an instance of a rule of the text.
abbrev pub IsOfLast : (TypeName → TypeId → Type 0) → Ref → TypesInText → List Link → Type 0
IsOfLast names q x chain = (before : List Link) (m : Link) (others : List Link) → chain ≡ before ++ m ∷ others → HasRule x m → ((l : Link) → Contains others l → HasNoRule x l) → LeadsTo names (reference q) m
