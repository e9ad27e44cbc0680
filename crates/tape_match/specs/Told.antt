-- What is told of items on a tape.
use Rattle.std.specs.Prelude.{◌≡◌, ◌⊎◌, ℕ, ◌+◌, ◌-◌, ◌<◌, ◌≤◌, List, length, get_or, slice_get, Bool, true, false, Option, Some, None, IfSome}
use Rattle.cbor_data.specs.Embedded.{Embeds}
use Rattle.cbor_data.specs.Value.{Value, Values, Pairs}
use Rattle.cbor_data.specs.Same.{same_value}
use Rattle.cbor_tape.specs.Places.{IsAt, AreAt, ArePairsAt, IsSeen}
use Rattle.cbor_tape.specs.declared.places.Seen.{Seen}
use Rattle.cbor_tape.specs.declared.places.Taped.{Taped}
use Rattle.cddl_meaning.specs.Forms as F
use Rattle.cddl_meaning.specs.Forms.{Language, list_of}
use Rattle.table_nodes.specs.declared.nodes.GroupId.{GroupId}
use Rattle.table_nodes.specs.declared.nodes.TypeId.{TypeId}
use Rattle.tape_match.specs.Says.{BeginSame, FormSays, IsLacking, GroupTakes, GroupFails, PairTaken, PairFails, PairsSorted, WaySays}
use Rattle.tape_match.specs.declared.told.Tells.{Tells}
use Rattle.tape_match.specs.declared.told.Tells.TheVariants as T
use Rattle.tape_match.specs.declared.told.Does.{Does}
use Rattle.tape_match.specs.declared.told.Does.TheVariants as D
use Rattle.tape_match.specs.declared.told.Meets.{Meets}
use Rattle.tape_match.specs.declared.told.Meets.TheVariants as M
use Rattle.tape_match.specs.declared.told.Known.{Known}
use Rattle.tape_match.specs.declared.told.Known.TheVariants as K
use Rattle.tape_match.specs.declared.told.Sorted.{Sorted}
use Rattle.tape_match.specs.declared.before.MetPair.{MetPair}
use Rattle.tape_match.specs.declared.told.Met.{Met}
use Rattle.tape_match.specs.declared.told.Met.TheVariants as H

-- Of the items xs, which have the places from this one up to `end`, these are left, from the place `next` on.
pub record IsRest (t : Taped) (place end : ℕ) (xs : Values) (next : ℕ) (left : Values) : Type 0 where
  pub there : AreAt t next end left
  pub up : place ≤ next
  pub same : next ≡ place → left ≡ xs
  pub fewer : place < next → length (list_of left) < length (list_of xs)

-- what is said in one judgement more
abbrev pub one_more : Tells → Tells
one_more (T.Yes w) = T.Yes (1 + w)
one_more (T.No w) = T.No (1 + w)
one_more T.Nothing = T.Nothing

abbrev pub one_more_done : Does → Does
one_more_done (D.Takes next w) = D.Takes next (1 + w)
one_more_done (D.Fails w) = D.Fails (1 + w)
one_more_done D.Nothing = D.Nothing

-- what is said, or done, in so many judgements more
abbrev pub more_told : ℕ → Tells → Tells
more_told k (T.Yes w) = T.Yes (k + w)
more_told k (T.No w) = T.No (k + w)
more_told k T.Nothing = T.Nothing

abbrev pub more_done : ℕ → Does → Does
more_done k (D.Takes next w) = D.Takes next (k + w)
more_done k (D.Fails w) = D.Fails (k + w)
more_done k D.Nothing = D.Nothing

-- no more than so many judgements were counted
abbrev pub IsWithin : (most : ℕ) → Tells → Type 0
IsWithin most (T.Yes w) = w ≤ most
IsWithin most (T.No w) = w ≤ most
IsWithin most T.Nothing = Unit {0}

abbrev pub IsDoneWithin : (most : ℕ) → Does → Type 0
IsDoneWithin most (D.Takes next w) = w ≤ most
IsDoneWithin most (D.Fails w) = w ≤ most
IsDoneWithin most D.Nothing = Unit {0}

-- and the entry that a pair belongs to is one of so many
abbrev pub IsMetWithin : (most entries : ℕ) → Meets → Type 0
IsMetWithin most entries (M.Takes after w) = (w ≤ most) × (after < entries)
IsMetWithin most entries (M.Falls w) = w ≤ most
IsMetWithin most entries M.Nothing = Unit {0}

abbrev pub IsHandedWithin : (most : ℕ) → Met → Type 0
IsHandedWithin most (H.Takes w) = w ≤ most
IsHandedWithin most (H.Falls w) = w ≤ most
IsHandedWithin most (H.HandsOn w) = w ≤ most
IsHandedWithin most H.Nothing = Unit {0}

-- of a literal and a key
abbrev pub IsLiteralKnown : Value → Seen → Known → Type 0
IsLiteralKnown v s K.Other = (t : Taped) (x : Value) → IsSeen t x s → same_value x v ≡ false
IsLiteralKnown v s (K.Asked cost) = (t : Taped) (x : Value) → IsSeen t x s → same_value x v ≡ true
IsLiteralKnown v s K.Nothing = Unit {0}

-- an entry that is asked says yes to the key in so many judgements
abbrev pub IsOfCost : ℕ → Known → Type 0
IsOfCost w K.Other = Unit {0}
IsOfCost w (K.Asked cost) = cost ≡ w
IsOfCost w K.Nothing = Unit {0}

-- These are the entries of the alternative of this number. The first ones, so many, ask the same as those of the one before.
pub record IsNextOf (ways : List (List (F.MapEntry TypeId))) (number same : ℕ) (es : List (F.MapEntry TypeId)) : Type 0 where
  pub before : List (F.MapEntry TypeId)
  pub there : slice_get ways (number - 1) ≡ Some before
  pub here : slice_get ways number ≡ Some es
  pub alike : BeginSame same before es

-- A pair has a key to which the entry's key type says yes, and this is said of its value, in so many judgements together.
pub record IsAsked (l : Language TypeId GroupId) (e : F.MapEntry TypeId) (key held : Value) (says : Bool) (w : ℕ) : Type 0 where
  pub first : ℕ
  pub second : ℕ
  pub sum : w ≡ first + second
  pub keyed : FormSays l (l.type_at e.key_type) key true first
  pub valued : FormSays l (l.type_at e.value_type) held says second

module _ (l : Language TypeId GroupId) where
  -- a type of this form says this of the item
  abbrev pub IsFormTold : F.Node TypeId GroupId → Value → Tells → Type 0
  IsFormTold f x (T.Yes w) = FormSays l f x true w
  IsFormTold f x (T.No w) = FormSays l f x false w
  IsFormTold f x T.Nothing = Unit {0}

  -- a byte string of these bytes holds an item, of which a type of this form says this
  abbrev pub IsHeldTold : F.Node TypeId GroupId → List ℕ → Tells → Type 0
  IsHeldTold f b (T.Yes w) = (y : Value) × Embeds b y × FormSays l f y true w
  IsHeldTold f b (T.No w) = (y : Value) × Embeds b y × FormSays l f y false w
  IsHeldTold f b T.Nothing = Unit {0}

  -- of the item at a place, whatever it is
  abbrev pub IsFormToldAt : F.Node TypeId GroupId → Taped → (place : ℕ) → Tells → Type 0
  IsFormToldAt f t place r = (x : Value) → IsAt t place x → IsFormTold f x r

  -- a group does this with the items that have these places
  abbrev pub IsGroupTold : F.Group TypeId GroupId → Taped → (place end : ℕ) → Values → Does → Type 0
  IsGroupTold f t place end xs (D.Takes next w) = (left : Values) × IsRest t place end xs next left × GroupTakes l f (list_of xs) (list_of left) w
  IsGroupTold f t place end xs (D.Fails w) = GroupFails l f (list_of xs) w
  IsGroupTold f t place end xs D.Nothing = Unit {0}

  abbrev pub IsGroupToldAt : F.Group TypeId GroupId → Taped → (place end : ℕ) → Does → Type 0
  IsGroupToldAt f t place end r = (xs : Values) → AreAt t place end xs → IsGroupTold f t place end xs r

  -- this becomes of a pair that is tried with these entries
  abbrev pub IsPairTold : List (F.MapEntry TypeId) → (key held : Value) → Meets → Type 0
  IsPairTold es key held (M.Takes after w) = PairTaken l es key held after w
  IsPairTold es key held (M.Falls w) = PairFails l es key held w
  IsPairTold es key held M.Nothing = Unit {0}

  abbrev pub IsPairToldAt : List (F.MapEntry TypeId) → Taped → (key held : ℕ) → Meets → Type 0
  IsPairToldAt es t key held r = (k x : Value) → IsAt t key k → IsAt t held x → IsPairTold es k x r

  -- What is kept of a pair is so in the alternative of which it is kept.
  abbrev pub IsMet : List (List (F.MapEntry TypeId)) → Taped → Option MetPair → Type 0
  IsMet ways t None = Unit {0}
  IsMet ways t (Some m) = (es : List (F.MapEntry TypeId)) → slice_get ways m.way ≡ Some es → IsPairToldAt es t m.key m.held (M.Takes (length es - 1 - m.number) m.asked)

  abbrev pub AreMet : List (List (F.MapEntry TypeId)) → Taped → List (Option MetPair) → Type 0
  AreMet ways t ms = (i : ℕ) (o : Option MetPair) → slice_get ms i ≡ Some o → IsMet ways t o

  -- this becomes of a pair at an entry that is asked about it
  abbrev pub IsEntryTold : F.MapEntry TypeId → (key held : Value) → Met → Type 0
  IsEntryTold e key held (H.Takes w) = IsAsked l e key held true w
  IsEntryTold e key held (H.Falls w) = (e.cuts ≡ true) × IsAsked l e key held false w
  IsEntryTold e key held (H.HandsOn w) = FormSays l (l.type_at e.key_type) key false w ⊎ ((e.cuts ≡ false) × IsAsked l e key held false w)
  IsEntryTold e key held H.Nothing = Unit {0}

  abbrev pub IsEntryToldAt : F.MapEntry TypeId → Taped → (key held : ℕ) → Met → Type 0
  IsEntryToldAt e t key held r = (k x : Value) → IsAt t key k → IsAt t held x → IsEntryTold e k x r

  -- this is known of an entry and of a key
  abbrev pub IsKnown : F.MapEntry TypeId → Seen → Known → Type 0
  IsKnown e s K.Other = (t : Taped) (x : Value) → IsSeen t x s → F.is_passed_over l.counting e.key_type x ≡ true
  IsKnown e s (K.Asked cost) = (t : Taped) (x : Value) → IsSeen t x s → (F.is_passed_over l.counting e.key_type x ≡ false) × (0 < cost → FormSays l (l.type_at e.key_type) x true cost)
  IsKnown e s K.Nothing = Unit {0}

  -- Pairs have their fates with these entries. If none has fallen, each belongs to one of the first entries, so many, and the first entry that lacks pairs, or has too many, is known.
  pub record IsSorting (es : List (F.MapEntry TypeId)) (ps : Pairs) (s : Sorted) (asked : ℕ) : Type 0 where
    pub within : s.reach ≤ length es
    pub none : (i : ℕ) → s.reach ≤ i → get_or s.counts i 0 ≡ 0
    pub lacking : s.fallen ≡ false → IsLacking es s.counts 0 s.lacks
    pub sorted : PairsSorted l es ps s.counts s.fallen asked

  abbrev pub AreSorted : List (F.MapEntry TypeId) → Pairs → Sorted → Type 0
  AreSorted es ps s = IfSome s.asked (IsSorting es ps s)

  abbrev pub AreSortedAt : List (F.MapEntry TypeId) → Taped → (place end : ℕ) → Sorted → Type 0
  AreSortedAt es t place end s = (ps : Pairs) → ArePairsAt t place end ps → AreSorted es ps s

  -- an alternative says this of pairs, with its own judgement
  abbrev pub IsWayTold : List (F.MapEntry TypeId) → Pairs → Tells → Type 0
  IsWayTold es ps (T.Yes w) = WaySays l es ps true w
  IsWayTold es ps (T.No w) = WaySays l es ps false w
  IsWayTold es ps T.Nothing = Unit {0}
