-- What types say of items and groups do with them (see Judges.antt of cddl_meaning), without where a no shows: at every place
-- it is the same, in so many judgements.
use Rattle.std.specs.Prelude.{◌≡◌, ℕ, suc, ◌+◌, List, [], ◌∷◌, ◌++◌, length, get_or, slice_get, ◌<◌, ◌≤◌, Some, Bool, true, false, ◌&&◌, nat_eq, nat_le}
use Rattle.cbor_data.specs.Value.{Value, Pairs}
use Rattle.cddl_meaning.specs.Forms.{Language, Node, Choice, MapOf, Group, Sequence, Alternatives, Most, MapEntry, TagNumber, any_number, exactly, such_as, pairs_in}
use Rattle.cddl_meaning.specs.Judges.{Answer, Yes, No, Reply, Takes, Fails, Fate, BelongsTo, Stray, alternative_says, count_of, is_up_to_most, Says, Maps, Sorts, Belongs, Chooses, Does, DoesEach, DoesFirst, Repeats}

-- a yes, or some no
abbrev pub IsAnswer : Answer → Bool → Type 0
IsAnswer a true = a ≡ Yes
IsAnswer a false = (far : ℕ) × (a ≡ No far)

-- the number n of a tag is meant, or not, for which no type has to be asked
abbrev pub IsMeant : {N : Type 0} → TagNumber N → ℕ → Bool → Type 0
IsMeant any_number n says = says ≡ true
IsMeant (exactly m) n says = nat_eq m n ≡ says
IsMeant (such_as o) n says = ⊥

-- a pair that belongs nowhere, or whose value is not as its entry says
abbrev pub is_fallen : List Fate → Bool
is_fallen [] = false
is_fallen (BelongsTo n Yes ∷ fs) = is_fallen fs
is_fallen (BelongsTo n (No far) ∷ fs) = true
is_fallen (Stray q ∷ fs) = true

-- There is such a pair; or there is none, and so many pairs belong to each of so many entries as stand at its number.
abbrev pub AreFates : (fallen : Bool) → (entries : ℕ) → (counts : List ℕ) → List Fate → Type 0
AreFates true entries counts fs = is_fallen fs ≡ true
AreFates false entries counts fs = (is_fallen fs ≡ false) × ((n i : ℕ) → i + suc n ≡ entries → count_of n fs ≡ get_or counts i 0)

-- Two entries ask the same of a pair, however many pairs they ask for.
pub record AskTheSame {N : Type 0} (e f : MapEntry N) : Type 0 where
  pub key : e.key_type ≡ f.key_type
  pub value : e.value_type ≡ f.value_type
  pub cuts : e.cuts ≡ f.cuts

-- The first entries, so many, ask the same.
pub record BeginSame {N : Type 0} (n : ℕ) (es fs : List (MapEntry N)) : Type 0 where
  pub some : n ≤ length es
  pub others : n ≤ length fs
  pub same : (i : ℕ) (e f : MapEntry N) → i < n → slice_get es i ≡ Some e → slice_get fs i ≡ Some f → AskTheSame e f

-- so many pairs may belong to an entry
abbrev pub is_enough : {N : Type 0} → MapEntry N → ℕ → Bool
is_enough e n = nat_le e.least n && is_up_to_most n e.most

-- Of the entries from the number `from` on, as many pairs belong to each before the number `lacks` as it asks for, and not so to the entry of this number, if there is one.
abbrev pub IsLacking : {N : Type 0} → List (MapEntry N) → (counts : List ℕ) → (from lacks : ℕ) → Type 0
IsLacking {N = N} es counts from lacks = ((i : ℕ) (e : MapEntry N) → from ≤ i → i < lacks → slice_get es i ≡ Some e → is_enough e (get_or counts i 0) ≡ true) × ((e : MapEntry N) → slice_get es lacks ≡ Some e → is_enough e (get_or counts lacks 0) ≡ false)

-- as many pairs belong to each of these entries, the first of which has this number, as it asks for
abbrev pub are_enough_from : {N : Type 0} → List (MapEntry N) → (number : ℕ) → (counts : List ℕ) → Bool
are_enough_from [] i counts = true
are_enough_from (e ∷ es) i counts = is_enough e (get_or counts i 0) && are_enough_from es (suc i) counts

module _ {N G : Type 0} (l : Language N G) where
  -- what a form says of an item
  abbrev pub FormSays : Node N G → Value → Bool → ℕ → Type 0
  FormSays f x true w = (p : ℕ) → Says l f p x Yes w
  FormSays f x false w = (p : ℕ) → (far : ℕ) × Says l f p x (No far) w

  -- a type of this form says what one of that form says, in so many judgements more
  abbrev pub SaysAs : (f g : Node N G) → ℕ → Type 0
  SaysAs f g k = (x : Value) (says : Bool) (w : ℕ) → FormSays g x says w → FormSays f x says (k + w)

  -- what is left of a choice says what the whole of it says, in so many judgements more: the members before have said no
  abbrev pub ChoiceComes : (all left : List N) → Value → ℕ → Type 0
  ChoiceComes all left x k = (p : ℕ) → (far : ℕ) × ((a : Answer) (w : ℕ) → Chooses l left p x far a w → Says l (Choice all) p x a (k + w))

  -- a group takes items, after which these are left; or it fails
  abbrev pub GroupTakes : Group N G → (xs left : List Value) → ℕ → Type 0
  GroupTakes f xs left w = (p q : ℕ) → (next : ℕ) × (far : ℕ) × Does l f p q xs (Takes left next far) w

  abbrev pub GroupFails : Group N G → List Value → ℕ → Type 0
  GroupFails f xs w = (p q : ℕ) → (far : ℕ) × Does l f p q xs (Fails far) w

  -- a group of this form does what one of that form does, in so many judgements more
  abbrev pub DoesAs : (f g : Group N G) → ℕ → Type 0
  DoesAs f g k = ((xs left : List Value) (w : ℕ) → GroupTakes g xs left w → GroupTakes f xs left (k + w)) × ((xs : List Value) (w : ℕ) → GroupFails g xs w → GroupFails f xs (k + w))

  -- The same of sequences, of choices of groups and of repetitions: what is left of one does with the items that are left what the
  -- whole of it does with all.
  abbrev pub SequenceComes : (all parts : List G) → (xs left : List Value) → ℕ → Type 0
  SequenceComes all parts xs left k = (p q : ℕ) → (next : ℕ) × (far : ℕ) × ((r : Reply) (w : ℕ) → DoesEach l parts p next left far r w → Does l (Sequence all) p q xs r (k + w))

  abbrev pub AlternativesCome : (all parts : List G) → List Value → ℕ → Type 0
  AlternativesCome all parts xs k = (p q : ℕ) → (far : ℕ) × ((r : Reply) (w : ℕ) → DoesFirst l parts p q xs far r w → Does l (Alternatives all) p q xs r (k + w))

  abbrev pub RoundsCome : Group N G → (least : ℕ) → Most → G → (xs left : List Value) → ℕ → Type 0
  RoundsCome f least most g xs left k = (p q : ℕ) → (next : ℕ) × (far : ℕ) × ((r : Reply) (w : ℕ) → Repeats l least most g p next left far r w → Does l f p q xs r (k + w))

  -- The entries before have handed a pair on to those that are left.
  abbrev pub EntriesCome : (all left : List (MapEntry N)) → (key held : Value) → ℕ → Type 0
  EntriesCome all left key held k = (q : ℕ) (f : Fate) (w : ℕ) → Belongs l left q key held f w → Belongs l all q key held f (k + w)

  -- The pair belongs to the entry with so many after it, which says yes to its value; or it does not.
  abbrev pub PairTaken : List (MapEntry N) → (key held : Value) → (after : ℕ) → ℕ → Type 0
  PairTaken es key held after w = (q : ℕ) → Belongs l es q key held (BelongsTo after Yes) w

  abbrev pub PairFails : List (MapEntry N) → (key held : Value) → ℕ → Type 0
  PairFails es key held w = (q : ℕ) → (f : Fate) × (is_fallen (f ∷ []) ≡ true) × Belongs l es q key held f w

  -- The pairs before those that are left have been sorted to these entries, with so many judgements.
  abbrev pub PairsCome : List (MapEntry N) → (all left : Pairs) → (counts : List ℕ) → (fallen : Bool) → ℕ → Type 0
  PairsCome es all left counts fallen k = (q : ℕ) → (next : ℕ) × (fs : List Fate) × AreFates fallen (length es) counts fs × ((gs : List Fate) (w : ℕ) → Sorts l es next left gs w → Sorts l es q all (fs ++ gs) (k + w))

  -- Each pair has its fate with these entries, in so many judgements.
  abbrev pub PairsSorted : List (MapEntry N) → Pairs → (counts : List ℕ) → (fallen : Bool) → ℕ → Type 0
  PairsSorted es ps counts fallen k = (q : ℕ) → (fs : List Fate) × AreFates fallen (length es) counts fs × Sorts l es q ps fs k

  -- what an alternative says of the pairs of a map, with its own judgement
  abbrev pub WaySays : List (MapEntry N) → Pairs → Bool → ℕ → Type 0
  WaySays es ps says w = (p : ℕ) → (fs : List Fate) × (v : ℕ) × Sorts l es (suc p) ps fs v × (w ≡ suc v) × IsAnswer (alternative_says es p fs) says

  -- what is left of the alternatives says what the whole map says, where those before have said yes, or not
  abbrev pub MapComes : (all ways : List (List (MapEntry N))) → Pairs → Bool → ℕ → Type 0
  MapComes all ways ps says k = (x : Value) → pairs_in x ≡ Some ps → (p : ℕ) → (sofar : Answer) × IsAnswer sofar says × ((a : Answer) (w : ℕ) → Maps l ways p ps sofar a w → Says l (MapOf all) p x a (k + w))
