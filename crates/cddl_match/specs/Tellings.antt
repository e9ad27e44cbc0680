-- What pairs come to by the first entries of an alternative: so they do in each alternative that begins with these.
use Rattle.std.specs.Prelude.{◌≡◌, ℕ, ◌-◌, ◌<◌, ◌≤◌, ◌++◌, max, length, take, List, ◌∷◌, Option, Some, None, IfSome, Result, Ok, Err}
use Rattle.cbor_data.specs.Value.{Pairs, no_pairs, place_count}
use Rattle.item_nodes.specs.View.{view}
use Rattle.item_nodes.specs.declared.item.Item.{Item}
use Rattle.cddl_meaning.specs.Forms as F
use Rattle.cddl_meaning.specs.Forms.{Language}
use Rattle.cddl_meaning.specs.Judges as J
use Rattle.cddl_meaning.specs.Moves as M
use Rattle.cddl_meaning.specs.Moves.{LeadsTo, enough_of}
use Rattle.table_nodes.specs.Fronts as Fronts
use Rattle.table_nodes.specs.Nodes.{entries_view}
use Rattle.table_nodes.specs.declared.nodes.GroupId.{GroupId}
use Rattle.table_nodes.specs.declared.nodes.MapEntry.{MapEntry}
use Rattle.table_nodes.specs.declared.nodes.TypeId.{TypeId}
use Rattle.match_moves.specs.Tallies.{widened}
use Rattle.cddl_match.specs.Ahead.{ComesTo}
use Rattle.match_moves.specs.Views.{tally_view}
use Rattle.match_moves.specs.declared.questions.Fate.{Fate}
use Rattle.match_moves.specs.declared.questions.Fate.TheVariants as T
use Rattle.cddl_match.specs.Within.{Outcome, Replied, Stopped}
use Rattle.cddl_match.specs.declared.calls.Stop.{Stop}
use Rattle.cddl_match.specs.declared.calls.Stop.TheVariants.{Spent, NoMemory}
use Rattle.cddl_match.specs.declared.tallied.Tallied.{Tallied}

-- A pair of a map, its key at a place, that is sorted to the entries of an alternative.
abbrev pub sorting_of : {N : Type 0} → List (F.MapEntry N) → (base place : ℕ) → Item × Item → Pairs → M.Tally → M.Sorting N
sorting_of es base place pair rest tally = record {
  entries = es;
  base = base;
  key_place = place;
  key = view pair.0;
  value_place = M.plus place (place_count (view pair.0));
  held = view pair.1;
  next_place = M.plus (M.plus place (place_count (view pair.0))) (place_count (view pair.1));
  rest = rest;
  tally = tally;
}

-- the same entries at first, so many
abbrev pub BeginAlike : ℕ → (some others : List MapEntry) → Type 0
BeginAlike n some others = Fronts.BeginAlike n (entries_view some) (entries_view others)

-- how many of the first entries tell what becomes of each pair, with one pair more
abbrev pub told_with : Option ℕ → Fate → ℕ → Option ℕ
told_with (Some told) (T.Matches after) entries = Some (max told (entries - after))
told_with (Some told) (T.Fails after far) entries = Some (max told (entries - after))
told_with (Some told) (T.Stray place) entries = None
told_with None fate entries = None

module _ {N G : Type 0} (l : Language N G) where
  -- What an entry's key type says of a pair's key, before the entries after it, within so many steps, of which so many are left
  -- then. One that is passed over says no. Spent steps do not tell.
  abbrev pub KeySays : (place : ℕ) → Item × Item → F.MapEntry N → (steps left : ℕ) → Outcome → Type 0
  KeySays place pair e steps left (Replied r) = ((es all : List (F.MapEntry N)) (base : ℕ) (rest : Pairs) (tally : M.Tally) → ComesTo l (M.next_entry (e ∷ es) (sorting_of all base place pair rest tally)) (M.next_move (M.InKey e es (sorting_of all base place pair rest tally)) r) (steps - left)) × (left ≤ steps)
  KeySays place pair e steps left (Stopped Spent) = (es all : List (F.MapEntry N)) (base : ℕ) (rest : Pairs) (tally : M.Tally) (r : J.Reply) (w : ℕ) → LeadsTo l (M.next_entry (e ∷ es) (sorting_of all base place pair rest tally)) r w → steps < w
  KeySays place pair e steps left (Stopped NoMemory) = Unit {0}

  -- An entry hands a pair on to those after it, whatever these are, in so many questions; or the pair belongs to it.
  abbrev pub PassesOn : (place : ℕ) → Item × Item → F.MapEntry N → ℕ → Type 0
  PassesOn place pair e k = (es all : List (F.MapEntry N)) (base : ℕ) (rest : Pairs) (tally : M.Tally) → ComesTo l (M.next_entry (e ∷ es) (sorting_of all base place pair rest tally)) (M.next_entry es (sorting_of all base place pair rest tally)) k

  abbrev pub Keeps : (place : ℕ) → Item × Item → F.MapEntry N → J.Answer → ℕ → Type 0
  Keeps place pair e answer k = (es all : List (F.MapEntry N)) (base : ℕ) (rest : Pairs) (tally : M.Tally) → ComesTo l (M.next_entry (e ∷ es) (sorting_of all base place pair rest tally)) (M.sorted (sorting_of all base place pair rest tally) (J.BelongsTo (length es) answer)) k

  -- This becomes of a pair at an entry that has so many after it, within so many steps, of which so many are left then: it is
  -- handed on, or it belongs to the entry. Spent steps do not tell.
  abbrev pub Meets : (place : ℕ) → Item × Item → F.MapEntry N → (after steps left : ℕ) → Result (Option Fate) Stop → Type 0
  Meets place pair e after steps left (Ok None) = PassesOn place pair e (steps - left) × (left ≤ steps)
  Meets place pair e after steps left (Ok (Some (T.Matches n))) = (n ≡ after) × (Keeps place pair e J.Yes (steps - left) × (left ≤ steps))
  Meets place pair e after steps left (Ok (Some (T.Fails n far))) = (n ≡ after) × (Keeps place pair e (J.No far) (steps - left) × (left ≤ steps))
  Meets place pair e after steps left (Ok (Some (T.Stray q))) = ⊥
  Meets place pair e after steps left (Err Spent) = (es all : List (F.MapEntry N)) (base : ℕ) (rest : Pairs) (tally : M.Tally) (r : J.Reply) (w : ℕ) → LeadsTo l (M.next_entry (e ∷ es) (sorting_of all base place pair rest tally)) r w → steps < w
  Meets place pair e after steps left (Err NoMemory) = Unit {0}

  -- The first entries have handed a pair on to those that are left, and so they do to any others, in so many questions.
  pub record HandsOn (place : ℕ) (pair : Item × Item) (es left : List (F.MapEntry N)) (k : ℕ) : Type 0 where
    pub first : List (F.MapEntry N)
    pub parts : es ≡ first ++ left
    pub comes : (xs all : List (F.MapEntry N)) (base : ℕ) (rest : Pairs) (tally : M.Tally) → ComesTo l (M.next_entry (first ++ xs) (sorting_of all base place pair rest tally)) (M.next_entry xs (sorting_of all base place pair rest tally)) k

  -- A pair belongs to the last of the first entries, with so many after it, whatever entries these are.
  pub record BelongsBy (place : ℕ) (pair : Item × Item) (es : List (F.MapEntry N)) (after : ℕ) (answer : J.Answer) (k : ℕ) : Type 0 where
    pub first : List (F.MapEntry N)
    pub others : List (F.MapEntry N)
    pub parts : es ≡ first ++ others
    pub some : 0 < length first
    pub many : length others ≡ after
    pub comes : (xs all : List (F.MapEntry N)) (base : ℕ) (rest : Pairs) (tally : M.Tally) → ComesTo l (M.next_entry (first ++ xs) (sorting_of all base place pair rest tally)) (M.sorted (sorting_of all base place pair rest tally) (J.BelongsTo (length xs) answer)) k

  -- This becomes of a pair that is tried with these entries, in so many questions.
  abbrev pub Becomes : (place : ℕ) → Item × Item → List (F.MapEntry N) → Fate → ℕ → Type 0
  Becomes place pair es (T.Matches after) k = BelongsBy place pair es after J.Yes k
  Becomes place pair es (T.Fails after far) k = BelongsBy place pair es after (J.No far) k
  Becomes place pair es (T.Stray q) k = (all : List (F.MapEntry N)) (base : ℕ) (rest : Pairs) (tally : M.Tally) → ComesTo l (M.next_entry es (sorting_of all base place pair rest tally)) (M.sorted (sorting_of all base place pair rest tally) (J.Stray q)) k

  -- So it does within so many steps, of which so many are left then. Spent steps do not tell.
  abbrev pub Sorts : (place : ℕ) → Item × Item → List (F.MapEntry N) → (steps left : ℕ) → Result Fate Stop → Type 0
  Sorts place pair es steps left (Ok fate) = Becomes place pair es fate (steps - left) × (left ≤ steps)
  Sorts place pair es steps left (Err Spent) = (all : List (F.MapEntry N)) (base : ℕ) (rest : Pairs) (tally : M.Tally) (r : J.Reply) (w : ℕ) → LeadsTo l (M.next_entry es (sorting_of all base place pair rest tally)) r w → steps < w
  Sorts place pair es steps left (Err NoMemory) = Unit {0}

  -- Pairs of the map at a base belong to the first entries, so many, of an alternative, in so many questions; and what they
  -- come to is the same in each alternative that begins with these.
  pub record AreTold (es : List (F.MapEntry N)) (base : ℕ) (ps : Pairs) (next : ℕ) (left : Pairs) (tally : M.Tally) (told asked : ℕ) : Type 0 where
    pub first : List (F.MapEntry N)
    pub others : List (F.MapEntry N)
    pub counts : List ℕ
    pub parts : es ≡ first ++ others
    pub many : length first ≡ told
    pub each : length counts ≡ told
    pub counted : tally.counts ≡ counts ++ M.no_counts others
    pub comes : (xs : List (F.MapEntry N)) → ComesTo l (M.next_pair (first ++ xs) base (M.plus base 1) ps (M.fresh (first ++ xs))) (M.next_pair (first ++ xs) base next left (widened counts xs tally)) asked

-- What is kept of the alternative that was asked last is so.
abbrev pub IsTallied : Language TypeId GroupId → (base : ℕ) → Pairs → Tallied → Type 0
IsTallied l base ps t = IfSome t.told (λ told. AreTold l (entries_view t.entries.now) base ps t.next no_pairs (tally_view t.tally) told t.asked × (t.enough ≡ enough_of (entries_view (take told t.entries.now)) (take told (tally_view t.tally).counts)))

-- The pairs of the map at a base come to this with these entries, within so many steps, of which so many are left then.
abbrev pub Tallies : Language TypeId GroupId → List (F.MapEntry TypeId) → (base : ℕ) → Pairs → (steps left : ℕ) → Tallied → Result Unit Stop → Type 0
Tallies l es base ps steps left t (Ok _) = (entries_view t.entries.now ≡ es) × ComesTo l (M.next_pair es base (M.plus base 1) ps (M.fresh es)) (M.next_pair es base t.next no_pairs (tally_view t.tally)) (steps - left) × (left ≤ steps)
Tallies l es base ps steps left t (Err Spent) = (r : J.Reply) (w : ℕ) → LeadsTo l (M.next_pair es base (M.plus base 1) ps (M.fresh es)) r w → steps < w
Tallies l es base ps steps left t (Err NoMemory) = Unit {0}
