-- The search for what follows: its states, its steps, and what holds on the way.
use Rattle.std.specs.Prelude.{◌≡◌, ◌⊎◌, ℕ, ◌+◌, ◌/◌, ◌<◌, ◌≤◌, List, [], ◌∷◌, ◌++◌, length, set, Bool, true, false, cond, Option, Some, None, slice_get, slice_index_or}
use Rattle.graphs.specs.declared.implications.Implication.{Implication}
use Rattle.graphs.specs.declared.implications.search.Search.{Search}
use Rattle.graphs.specs.Implications.Implications.{Follows}

pub record State : Type 0 where
  pub flags : List Bool
  pub waiting : List ℕ

abbrev pub state : Search → State
state s = record { flags = s.flags.items; waiting = s.waiting.items }

-- whether there is no premise, or it is flagged
abbrev pub met : List Bool → Option ℕ → Bool
met flags None = true
met flags (Some p) = slice_index_or flags p false

abbrev pub all_met : Bool → Bool → Bool → Bool
all_met a b c = cond a (cond b (cond c false true) false) false

-- whether the premises are flagged, and the conclusion is a fact that is not
abbrev pub ready : List Bool → Implication → Bool
ready flags i = all_met (met flags i.first) (met flags i.second) (slice_index_or flags i.then true)

-- the fact is found
abbrev pub found : ℕ → State → State
found x s = record { flags = set s.flags x true; waiting = s.waiting ++ x ∷ [] }

-- the implication is looked at
abbrev pub looked : Implication → State → State
looked i s = cond (ready s.flags i) (found i.then s) s

abbrev pub In : List ℕ → ℕ → Type 0
In [] b = ⊥
In (x ∷ xs) b = (x ≡ b) ⊎ In xs b

-- a premise of the implication waits
pub data Waits (i : Implication) (waiting : List ℕ) : Type 0 where
  at_first : (p : ℕ) → i.first ≡ Some p → In waiting p → Waits i waiting
  at_second : (p : ℕ) → i.second ≡ Some p → In waiting p → Waits i waiting

-- Each flagged fact follows. An implication that is ready has a premise that waits, or it is among those at hand.
pub record IsKept (facts : ℕ) (is : List Implication) (AtHand : ℕ → Type 0) (s : State) : Type 0 where
  pub all : length s.flags ≡ facts
  pub sound : (x : ℕ) → slice_get s.flags x ≡ Some true → Follows facts is x
  pub within : (x : ℕ) → In s.waiting x → x < facts
  pub left : (k : ℕ) (i : Implication) → slice_get is k ≡ Some i → ready s.flags i ≡ true → Waits i s.waiting ⊎ AtHand k

-- no implication is at hand
abbrev pub Nowhere : ℕ → Type 0
Nowhere k = ⊥

-- the implication of this number has the fact as a premise
pub record HasPremise (premises : List ℕ) (x k : ℕ) : Type 0 where
  pub place : ℕ
  pub there : slice_get premises place ≡ Some x
  pub of_it : place / 2 ≡ k

-- it has it at the next place or before
pub data IsAhead (premises : List ℕ) (x : ℕ) : Option ℕ → ℕ → Type 0 where
  ahead : (place last k : ℕ) → slice_get premises place ≡ Some x → place / 2 ≡ k → place ≤ last → IsAhead premises x (Some last) k

abbrev pub unset : List Bool → ℕ
unset [] = 0
unset (true ∷ flags) = unset flags
unset (false ∷ flags) = 1 + unset flags

-- how many facts may still be visited
abbrev pub gap : State → ℕ
gap s = unset s.flags + length s.waiting

-- how many places are left at most
abbrev pub places_left : Option ℕ → ℕ
places_left None = 0
places_left (Some e) = e + 1

-- the search when no fact waits
pub record IsEnded (facts : ℕ) (is : List Implication) (s : State) : Type 0 where
  pub kept : IsKept facts is Nowhere s
  pub ended : s.waiting ≡ []
