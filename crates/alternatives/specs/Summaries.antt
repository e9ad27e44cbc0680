-- What summaries say of alternatives.
use Rattle.std.specs.Prelude.{◌≡◌, ◌⊎◌, ◌<◌, ◌+◌, ℕ, min, List, ◌∷◌, length, Option, Some, None, slice_get}
use Rattle.alternatives.specs.declared.Part.{Part}
use Rattle.alternatives.specs.declared.Part.TheVariants.{Occurs}
use Rattle.alternatives.specs.declared.Bounds.{Bounds}
use Rattle.alternatives.specs.declared.Member.{Member}
use Rattle.alternatives.specs.declared.summary.Summary.{Summary}
use Rattle.alternatives.specs.declared.summary.TheConstants.{MOST_ALTERNATIVES, MOST_MEMBERS}
use Rattle.alternatives.specs.Splices.{Alternatives, members, occurring, HasAlternatives, LeadsTo}
use Rattle.alternatives.specs.Sorts.{any_closed, sorts_of}

-- exact up to the limit of members
abbrev pub capped : ℕ → ℕ
capped n = min n (MOST_MEMBERS + 1)

pub record Describes (mss : Alternatives) (s : Summary) : Type 0 where
  pub alternatives : s.alternatives ≡ capped (length mss)
  pub closed : s.closed ≡ any_closed (members mss)
  pub sorts : s.sorts ≡ sorts_of mss
  pub members : s.members ≡ capped (length (members mss))

-- the part stands for alternatives that the summary describes
pub record HasSummary (parts : List Part) (n : ℕ) (s : Summary) : Type 0 where
  pub alternatives : Alternatives
  pub stands_for : HasAlternatives parts n alternatives
  pub described : Describes alternatives s

-- None where the part stands for nothing
abbrev pub IsSummary : List Part → ℕ → Option Summary → Type 0
IsSummary parts n None = (mss : Alternatives) → HasAlternatives parts n mss → ⊥
IsSummary parts n (Some s) = HasSummary parts n s

pub record AreSummaries (parts : List Part) (summaries : List (Option Summary)) : Type 0 where
  pub all : length summaries ≡ length parts
  pub each : (n : ℕ) (o : Option Summary) → slice_get summaries n ≡ Some o → IsSummary parts n o

-- more alternatives than there may be, or more members in them together
abbrev pub AreTooMany : Alternatives → Type 0
AreTooMany mss = (MOST_ALTERNATIVES < length mss) ⊎ (MOST_MEMBERS < length (members mss))

-- Of what the part needs: itself, and where it has alternatives, what the parts that it has need.
pub data Needs (parts : List Part) : ℕ → ℕ → Type 0 where
  itself : {n : ℕ} → Needs parts n n
  inside : {n c x : ℕ} {ms : List Member} {mss : Alternatives} → HasAlternatives parts n (ms ∷ mss) → LeadsTo parts n c → Needs parts c x → Needs parts n x

-- the part stands for something, and nothing that it needs has too many alternatives or members
pub record IsSmall (parts : List Part) (n : ℕ) : Type 0 where
  pub alternatives : Alternatives
  pub stands_for : HasAlternatives parts n alternatives
  pub small : (x : ℕ) (mss : Alternatives) → Needs parts n x → HasAlternatives parts x mss → AreTooMany mss → ⊥

-- The part is a group with an occurrence that no group may have, or that its alternatives may not have.
pub data OccursBadly (parts : List Part) (n : ℕ) : Type 0 where
  never : (b : Bounds) (a : ℕ) → slice_get parts n ≡ Some (Occurs b a) → ((mss : Alternatives) → occurring b.least b.most mss ≡ None) → OccursBadly parts n
  not_so : (b : Bounds) (a : ℕ) (mss : Alternatives) → slice_get parts n ≡ Some (Occurs b a) → HasAlternatives parts a mss → occurring b.least b.most mss ≡ None → OccursBadly parts n
