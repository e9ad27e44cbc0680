-- Implications at their premises: each has two places, and those that have the same fact are linked from the last one down.
use Rattle.std.specs.Prelude.{◌≡◌, ℕ, ◌<◌, ◌≤◌, List, [], ◌∷◌, length, Option, Some, None, slice_get}
use Rattle.graphs.specs.declared.implications.Implication.{Implication}
use Rattle.graphs.specs.declared.implications.rules.Rules.{Rules}

abbrev pub or_else : Option ℕ → ℕ → ℕ
or_else None n = n
or_else (Some p) n = p

-- the premises at their places
abbrev pub premises_of : ℕ → List Implication → List ℕ
premises_of facts [] = []
premises_of facts (i ∷ is) = or_else i.first facts ∷ or_else i.second facts ∷ premises_of facts is

-- the last place of the fact below the number, if there is one
pub record IsLastPlace (premises : List ℕ) (x most e : ℕ) : Type 0 where
  pub there : slice_get premises e ≡ Some x
  pub below : e < most
  pub last : (k : ℕ) → slice_get premises k ≡ Some x → k < most → k ≤ e

abbrev pub IsLast : List ℕ → ℕ → ℕ → Option ℕ → Type 0
IsLast premises x most None = (k : ℕ) → slice_get premises k ≡ Some x → k < most → ⊥
IsLast premises x most (Some e) = IsLastPlace premises x most e

-- for each fact its last place below the number
pub record AreHeads (facts : ℕ) (premises : List ℕ) (most : ℕ) (heads : List (Option ℕ)) : Type 0 where
  pub all : length heads ≡ facts
  pub each : (x : ℕ) (o : Option ℕ) → slice_get heads x ≡ Some o → IsLast premises x most o

-- for each place the last one before it that has the same fact
pub record AreLinks (facts : ℕ) (premises : List ℕ) (links : List (Option ℕ)) : Type 0 where
  pub each : (e x : ℕ) (o : Option ℕ) → slice_get premises e ≡ Some x → x < facts → slice_get links e ≡ Some o → IsLast premises x e o

pub record IsLinked (facts : ℕ) (premises : List ℕ) (heads links : List (Option ℕ)) : Type 0 where
  pub heads_are : AreHeads facts premises (length premises) heads
  pub all : length links ≡ length premises
  pub links_are : AreLinks facts premises links

abbrev pub AreRules : Rules → Type 0
AreRules r = IsLinked r.facts (premises_of r.facts r.implications.now) r.heads.items r.links.items
