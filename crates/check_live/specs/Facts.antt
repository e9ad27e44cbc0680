-- The facts of parameters, and what follows from them.
use Rattle.std.specs.Prelude.{◌≡◌, ℕ, ◌<◌, ◌⊎◌, List, [], ◌∷◌, ◌++◌, Some, None, slice_get}
use Rattle.check_terms.specs.Table.{AreDistinct}
use Rattle.check_terms.specs.declared.definition.Definition.{Definition}
use Rattle.graphs.specs.declared.implications.Implication.{Implication}
use Rattle.check_live.specs.declared.facts.Fact.{Fact}
use Rattle.check_live.specs.declared.facts.Kind.TheVariants as KindV

-- the rule at the place refers, at a live site, to the name of this number
abbrev pub use_of : ℕ → ℕ → Fact
use_of rule name = record { kind = KindV.Use; of = rule; part = name }

-- a rule of the name of this number refers, at a live site, to its parameter at the place
abbrev pub slot_of : ℕ → ℕ → Fact
slot_of name place = record { kind = KindV.Slot; of = name; part = place }

-- a fact has got its number, if it had none
abbrev pub IsAfter : List Fact → Fact → List Fact → Type 0
IsAfter old x new = (new ≡ old) ⊎ (new ≡ old ++ x ∷ [])

-- a parameter's slot follows from its use
abbrev pub of_parameter : ℕ → ℕ → Implication
of_parameter slot used = record { then = slot; first = Some used; second = None }

-- The facts of a parameter have numbers, and its implication is the last.
pub record AddsParameter (rule name place parameter : ℕ) (old new : List Fact) (before after : List Implication) : Type 0 where
  pub between : List Fact
  pub used : ℕ
  pub slot : ℕ
  pub first_added : IsAfter old (use_of rule parameter) between
  pub second_added : IsAfter between (slot_of name place) new
  pub first_distinct : AreDistinct old → AreDistinct between
  pub second_distinct : AreDistinct between → AreDistinct new
  pub used_there : slice_get between used ≡ Some (use_of rule parameter)
  pub slot_there : slice_get new slot ≡ Some (slot_of name place)
  pub implied : after ≡ before ++ of_parameter slot used ∷ []

-- the parameters of the rules before this one, and the parameters before the place of this one
abbrev pub IsPast : ℕ → ℕ → ℕ → ℕ → Type 0
IsPast rule place r k = (r < rule) ⊎ ((r ≡ rule) × (k < place))

-- this parameter's slot follows from its use
pub record IsParameter (ds : List Definition) (keys : List Fact) (rule place : ℕ) (i : Implication) : Type 0 where
  pub definition : Definition
  pub parameter : ℕ
  pub used : ℕ
  pub rule_there : slice_get ds rule ≡ Some definition
  pub parameter_there : slice_get definition.parameters.items place ≡ Some parameter
  pub used_there : slice_get keys used ≡ Some (use_of rule parameter)
  pub slot_there : slice_get keys i.then ≡ Some (slot_of definition.name place)
  pub first : i.first ≡ Some used
  pub second : i.second ≡ None

-- the implication is of a parameter
pub record OfParameter (ds : List Definition) (keys : List Fact) (i : Implication) : Type 0 where
  pub rule : ℕ
  pub place : ℕ
  pub is : IsParameter ds keys rule place i

-- a parameter's implication is there
pub record HasParameter (ds : List Definition) (keys : List Fact) (is : List Implication) (rule place : ℕ) : Type 0 where
  pub at : ℕ
  pub implication : Implication
  pub there : slice_get is at ≡ Some implication
  pub is_parameter : IsParameter ds keys rule place implication

-- a rule has this parameter
pub record IsAmong (ds : List Definition) (rule name : ℕ) : Type 0 where
  pub definition : Definition
  pub place : ℕ
  pub rule_there : slice_get ds rule ≡ Some definition
  pub there : slice_get definition.parameters.items place ≡ Some name

-- The implications are those of the parameters that are past, and facts of uses are of parameters alone.
pub record IsPrepared (ds : List Definition) (rule place : ℕ) (keys : List Fact) (is : List Implication) : Type 0 where
  pub distinct : AreDistinct keys
  pub steps : (j : ℕ) (i : Implication) → slice_get is j ≡ Some i → OfParameter ds keys i
  pub uses : (u r n : ℕ) → slice_get keys u ≡ Some (use_of r n) → IsAmong ds r n
  pub complete : (r k : ℕ) (d : Definition) (p : ℕ) → IsPast rule place r k → slice_get ds r ≡ Some d → slice_get d.parameters.items k ≡ Some p → HasParameter ds keys is r k
