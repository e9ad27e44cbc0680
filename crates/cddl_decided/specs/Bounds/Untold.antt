-- Specifications of which some faults are not reported.
use Rattle.std.specs.Prelude.{◌≡◌, ℕ, true, List, Contains}
use Rattle.cddl_language.specs.Faults.{HasGroupAsType, HasTooManyInstances, Specification}
use Rattle.cddl_language.specs.Kinds.{is_group}
use Rattle.cddl_language.specs.Reach.{Point, at_choice}
use Rattle.cddl_language.specs.Terms.{Definition, Ref, Text, name_of}

-- no more instances than may be, from this root
abbrev pub HasFewInstances : Specification → Text → Type 0
HasFewInstances s root = HasTooManyInstances s root 0 → ⊥

-- no group in the place of a type, and no type after `&`
abbrev pub NamesNoGroupAsType : Specification → Type 0
NamesNoGroupAsType s = (at : ℕ) → HasGroupAsType s at → ⊥

-- among these points each `&name` names a group
abbrev pub ChooseGroups : List Definition → List Point → Type 0
ChooseGroups ds ps = (r : Ref) → Contains ps (at_choice r) → is_group ds (name_of r) ≡ true
