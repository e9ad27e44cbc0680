-- What two readings of one source share.
use Rattle.std.specs.Prelude.{◌≡◌, ℕ, List, map, All, Option}
use Rattle.cddl_token.specs.Answers.{IsReadFrom, IsTokenized, span}
use Rattle.cddl_token.specs.declared.Code.{Code}
use Rattle.cddl_token.specs.declared.Token.{Token}
use Rattle.tree_nodes.specs.Syntax.Syntax.{Cddl}
use Rattle.cddl_language.specs.Faults.{IsAccepted, IsRefused, Specification, definitions, root_of}
use Rattle.cddl_language.specs.Literals.{AreRight, Values}
use Rattle.cddl_language.specs.Terms.{Text}

-- These are the tokens of s, each with its part of it.
abbrev pub AreRead : List ℕ → List Token → Type 0
AreRead s ts = IsTokenized s (map span ts) × All (IsReadFrom s) ts

-- the specification of this tree, with this name given as its root or none
abbrev pub rooted : Cddl → Option Text → Specification
rooted x n = record { tree = x; given = n }

-- What is reported for the tree x is reported for y too, with the same name as the root, and by the same table of values.
pub record TellTheSame (x y : Cddl) : Type 0 where
  pub right : (worth : Values) → AreRight x worth → AreRight y worth
  pub accepted : (n : Option Text) (worth : Values) → IsAccepted (rooted x n) worth → IsAccepted (rooted y n) worth
  pub refused : (n : Option Text) (worth : Values) (c : Code) (p : ℕ) → IsRefused (rooted x n) worth c p → IsRefused (rooted y n) worth c p
  pub root : (n : Option Text) → root_of (rooted y n) ≡ root_of (rooted x n)
  pub same_definitions : (n : Option Text) → definitions (rooted y n) ≡ definitions (rooted x n)
