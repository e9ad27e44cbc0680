-- The faults of a specification, code by code.
use Rattle.std.specs.Prelude.{◌≡◌, ℕ, ◌-◌, List, [], ◌∷◌, ◌++◌, length, take, Option}
use Rattle.cddl_token.specs.declared.Code.{Code}
use Rattle.tree_nodes.specs.Syntax.Syntax.{Cddl}
use Rattle.all_offsets.specs.Offsets.{AreOffsets}
use Rattle.cddl_language.specs.Faults.{IsFaultAt, Specification}
use Rattle.cddl_language.specs.Literals.{AreRight, Values}
use Rattle.cddl_language.specs.Terms.{Text}
use Rattle.check_text.specs.Codes.{reached_codes, text_codes}
use Rattle.cddl_check.specs.Outcome.{specification}
use Rattle.cddl_check.specs.RootFaults.{IsLater, IsUnreached}
use Rattle.check_faults.specs.declared.listing.Listed.{Listed}

-- Of all offsets at which something stands, the first, at most so many, and how many there are besides.
pub record AreFirst (P : ℕ → Type 0) (most : ℕ) (l : Listed) : Type 0 where
  pub all : List ℕ
  pub are_all : AreOffsets P all
  pub first : l.offsets.items ≡ take most all
  pub further : l.further ≡ length all - most

-- of each of the codes, in their order
pub data AreListed (P : Code → ℕ → Type 0) (most : ℕ) : List Code → List Listed → Type 0 where
  no_code : AreListed P most [] []
  further_code : {cs : List Code} {ls : List Listed} → AreListed P most cs ls → (c : Code) (l : Listed) → l.code ≡ c → AreFirst (P c) most l → AreListed P most (cs ++ c ∷ []) (ls ++ l ∷ [])

-- The faults of what the root reaches; and none, where a fault of C1 to C10 stands, since then it is not known what it reaches.
pub data AreOfRoot (s : Specification) (worth : Values) (most : ℕ) (ls : List Listed) : Type 0 where
  unreached : IsUnreached s worth → ls ≡ [] → AreOfRoot s worth most ls
  reached : IsLater s worth → AreListed (IsFaultAt s worth) most reached_codes ls → AreOfRoot s worth most ls

-- The faults of the specification with this tree and this name as its root: those of the whole text, and then those of what the
-- root reaches.
pub record AreOfSpecification (x : Cddl) (root : Option Text) (most : ℕ) (ls : List Listed) : Type 0 where
  pub whole : List Listed
  pub rest : List Listed
  pub is : ls ≡ whole ++ rest
  pub of_text : (worth : Values) → AreListed (IsFaultAt (specification x root) worth) most text_codes whole
  pub of_root : (worth : Values) → AreRight x worth → AreOfRoot (specification x root) worth most rest
