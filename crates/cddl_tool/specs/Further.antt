-- What is reported for a refusal to one who wants more than its line: of the first fault, and of those besides.
use Rattle.std.specs.Prelude.{◌≡◌, ℕ, List, [], ◌∷◌, ◌++◌, Option}
use Rattle.cddl_token.specs.declared.Refusal.TheVariants.{At}
use Rattle.check_text.specs.declared.fault.Fault.{Fault}
use Rattle.check_faults.specs.Text.{AreTextFaults}
use Rattle.check_faults.specs.declared.listing.Listed.{Listed}
use Rattle.cddl_explain.specs.Further.{AreFurther}
use Rattle.cddl_explain.specs.Refusals.{IsExplainedRefusal}
use Rattle.cddl_tool.specs.declared.further.TheConstants.{MOST}

-- of the faults of each code, but for the first fault
pub data AreBesides (f : Fault) (file text : List ℕ) (root : Option (List ℕ)) : List Listed → List ℕ → Type 0 where
  no_code : AreBesides f file text root [] []
  further_code : {ls : List Listed} {told : List ℕ} → AreBesides f file text root ls told → (l : Listed) (part : List ℕ) → AreFurther l.code (At f.code f.at) l.offsets.items l.further file text root part → AreBesides f file text root (ls ++ l ∷ []) (told ++ part)

pub record IsReason (f : Fault) (file text : List ℕ) (root : Option (List ℕ)) (told : List ℕ) : Type 0 where
  pub first : List ℕ
  pub is_first : IsExplainedRefusal f.code f.at file text root first
  pub faults : List Listed
  pub are_faults : AreTextFaults text root MOST faults
  pub besides : List ℕ
  pub are_besides : AreBesides f file text root faults besides
  pub is : told ≡ first ++ besides
