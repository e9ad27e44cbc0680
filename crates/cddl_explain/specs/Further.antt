-- What is reported for the faults of one code besides the one that was reported already.
use Rattle.std.specs.Prelude.{◌≡◌, ◌≢◌, ℕ, ◌==◌, List, [], ◌∷◌, ◌++◌, codes, decimal, Option, if◌then◌else◌}
use Rattle.cddl_token.specs.Messages.{code_text}
use Rattle.cddl_token.specs.declared.Code.{Code}
use Rattle.cddl_token.specs.declared.Refusal.{Refusal}
use Rattle.cddl_token.specs.declared.Refusal.TheVariants.{At}
use Rattle.cddl_token.specs.declared.Token.{Token}
use Rattle.cddl_explain.specs.Parts.{AreTokens}
use Rattle.cddl_explain.specs.Refusals.{IsExplainedPlace}

-- of each of these offsets, in their order, but for the one that was reported already, where it is and what is wrong there
pub data AreExplained (code : Code) (already : Refusal) (file text : List ℕ) (ts : List Token) (root : Option (List ℕ)) : (offsets told : List ℕ) → Type 0 where
  no_offset : AreExplained code already file text ts root [] []
  told_already : {offsets told : List ℕ} → AreExplained code already file text ts root offsets told → (at : ℕ) → already ≡ At code at → AreExplained code already file text ts root (offsets ++ at ∷ []) told
  told_now : {offsets told : List ℕ} → AreExplained code already file text ts root offsets told → (at : ℕ) (place : List ℕ) → already ≢ At code at → IsExplainedPlace code at file text ts root place →
      AreExplained code already file text ts root (offsets ++ at ∷ []) (told ++ place)

-- how many more there are, if any
abbrev pub more_line : Code → ℕ → List ℕ
more_line code n = if n == 0 then [] else code_text code ++ (codes ": " ++ (decimal n ++ codes " more\n"))

pub record AreFurther (code : Code) (already : Refusal) (offsets : List ℕ) (more : ℕ) (file text : List ℕ) (root : Option (List ℕ)) (told : List ℕ) : Type 0 where
  pub ts : List Token
  pub are_tokens : AreTokens text ts
  pub places : List ℕ
  pub are_explained : AreExplained code already file text ts root offsets places
  pub is : told ≡ places ++ more_line code more
