-- Where the rule of a name is.
use Rattle.std.specs.Prelude.{◌≡◌, ℕ, ◌&&◌, nat_eq, List, [], ◌∷◌, ◌++◌, codes, decimal, take, if◌then◌else◌}
use Rattle.std.specs.Cmp.Lexicographic.{pointwise}
use Rattle.cddl_token.specs.declared.Token.{Token}
use Rattle.text_position.specs.Positions.{IsAt}
use Rattle.cddl_explain.specs.Rules.{begins_rule, name_of_token}

-- the tokens from the first rule of a name on, and none where it has no rule
abbrev pub first_rule : List ℕ → List Token → List Token
first_rule name [] = []
first_rule name (t ∷ ts) = if begins_rule (t ∷ ts) && pointwise nat_eq (name_of_token t.text.now) name then t ∷ ts else first_rule name ts

abbrev pub place_words : ℕ → ℕ → List ℕ
place_words line column = codes "; the first rule of this name is in line " ++ (decimal line ++ (codes ", column " ++ decimal column))

-- the words that tell where a rule is, and none where it is here
pub data IsToldAt (text : List ℕ) (here start : ℕ) (told : List ℕ) : Type 0 where
  same : start ≡ here → told ≡ [] → IsToldAt text here start told
  elsewhere : (start ≡ here → ⊥) → (line column : ℕ) → IsAt (take start text) line column →
      told ≡ place_words line column → IsToldAt text here start told

abbrev pub IsToldOf : List ℕ → ℕ → List Token → List ℕ → Type 0
IsToldOf text here [] told = told ≡ []
IsToldOf text here (t ∷ ts) told = IsToldAt text here t.start told

-- where the first rule of the name is
abbrev pub IsOrigin : List ℕ → ℕ → List Token → List ℕ → List ℕ → Type 0
IsOrigin text here ts name told = IsToldOf text here (first_rule name ts) told
