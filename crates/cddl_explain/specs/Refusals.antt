-- What is reported for a refusal to one who wants more than its line.
use Rattle.std.specs.Prelude.{◌≡◌, ℕ, nat_lt, List, ◌++◌, codes, decimal, slice_range, take, Option, Some, None, if◌then◌else◌}
use Rattle.cddl_token.specs.Messages.{refusal_text}
use Rattle.cddl_token.specs.declared.Code.{Code}
use Rattle.cddl_token.specs.declared.Code.TheVariants.{NoRoot}
use Rattle.cddl_token.specs.declared.Refusal.TheVariants.{At}
use Rattle.cddl_token.specs.declared.Token.{Token}
use Rattle.text_position.specs.Positions.{IsAt}
use Rattle.text_shown.specs.Places.{shown_part, IsPointedAt}
use Rattle.text_shown.specs.Shown.{shown}
use Rattle.cddl_explain.specs.Hints.{IsHint}
use Rattle.cddl_explain.specs.Names.{name_of}
use Rattle.cddl_explain.specs.Parts.{AreTokens, IsPart}
use Rattle.cddl_explain.specs.Predicates.{predicate_at}
use Rattle.cddl_explain.specs.Sentences.{sentence_of}
use Rattle.cddl_explain.specs.declared.parts.Part.{Part}
use Rattle.cddl_explain.specs.declared.refusals.TheConstants as constant

-- what is wrong where no part of the text is: as the code says it, or with the root that was asked for
abbrev pub of_nothing : Code → Option (List ℕ) → List ℕ
of_nothing NoRoot (Some name) = codes "`" ++ (shown name ++ codes "`, which --root asks for, is no rule and none of the prelude")
of_nothing NoRoot None = constant.NO_RULE.now
of_nothing code root = sentence_of code

-- what is wrong: with the token or the end of the text; or as the code alone says it, where there is neither
abbrev pub said : Code → List ℕ → List Token → Option (List ℕ) → Part → List ℕ
said code text ts root p =
    if p.ends then codes "the end of the text " ++ predicate_at code p.from ts
    else if nat_lt p.from p.to then codes "`" ++ (shown_part (slice_range text p.from p.to) ++ (codes "` " ++ predicate_at code p.from ts))
    else of_nothing code root

-- what is wrong, and then what was perhaps meant
pub record IsWrong (code : Code) (text : List ℕ) (part : Part) (ts : List Token) (root : Option (List ℕ)) (told : List ℕ) : Type 0 where
  pub hint : List ℕ
  pub is_hint : IsHint code text part ts root hint
  pub is : told ≡ said code text ts root part ++ hint

-- what is reported for a fault in a text with these tokens: the file, the line and the column, and the name of the code; the line of
-- the text and the marks under the part that is meant; what is wrong with it; and what was perhaps meant
pub record IsExplainedPlace (code : Code) (offset : ℕ) (file text : List ℕ) (ts : List Token) (root : Option (List ℕ)) (told : List ℕ) : Type 0 where
  pub part : Part
  pub line : ℕ
  pub column : ℕ
  pub pointed : List ℕ
  pub wrong : List ℕ
  pub is_part : IsPart code text offset ts part
  pub is_at : IsAt (take part.from text) line column
  pub points : IsPointedAt text part.from part.to pointed
  pub is_wrong : IsWrong code text part ts root wrong
  pub is : told ≡ shown file ++ (codes ":" ++ (decimal line ++ (codes ":" ++ (decimal column ++ (codes ": " ++ (name_of code ++ (codes "\n" ++ (pointed ++ (wrong ++ codes "\n")))))))))

-- what is reported for a refusal: its line, and then this
pub record IsExplainedRefusal (code : Code) (offset : ℕ) (file text : List ℕ) (root : Option (List ℕ)) (told : List ℕ) : Type 0 where
  pub ts : List Token
  pub are_tokens : AreTokens text ts
  pub place : List ℕ
  pub is_place : IsExplainedPlace code offset file text ts root place
  pub is : told ≡ refusal_text (At code offset) ++ (codes "\n" ++ place)
