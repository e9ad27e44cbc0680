-- What is reported for a text.
use Rattle.std.specs.Prelude.{ℕ, List, map, All, Option}
use Rattle.cddl_token.specs.declared.Refusal.{Refusal}
use Rattle.cddl_token.specs.declared.Refusal.TheVariants as RefusalV
use Rattle.cddl_token.specs.declared.Token.{Token}
use Rattle.cddl_token.specs.Answers.{IsReadFrom, IsTokenized, IsRefused as IsRefusedText, span}
use Rattle.tree_nodes.specs.Syntax.Syntax.{Cddl}
use Rattle.tree_nodes.specs.Syntax.Answers.{IsTreeOf, IsRefused as IsRefusedTokens}
use Rattle.cddl_language.specs.Terms.{Text}
use Rattle.cddl_language.specs.Faults.{IsRefused}
use Rattle.cddl_language.specs.Literals.{AreRight, Values}
use Rattle.check_text.specs.declared.fault.Fault.{Fault}
use Rattle.cddl_check.specs.Outcome.{specification}

-- These are the tokens of the text, each with its part of it.
pub record AreTokensOf (ts : List Token) (text : List ℕ) : Type 0 where
  pub tokenized : IsTokenized text (map span ts)
  pub read : All (IsReadFrom text) ts

-- a tree of the text's tokens
pub record IsTreeOfText (x : Cddl) (text : List ℕ) : Type 0 where
  pub tokens : List Token
  pub are_tokens : AreTokensOf tokens text
  pub is_tree : IsTreeOf x tokens

-- Why the text is refused: it has no tokens, or they have no tree, or the specification is refused.
pub data IsWrongText (text : List ℕ) (n : Option Text) (f : Fault) : Type 0 where
  no_tokens : IsRefusedText text f.code f.at → IsWrongText text n f
  no_tree : {ts : List Token} → AreTokensOf ts text → IsRefusedTokens ts f.code f.at → IsWrongText text n f
  has_fault : {x : Cddl} → IsTreeOfText x text → ((worth : Values) → AreRight x worth → IsRefused (specification x n) worth f.code f.at) → IsWrongText text n f

-- where memory is refused nothing is reported
abbrev pub IsUnreadText : List ℕ → Option Text → Refusal → Type 0
IsUnreadText text n (RefusalV.At code at) = IsWrongText text n (record { code = code; at = at })
IsUnreadText text n RefusalV.Memory = Unit {0}
