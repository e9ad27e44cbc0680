-- Parts of a text by the offsets of their tokens.
use Rattle.std.specs.Prelude.{◌≡◌, Bool, true, false, ℕ, ◌+◌, List, [], ◌∷◌, ◌++◌, length}
use Rattle.tree_nodes.specs.Syntax.Syntax as S
use Rattle.tree_nodes.specs.View.{StartsAt}
use Rattle.cddl_language.specs.Reading.{name_at, name_in, rule_head}
use Rattle.source_pieces.specs.Pieces.{bare_types}
use Rattle.source_pieces.specs.declared.span.Span.{Span}

-- the last of the tokens ends there
pub record EndsAt (ts : List S.Lexeme) (at : ℕ) : Type 0 where
  pub front : List S.Lexeme
  pub last : S.Lexeme
  pub split : ts ≡ front ++ last ∷ []
  pub ends : at ≡ (last.1).end

-- from the first byte of the first of the tokens to the last byte of the last
pub record IsSpan (ts : List S.Lexeme) (s : Span) : Type 0 where
  pub starts : StartsAt ts s.first
  pub ends : EndsAt ts s.end

-- what a rule has after its sign, a type without the parentheses round all of it
abbrev pub body_tokens : S.Rule → List S.Lexeme
body_tokens (S.type_rule n a t) = S.flat_types (bare_types t)
body_tokens (S.group_rule n a e) = S.flat_entry e

-- whether the rule has parameters

abbrev pub has_parameters : S.RuleName → Bool
has_parameters (S.plain n) = false
has_parameters (S.generic o p c) = true

abbrev pub is_generic : S.Rule → Bool
is_generic r = has_parameters (rule_head r)

-- where the rule has its name
pub record IsNameSpan (r : S.Rule) (s : Span) : Type 0 where
  pub starts : s.first ≡ name_at r
  pub ends : s.end ≡ name_at r + length (name_in r)
