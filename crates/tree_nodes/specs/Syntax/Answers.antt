-- Which tokens are a specification, and where those of no specification go wrong.
use Rattle.std.specs.Prelude.{◌≡◌, ℕ, suc, max, ◌≤◌, ◌<◌, List, [], ◌∷◌, ◌++◌}
use Rattle.cddl_token.specs.declared.Token.{Token}
use Rattle.cddl_token.specs.declared.Kind.{Kind}
use Rattle.cddl_token.specs.declared.Kind.TheVariants.{NameOpen, TagOpen, TagHeadOpen, SimpleHeadOpen, ParenOpen, ParenClose, BracketOpen, BracketClose, BraceOpen, BraceClose, AngleClose}
use Rattle.cddl_token.specs.declared.Code.{Code}
use Rattle.cddl_token.specs.declared.Code.TheVariants.{Unexpected, TooNested}
use Rattle.tree_nodes.specs.Syntax.Syntax.{Lexeme, Cddl, Normal, flat, nesting}

abbrev pub lexeme : Token → Lexeme
lexeme t = (t.kind, t)

abbrev pub lexemes : List Token → List Lexeme
lexemes [] = []
lexemes (t ∷ ts) = lexeme t ∷ lexemes ts

-- The tokens are those of the tree, which is in normal form.
pub record Prints (x : Cddl) (ts : List Lexeme) : Type 0 where
  pub normal : Normal x
  pub tokens : flat x ≡ ts

-- The tokens begin those of some tree, however deep it nests.
abbrev pub Begins : List Lexeme → Type 0
Begins ts = (x : Cddl) × (us : List Lexeme) × Prints x (ts ++ us)

-- How many opening tokens may be open at once.
abbrev pub nesting_limit : ℕ
nesting_limit = 128

-- How many are open after a token of this kind, where n were open before it.
abbrev pub opened_after : Kind → ℕ → ℕ
opened_after ParenOpen n = suc n
opened_after BracketOpen n = suc n
opened_after BraceOpen n = suc n
opened_after NameOpen n = suc n
opened_after TagOpen n = suc n
opened_after TagHeadOpen n = suc n
opened_after SimpleHeadOpen n = suc n
opened_after ParenClose (suc n) = n
opened_after BracketClose (suc n) = n
opened_after BraceClose (suc n) = n
opened_after AngleClose (suc n) = n
opened_after _ n = n

-- How many are open after the tokens, where n were open before them.
abbrev pub open_after : ℕ → List Lexeme → ℕ
open_after n [] = n
open_after n (t ∷ ts) = open_after (opened_after t.0 n) ts

-- How many are open at once, at most.
abbrev pub deepest : ℕ → List Lexeme → ℕ
deepest n [] = n
deepest n (t ∷ ts) = max n (deepest (opened_after t.0 n) ts)

-- The tokens are a specification, with this tree.
pub record IsTreeOf (x : Cddl) (ts : List Token) : Type 0 where
  pub prints : Prints x (lexemes ts)
  pub within : nesting x ≤ nesting_limit

-- The tokens before the token t begin a specification, and t is at the offset `at` of its source.
pub record Reaches (ts front : List Token) (t : Token) (at : ℕ) : Type 0 where
  pub back : List Token
  pub parts : ts ≡ front ++ t ∷ back
  pub offset : at ≡ t.start
  pub begins : Begins (lexemes front)
  pub within : deepest 0 (lexemes front) ≤ nesting_limit

-- With the token they begin no tree.
pub record IsUnexpected (ts : List Token) (at : ℕ) : Type 0 where
  pub front : List Token
  pub token : Token
  pub reaches : Reaches ts front token at
  pub wrong : Begins (lexemes (front ++ token ∷ [])) → ⊥

-- With the token they begin a tree, and one bracket too many is open.
pub record IsTooNested (ts : List Token) (at : ℕ) : Type 0 where
  pub front : List Token
  pub token : Token
  pub reaches : Reaches ts front token at
  pub begins : Begins (lexemes (front ++ token ∷ []))
  pub over : nesting_limit < open_after 0 (lexemes (front ++ token ∷ []))

-- Why the tokens are no specification: the code, and the offset where that shows.
abbrev pub IsRefused : List Token → Code → ℕ → Type 0
IsRefused ts Unexpected at = IsUnexpected ts at
IsRefused ts TooNested at = IsTooNested ts at
IsRefused ts _ at = ⊥
