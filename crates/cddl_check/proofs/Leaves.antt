-- The leaves of a tree are the tokens that it is made of.
use Rattle.std.proofs.Common.{◌≡◌, ℕ, zero, suc, ◌<◌, List, [], ◌∷◌, length, get_or, refl, subst, arith}
use Rattle.std.specs.Prelude.{Contains}
use Rattle.std.proofs.lemmas.List.Elements.{All-contains}
use Rattle.cddl_token.specs.declared.Token.{Token}
use Rattle.cddl_token.specs.Answers.{IsAnswered, IsReadFrom}
use Rattle.tree_nodes.specs.Syntax.Syntax.{Cddl, Lexeme}
use Rattle.tree_nodes.specs.Syntax.Answers.{IsTreeOf, lexeme, lexemes}
use Rattle.cddl_language.specs.Literals.{AreTokens}
use Rattle.cddl_check.specs.Text.{AreTokensOf}

record IsLexemeOf (ts : List Token) (l : Lexeme) : Type 0 where
  token : Token
  among : Contains ts token
  same : lexeme token ≡ l

at_place : (ts : List Token) (l : Lexeme) (k : ℕ) → k < length (lexemes ts) → get_or (lexemes ts) k l ≡ l → IsLexemeOf ts l
at_place [] l k h e = absurd (omega (arith, h))
at_place (t ∷ ts) l zero h e = record { token = t; among = (0, omega arith, refl); same = e }
at_place (t ∷ ts) l (suc k) h e =
    let x = at_place ts l k (omega (arith, h)) e in
    record { token = x.token; among = (suc (x.among.0), omega (arith, x.among.1), x.among.2); same = x.same }

pub leaves : (x : Cddl) (ts : List Token) (text : List ℕ) → AreTokensOf ts text → IsTreeOf x ts → AreTokens x
leaves x ts text are tree l among = subst (λ m. ((m.1).kind ≡ m.0) × IsAnswered m.1) found.same (refl, (text, All-contains (IsReadFrom text) ts found.token are.read found.among))
  where
    there : Contains (lexemes ts) l
    there = subst (λ ls. Contains ls l) tree.prints.tokens among

    found : IsLexemeOf ts l
    found = at_place ts l there.0 there.1 there.2
