-- The tokens of a source end in its end.
use Rattle.std.proofs.Common.{◌≡◌, ℕ, List, [], ◌∷◌, map, length, refl, ap, ◌∙◌}
use Rattle.cddl_token.specs.declared.Token.{Token}
use Rattle.cddl_token.specs.declared.Kind.{Kind}
use Rattle.cddl_token.specs.declared.Kind.TheVariants.{End}
use Rattle.cddl_token.specs.Tokens.{Spanned, token, Tokenized, ends, more}
use Rattle.cddl_token.specs.Answers.{span}
use Rattle.cddl_tree.specs.States.{EndsInEnd}

abbrev kind_of : List Spanned → Kind
kind_of [] = End
kind_of (x ∷ xs) = x.kind

one_token : (ts : List Token) (x : Spanned) → x.kind ≡ End → map span ts ≡ x ∷ [] → EndsInEnd ts
one_token [] x k e = absurd cc
one_token (t ∷ []) x k e = ([], t, refl, ap kind_of e ∙ k)
one_token (t ∷ u ∷ ts) x k e = absurd cc

one_more : (t : Token) (ts : List Token) → EndsInEnd ts → EndsInEnd (t ∷ ts)
one_more t ts h = (t ∷ h.0, h.1, ap (λ (us : List Token). t ∷ us) h.2, h.3)

abbrev rest_of : List Spanned → List Spanned
rest_of [] = []
rest_of (x ∷ xs) = xs

pub tokens_end : (s : List ℕ) (i : ℕ) (xs : List Spanned) → Tokenized s i xs → (ts : List Token) → map span ts ≡ xs → EndsInEnd ts
tokens_end s i xs (ends g e) ts f = one_token ts (token End (length s) (length s)) refl (f ∙ e)
tokens_end s i _ (more g h k) [] f = absurd cc
tokens_end s i _ (more g h k) (t ∷ ts) f = one_more t ts (tokens_end s _ _ k ts (ap rest_of f))
