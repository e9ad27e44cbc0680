-- Hints about the same words and tokens.
use Rattle.std.proofs.Common.{◌≡◌, List, ℕ, ap, subst, ◌∙◌, cond, [], ◌∷◌, codes, Some}
use Rattle.std.specs.Prelude.{slice_get}
use Rattle.cddl_token.specs.declared.Token.{Token}
use Rattle.near_words.specs.Near.{IsNearest}
use Rattle.cddl_explain.specs.Arity.{arity, arity_of_name, arity_words, bearer_of, last_rule}
use Rattle.cddl_explain.specs.Hints.{hint_of, IsHintAmong, IsKindHint, IsTokenHint}
use Rattle.cddl_explain.specs.Rules.{begins_rule, name_of_token}
use Rattle.cddl_explain.specs.declared.parts.Part.{Part}

pub among_same : (names : List (List ℕ)) (word same other else_same hint : List ℕ) → word ≡ same → other ≡ else_same → IsHintAmong names word other hint → IsHintAmong names same else_same hint
among_same names word same other else_same hint e1 e2 h = (h.0, subst (λ w. IsNearest w names h.0) e1 h.1, h.2 ∙ ap (λ o. hint_of o h.0) e2)

pub token_same : (front same here here_same : List Token) (hint : List ℕ) → front ≡ same → here ≡ here_same → IsTokenHint front here hint → IsTokenHint same here_same hint
token_same front same here here_same hint e1 e2 h = subst (λ f. IsTokenHint f here_same hint) e1 (subst (λ ts. IsTokenHint front ts hint) e2 h)

pub kind_same : (source : List ℕ) (p : Part) (front same ts : List Token) (hint : List ℕ) → front ≡ same → IsKindHint source p front ts hint → IsKindHint source p same ts hint
kind_same source p front same ts hint e h = subst (λ f. IsKindHint source p f ts hint) e h

pub named_here : (before here ts : List Token) (t : Token) → slice_get here 0 ≡ Some t →
    arity_of_name before here ts ≡ cond (begins_rule here) (arity_words (arity here) (codes "parameter") (bearer_of (name_of_token t.text.now) [] ts)) (arity_words (arity here) (codes "argument") (bearer_of (name_of_token t.text.now) (last_rule [] before) ts))
named_here before [] ts t e = absurd (cc)
named_here before (u ∷ us) ts t e =
    let same : u ≡ t = cc in
    ap (λ (v : Token). cond (begins_rule (u ∷ us)) (arity_words (arity (u ∷ us)) (codes "parameter") (bearer_of (name_of_token v.text.now) [] ts)) (arity_words (arity (u ∷ us)) (codes "argument") (bearer_of (name_of_token v.text.now) (last_rule [] before) ts))) same
