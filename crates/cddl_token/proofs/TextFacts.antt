-- Tokens with their texts, one after another.
use Rattle.std.proofs.Common.{◌≡◌, ℕ, List, [], ◌∷◌, ◌++◌, sym, ap, subst, ◌∙◌, append_assoc}
use Rattle.std.specs.Prelude.{map, slice_range, ◌<◌}
use Rattle.std.proofs.Common.{rules}
use Rattle.std.proofs.lemmas.Grind.{common_steps}
use Rattle.std.proofs.lemmas.List.{map_push}
use Rattle.cddl_token.specs.declared.Token.{Token}
use Rattle.cddl_token.specs.Answers.{span, StopsScan}
use Rattle.std.specs.Prelude.{Err, length}
use Rattle.cddl_token.specs.declared.Code.{Code}
use Rattle.cddl_token.specs.declared.Refusal.{Refusal}
use Rattle.cddl_token.specs.declared.Refusal.TheVariants.{At, Memory}
use Rattle.cddl_token.specs.Tokens.{Spanned, Tokenized, Refused, here, GapFrom, IsFound}

pub pushed : (s : List ℕ) (xs : List Token) (x : Token) (ts : List Spanned) → Tokenized s 0 (map span xs ++ (span x ∷ ts)) → Tokenized s 0 (map span (xs ++ x ∷ []) ++ ts)
pushed s xs x ts h = subst (Tokenized s 0) (sym (ap (λ l. l ++ ts) (map_push span xs x) ∙ append_assoc (map span xs) (span x ∷ []) ts)) h

pub pushed_last : (s : List ℕ) (xs : List Token) (x : Token) → Tokenized s 0 (map span xs ++ (span x ∷ [])) → Tokenized s 0 (map span (xs ++ x ∷ []))
pushed_last s xs x h = subst (Tokenized s 0) (sym (map_push span xs x)) h

pub no_bytes : (s : List ℕ) (i : ℕ) → ◌≡◌ {A = List ℕ} [] (slice_range s i i)
no_bytes s i = search (rules, common_steps)

pub ap_below : {s t : List ℕ} (f : List ℕ → ℕ) → s ≡ t → f s < 128 → f t < 128
ap_below f e h = subst (λ u. f u < 128) e h

-- where no token can be read, all of the source is refused
pub stops_scan : (s : List ℕ) (i a : ℕ) (r : Refusal) → GapFrom s i a → a < length s → ((code : Code) (place : ℕ) → Refused s i code place → Refused s 0 code place) → IsFound s a (Err r) → StopsScan s r
stops_scan s i a (At code at) gap within passed fault = passed code at (here gap within fault)
stops_scan s i a Memory gap within passed fault = tt
