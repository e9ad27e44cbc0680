-- How the bytes of a word come from its parts.
use Rattle.std.proofs.Common.{◌≡◌, ℕ, List, [], ◌∷◌, ◌++◌, map, Bool, true, false, not, cond, ◌+◌, length, refl, ap, sym, ◌∙◌, suc, zero, subst, arith}
use Rattle.std.specs.Prelude.{◌||◌}
use Rattle.std.specs.List.{concat, list_any, onto_first, position_or_len, repeat, slice_split, AllByRecursion, AllZip}
use Rattle.std.proofs.lemmas.List.{map-append, append_assoc, append-nil}
use Rattle.std.proofs.lemmas.List.Elements.{AllZip-push}
use Rattle.std.proofs.lemmas.List.Folds.{concat-append}
use denote.Ref.{Bor}

-- what is found nowhere is no element
none_there : (p : ℕ → Bool) (x : ℕ) (xs : List ℕ) (passes : Bool) → (position_or_len p xs ≡ length xs → list_any p xs ≡ false) → cond (not passes) (1 + position_or_len p xs) 0 ≡ length (x ∷ xs) → passes || list_any p xs ≡ false
none_there p x xs true rest e = absurd (omega (arith, e))
none_there p x xs false rest e = rest (omega (arith, e))

pub found_nowhere : (p : ℕ → Bool) (xs : List ℕ) → position_or_len p xs ≡ length xs → list_any p xs ≡ false
found_nowhere p [] e = refl
found_nowhere p (x ∷ xs) e = none_there p x xs (p x) (found_nowhere p xs) e

-- the parts have no element at which they were cut
onto_apart : (p : ℕ → Bool) (x : ℕ) (passes : Bool) → p x ≡ passes → (parts : List (List ℕ)) → AllByRecursion (λ part. list_any p part ≡ false) parts → AllByRecursion (λ part. list_any p part ≡ false) (cond passes ([] ∷ parts) (onto_first x parts))
onto_apart p x true e parts apart = (refl, apart)
onto_apart p x false e [] apart = (ap (λ b. b || false) e, tt)
onto_apart p x false e (part ∷ parts) apart = (ap (λ b. b || list_any p part) e ∙ apart.0, apart.1)

pub split_apart : (p : ℕ → Bool) (bs : List ℕ) → AllByRecursion (λ part. list_any p part ≡ false) (slice_split p bs)
split_apart p [] = (refl, tt)
split_apart p (x ∷ xs) = onto_apart p x (p x) refl (slice_split p xs) (split_apart p xs)

-- one more part with its piece
pub one_more : (R : List ℕ → List ℕ → Type 0) (parts : List (Bor (List ℕ))) (part : Bor (List ℕ)) (pieces : List (List ℕ)) (piece : List ℕ) → AllZip R (map (λ x. x.now) parts) pieces → R part.now piece → AllZip R (map (λ x. x.now) (parts ++ part ∷ [])) (pieces ++ piece ∷ [])
one_more R parts part pieces piece each is = subst (λ texts. AllZip R texts (pieces ++ piece ∷ [])) (sym (map-append (λ x. x.now) parts (part ∷ []))) (AllZip-push R (map (λ x. x.now) parts) pieces part.now piece each is)

pub concat_more : (pieces : List (List ℕ)) (piece : List ℕ) → concat (pieces ++ piece ∷ []) ≡ concat pieces ++ piece
concat_more pieces piece = concat-append pieces (piece ∷ []) ∙ ap (λ rest. concat pieces ++ rest) (append-nil piece)

repeat_suc : (n : ℕ) (bs : List ℕ) → repeat (suc n) bs ≡ repeat n bs ++ bs
repeat_suc zero bs = append-nil bs
repeat_suc (suc n) bs = ap (λ rest. bs ++ rest) (repeat_suc n bs) ∙ sym (append_assoc bs (repeat n bs) bs)

-- the bytes once more
pub repeat_more : (n : ℕ) (bs : List ℕ) → repeat (n + 1) bs ≡ repeat n bs ++ bs
repeat_more n bs = let e : n + 1 ≡ suc n = omega arith in ap (λ k. repeat k bs) e ∙ repeat_suc n bs
