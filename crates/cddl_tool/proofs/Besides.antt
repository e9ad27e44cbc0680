-- What is told of the faults of one code more.
use Rattle.std.proofs.Common.{◌≡◌, ℕ, zero, suc, ◌+◌, List, [], ◌∷◌, ◌++◌, take, Option, Some, None, slice_get, sym, ap, subst, ◌∙◌, arith}
use Rattle.cddl_token.specs.declared.Refusal.TheVariants.{At}
use Rattle.check_text.specs.declared.fault.Fault.{Fault}
use Rattle.check_faults.specs.declared.listing.Listed.{Listed}
use Rattle.cddl_explain.specs.Further.{AreFurther}
use Rattle.cddl_tool.specs.Further.{AreBesides, further_code}

abbrev value_or : {A : Type 0} → A → Option A → A
value_or d (Some x) = x
value_or d None = d

never_some : {A : Type 0} (x : A) → None ≡ Some x → ⊥
never_some x e = cc

take_suc : {A : Type 0} (xs : List A) (i : ℕ) (x : A) → slice_get xs i ≡ Some x → take (suc i) xs ≡ take i xs ++ x ∷ []
take_suc [] i x e = absurd (never_some x e)
take_suc (y ∷ xs) zero x e = ap (λ o. value_or y o ∷ []) e
take_suc (y ∷ xs) (suc i) x e = ap (λ zs. y ∷ zs) (take_suc xs i x e)

pub take_one_more : {A : Type 0} (xs : List A) (i : ℕ) (x : A) → slice_get xs i ≡ Some x → take (i + 1) xs ≡ take i xs ++ x ∷ []
take_one_more xs i x e = let on : i + 1 ≡ suc i = omega arith in ap (λ n. take n xs) on ∙ take_suc xs i x e

pub one_code_more : (f : Fault) (file text : List ℕ) (root : Option (List ℕ)) (before now : List Listed) (told new : List ℕ) (l : Listed) (part : List ℕ) → now ≡ before ++ l ∷ [] → new ≡ told ++ part → AreFurther l.code (At f.code f.at) l.offsets.items l.further file text root part → AreBesides f file text root before told → AreBesides f file text root now new
one_code_more f file text root before now told new l part grown pushed is h =
    subst (λ ls. AreBesides f file text root ls new) (sym grown) (subst (λ t. AreBesides f file text root (before ++ l ∷ []) t) (sym pushed) (further_code h l part is))
