-- What can't be otherwise: where something is shown to be impossible, each statement may be taken to hold or not to.
use Rattle.std.proofs.Common.{◌⊎◌, inl, inr, List, [], ◌∷◌, refl, sym, subst}
use Rattle.lists.proofs.Lemmas.{IsIn}
use Rattle.cddl_meaning.specs.Alike.{AlikeAll, none, both}
use Rattle.cddl_meaning.proofs.OfRanks.Lemmas.{AreAll}

abbrev pub IsSure : Type 0 → Type 0
IsSure A = (A → ⊥) → ⊥

pub either : (A : Type 0) → IsSure (A ⊎ (A → ⊥))
either A = λ n. n (inr (λ a. n (inl a)))

pub at_all : {A : Type 0} (P : A → Type 0) (xs : List A) → AreAll P xs → (x : A) → IsIn x xs → P x
at_all P [] h x i = absurd i
at_all P (y ∷ ys) h x (inl e) = subst P (sym e) h.0
at_all P (y ∷ ys) h x (inr i) = at_all P ys h.1 x i

-- of each of these
pub all_sure : {A : Type 0} (P : A → Type 0) (xs : List A) → ((x : A) → IsIn x xs → IsSure (P x)) → IsSure (AreAll P xs)
all_sure P [] h = λ n. n tt
all_sure P (x ∷ xs) h = λ n. h x (inl refl) (λ p. all_sure P xs (λ y i. h y (inr i)) (λ q. n (p, q)))

-- something for each of these
pub list_sure : {A B : Type 0} (R : A → B → Type 0) (xs : List A) → ((x : A) → IsIn x xs → IsSure ((y : B) × R x y)) → IsSure ((ys : List B) × AlikeAll R xs ys)
list_sure R [] h = λ n. n ([], none)
list_sure R (x ∷ xs) h = λ n. h x (inl refl) (λ y. list_sure R xs (λ z i. h z (inr i)) (λ ys. n (y.0 ∷ ys.0, both y.1 ys.1)))

-- those of which P is so
pub record AreSifted {A : Type 0} (P : A → Type 0) (xs ys : List A) : Type 0 where
  pub only : (y : A) → IsIn y ys → P y
  pub all : (y : A) → IsIn y xs → P y → IsIn y ys

module _ {A : Type 0} (P : A → Type 0) (x : A) (xs ys : List A) (s : AreSifted P xs ys) where
  with_it : P x → AreSifted P (x ∷ xs) (x ∷ ys)
  with_it p = record { only = λ y i. kept y i; all = λ y i q. found y i q }
    where
      kept : (y : A) → IsIn y (x ∷ ys) → P y
      kept y (inl e) = subst P (sym e) p
      kept y (inr i) = s.only y i

      found : (y : A) → IsIn y (x ∷ xs) → P y → IsIn y (x ∷ ys)
      found y (inl e) q = inl e
      found y (inr i) q = inr (s.all y i q)

  without_it : (P x → ⊥) → AreSifted P (x ∷ xs) ys
  without_it never = record { only = λ y i. s.only y i; all = λ y i q. found y i q }
    where
      found : (y : A) → IsIn y (x ∷ xs) → P y → IsIn y ys
      found y (inl e) q = absurd (never (subst P e q))
      found y (inr i) q = s.all y i q

pub sifted : {A : Type 0} (P : A → Type 0) (xs : List A) → IsSure ((ys : List A) × AreSifted P xs ys)
sifted P [] = λ n. n ([], record { only = λ y i. absurd i; all = λ y i q. absurd i })
sifted P (x ∷ xs) = λ n. sifted P xs (λ r. either (P x) (λ c. elim c [ inl p ↦ n (x ∷ r.0, with_it P x xs r.0 r.1 p) | inr never ↦ n (r.0, without_it P x xs r.0 r.1 never) ]))
