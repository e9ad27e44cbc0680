-- Lists of offsets that grow by what is found.
use Rattle.std.proofs.Common.{◌≡◌, ◌↔◌, ◌⊎◌, inl, inr, ℕ, List, [], ◌∷◌, ◌++◌, Option, Some, None, sym, ap, subst}
use Rattle.std.specs.List.{Contains}
use Rattle.std.proofs.lemmas.List.Elements.{Contains-append_cases, Contains-append_left, Contains-append_right, Contains-push, Contains-push_cases}
use Rattle.lists.proofs.Lemmas.{either, never_some, none_in, same_some_there}
use Rattle.lists.specs.Least.{IsLeast}
use Rattle.all_offsets.specs.Offsets.{AreOf, Gains, IsThatOf}

-- it stands at one offset at most
abbrev pub IsOne : (ℕ → Type 0) → Type 0
IsOne P = (p q : ℕ) → P p → P q → p ≡ q

pub gains_pushed : (old new : List ℕ) (at : ℕ) → new ≡ old ++ at ∷ [] → Gains (IsThatOf (Some at)) old new
gains_pushed old new at e p = (
  λ h. either (Contains-push_cases old at p (subst (λ xs. Contains xs p) e h)) inl (λ same. inr (ap Some same)),
  λ h. subst (λ xs. Contains xs p) (sym e) (either h (λ c. Contains-append_left old (at ∷ []) p c) (λ same. subst (λ q. Contains (old ++ at ∷ []) q) (same_some_there at p same) (Contains-push old at))),
)

pub gains_nothing : (old new : List ℕ) → new ≡ old → Gains (IsThatOf None) old new
gains_nothing old new e p = (λ h. inl (subst (λ xs. Contains xs p) e h), λ h. subst (λ xs. Contains xs p) (sym e) (either h (λ c. c) (λ none. absurd (never_some p none))))

pub same_gains : (P Q : ℕ → Type 0) (old new : List ℕ) → ((p : ℕ) → P p → Q p) → ((p : ℕ) → Q p → P p) → Gains P old new → Gains Q old new
same_gains P Q old new f g h p = (λ c. either ((h p).0 c) inl (λ k. inr (f p k)), λ k. (h p).1 (either k inl (λ q. inr (g p q))))

pub gains_both : (P Q : ℕ → Type 0) (old mid new : List ℕ) → Gains P old mid → Gains Q mid new → Gains (λ p. P p ⊎ Q p) old new
gains_both P Q old mid new h k p = (λ c. either ((k p).0 c) (λ m. either ((h p).0 m) inl (λ x. inr (inl x))) (λ x. inr (inr x)), λ x. (k p).1 (either x (λ o. inl ((h p).1 (inl o))) (λ pq. either pq (λ a. inl ((h p).1 (inr a))) inr)))

-- what stands at one offset at most stands at the least
pub least_is : (P : ℕ → Type 0) (o : Option ℕ) → IsLeast P o → IsOne P → (p : ℕ) → P p → o ≡ Some p
least_is P None h one p k = absurd (h p k)
least_is P (Some a) h one p k = ap Some (one a p h.0 k)

pub least_stands : (P : ℕ → Type 0) (o : Option ℕ) → IsLeast P o → (p : ℕ) → o ≡ Some p → P p
least_stands P None h p e = absurd (never_some p e)
least_stands P (Some a) h p e = subst P (same_some_there a p e) h.0

pub gains_least : (P : ℕ → Type 0) (o : Option ℕ) (old new : List ℕ) → IsLeast P o → IsOne P → Gains (IsThatOf o) old new → Gains P old new
gains_least P o old new h one g = same_gains (IsThatOf o) P old new (least_stands P o h) (least_is P o h one) g

-- of nothing
pub grown_alone : (P : ℕ → Type 0) (old new : List ℕ) → old ≡ [] → Gains P old new → AreOf P new
grown_alone P old new e g p = (λ c. either ((g p).0 c) (λ o. absurd (none_in p (subst (λ xs. Contains xs p) e o))) (λ k. k), λ k. (g p).1 (inr k))

pub least_alone : (P : ℕ → Type 0) (o : Option ℕ) (xs : List ℕ) → IsLeast P o → IsOne P → AreOf (IsThatOf o) xs → AreOf P xs
least_alone P o xs h one a p = (λ c. least_stands P o h p ((a p).0 c), λ k. (a p).1 (least_is P o h one p k))

pub same_of : (P Q : ℕ → Type 0) (xs : List ℕ) → ((p : ℕ) → P p → Q p) → ((p : ℕ) → Q p → P p) → AreOf P xs → AreOf Q xs
same_of P Q xs f g a p = (λ c. f p ((a p).0 c), λ k. (a p).1 (g p k))

pub of_both : (P Q : ℕ → Type 0) (xs ys : List ℕ) → AreOf P xs → AreOf Q ys → AreOf (λ p. P p ⊎ Q p) (xs ++ ys)
of_both P Q xs ys a b p = (λ c. either (Contains-append_cases xs ys p c) (λ x. inl ((a p).0 x)) (λ y. inr ((b p).0 y)), λ k. either k (λ x. Contains-append_left xs ys p ((a p).1 x)) (λ y. Contains-append_right xs ys p ((b p).1 y)))

pub moved_of : (P : ℕ → Type 0) (xs ys : List ℕ) → ((p : ℕ) → Contains ys p ↔ Contains xs p) → AreOf P xs → AreOf P ys
moved_of P xs ys same a p = (λ c. (a p).0 ((same p).0 c), λ k. (same p).1 ((a p).1 k))
