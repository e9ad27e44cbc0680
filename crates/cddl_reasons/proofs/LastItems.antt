-- The last open question of which something is known, found one by one.
use Rattle.std.proofs.Common.{◌≡◌, ℕ, zero, suc, ◌+◌, ◌-◌, ◌<◌, Bool, List, [], ◌∷◌, ◌++◌, length, take, slice_get, Option, Some, None, reverse, refl, sym, ap, subst, ◌∙◌, arith}
use Rattle.cddl_meaning.specs.Moves.{Pending, Question}
use Rattle.cddl_reasons.specs.Known.{first_known, last_known}
use Rattle.cddl_reasons.specs.Opened.{asked_in, waits_in}
use Rattle.cddl_reasons.specs.declared.run.Open.{Open}
use Rattle.cddl_reasons.proofs.Steps.{asked_push, waits_push}
use Rattle.match_moves.specs.Views.{pending_view, question_view}
use Rattle.table_nodes.specs.declared.nodes.GroupId.{GroupId}
use Rattle.table_nodes.specs.declared.nodes.TypeId.{TypeId}

abbrev value_or : {A : Type 0} → A → Option A → A
value_or d (Some x) = x
value_or d None = d

take_suc : {A : Type 0} (xs : List A) (i : ℕ) (x : A) → slice_get xs i ≡ Some x → take (suc i) xs ≡ take i xs ++ x ∷ []
take_suc [] i x e = cc
take_suc (y ∷ xs) zero x e = ap (λ o. value_or y o ∷ []) e
take_suc (y ∷ xs) (suc i) x e = ap (λ zs. y ∷ zs) (take_suc xs i x e)

take_one_more : {A : Type 0} (xs : List A) (i : ℕ) (x : A) → slice_get xs i ≡ Some x → take (i + 1) xs ≡ take i xs ++ x ∷ []
take_one_more xs i x e = let on : i + 1 ≡ suc i = omega arith in ap (λ n. take n xs) on ∙ take_suc xs i x e

module _ (known : Question TypeId GroupId → Pending TypeId GroupId → Option Bool) where
  -- the questions are those that are left, and the last of them
  last_first : (all others : List Open) (o : Open) → all ≡ others ++ o ∷ [] → last_known known (reverse (asked_in all)) (reverse (waits_in all)) ≡ first_known (known (question_view o.question) (pending_view o.pending)) (last_known known (reverse (asked_in others)) (reverse (waits_in others)))
  last_first all others o is = rw (is, asked_push others o, waits_push others o) refl

  -- the questions before the last ones
  abbrev pub IsLeft : List Open → ℕ → Bool → Type 0
  IsLeft os k b = b ≡ last_known known (reverse (asked_in (take (length os - k) os))) (reverse (waits_in (take (length os - k) os)))

  left_first : (os : List Open) (k : ℕ) (b : Bool) (o : Open) → IsLeft os k b → k < length os → slice_get os ((length os - 1) - k) ≡ Some o → b ≡ first_known (known (question_view o.question) (pending_view o.pending)) (last_known known (reverse (asked_in (take (length os - (k + 1)) os))) (reverse (waits_in (take (length os - (k + 1)) os))))
  left_first os k b o h lt at =
      let i : (length os - 1) - k ≡ length os - (k + 1) = omega (arith, lt) in
      let n : (length os - (k + 1)) + 1 ≡ length os - k = omega (arith, lt) in
      let there : slice_get os (length os - (k + 1)) ≡ Some o = subst (λ j. slice_get os j ≡ Some o) i at in
      h ∙ last_first _ _ o (ap (λ m. take m os) (sym n) ∙ take_one_more os (length os - (k + 1)) o there)

  pub is_known : (os : List Open) (k : ℕ) (b found : Bool) (o : Open) → IsLeft os k b → k < length os → slice_get os ((length os - 1) - k) ≡ Some o → known (question_view o.question) (pending_view o.pending) ≡ Some found → b ≡ found
  is_known os k b found o h lt at some = left_first os k b o h lt at ∙ ap (λ x. first_known x (last_known known (reverse (asked_in (take (length os - (k + 1)) os))) (reverse (waits_in (take (length os - (k + 1)) os))))) some

  pub one_less : (os : List Open) (k : ℕ) (b : Bool) (o : Open) → IsLeft os k b → k < length os → slice_get os ((length os - 1) - k) ≡ Some o → known (question_view o.question) (pending_view o.pending) ≡ None → IsLeft os (k + 1) b
  one_less os k b o h lt at none = left_first os k b o h lt at ∙ ap (λ x. first_known x (last_known known (reverse (asked_in (take (length os - (k + 1)) os))) (reverse (waits_in (take (length os - (k + 1)) os))))) none
