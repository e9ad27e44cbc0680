-- What holds of each row of a list, and of the numbers past its end.
use Rattle.std.proofs.Common.{◌≡◌, ℕ, ◌+◌, ◌<◌, ◌≤◌, inl, inr, List, length, Option, Some, None, slice_get, sym, subst, arith}
use borrow.Author.Count.{below_more}
use Rattle.std.proofs.lemmas.Option.{slice_get_cases}

module _ {A : Type 0} (Holds : ℕ → Option A → Type 0) (rows : List A) where
  pub one_more : (i : ℕ) (x : A) → slice_get rows i ≡ Some x → Holds i (Some x) → ((n : ℕ) → n < i → Holds n (slice_get rows n)) → (n : ℕ) → n < i + 1 → Holds n (slice_get rows n)
  one_more i x e h before n k = below_more (λ n. Holds n (slice_get rows n)) i before (subst (Holds i) (sym e) h) n k

  pub all_rows : (i : ℕ) → length rows ≤ i → ((n : ℕ) → Holds n None) → ((n : ℕ) → n < i → Holds n (slice_get rows n)) → (n : ℕ) → Holds n (slice_get rows n)
  all_rows i h past before n = elim (slice_get_cases rows n).1 [ inl k ↦ before n (omega (arith, h, k.1)) | inr k ↦ subst (Holds n) (sym k.1) (past n) ]
