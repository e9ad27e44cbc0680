-- What is in a list, and at its places.
use Rattle.std.proofs.Common.{◌≡◌, ℕ, ◌+◌, List, [], ◌∷◌, ◌++◌, length, ap, ◌∙◌}
use Rattle.lists.proofs.Lemmas.{push_length as length_more}

-- in a list that grew by one

pub length_push : {A : Type 0} (xs new : List A) (x : A) (k : ℕ) → length xs ≡ k → new ≡ xs ++ x ∷ [] → length new ≡ k + 1
length_push xs new x k e f = ap length f ∙ length_more xs x ∙ ap (λ j. j + 1) e

-- lists of lists
