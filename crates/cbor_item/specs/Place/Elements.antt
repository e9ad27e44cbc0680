-- What a search that counts places down finds.
use Rattle.std.specs.Prelude.{ℕ, zero, suc, List, [], ◌∷◌, Result, Ok, Err}

-- the element at an index of a list, or how far the index lies after the list's end
abbrev pub element_or_rest : {A : Type 0} → List A → ℕ → Result A ℕ
element_or_rest [] i = Err i
element_or_rest (x ∷ xs) zero = Ok x
element_or_rest (x ∷ xs) (suc i) = element_or_rest xs i
