-- What a program does that answers lines.
use Rattle.std.specs.Prelude.{ℕ, ◌≡◌, List, [], ◌∷◌, ◌++◌, map, flat_map, codes}
use Rattle.std.specs.List.{FoldsTo}
use Rattle.std.specs.Str.Lines.{lines}

-- the output has the answer to each line of the text, and a line end after it, in their order; whoever answers goes from s to t
pub record AreAnswered {S : Type 0} (answers : S → List ℕ → List ℕ → S → Type 0) (s : S) (text output : List ℕ) (t : S) : Type 0 where
  pub exchanges : List (List ℕ × List ℕ)
  pub asked : map (λ e. e.0) exchanges ≡ lines text
  pub answered : FoldsTo (λ u e v. answers u e.0 e.1 v) s exchanges t
  pub written : output ≡ flat_map (λ e. e.1 ++ codes "\n") exchanges
