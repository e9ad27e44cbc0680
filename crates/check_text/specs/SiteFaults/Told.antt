-- What is reported at the words of a list.
use Rattle.std.specs.Prelude.{◌≡◌, ℕ, List, Contains, Some, slice_get}
use Rattle.tree_nodes.specs.Syntax.Syntax as S
use Rattle.check_terms.specs.Table.{Table}
use Rattle.check_reading.specs.Words.{IsSaid, Said}
use Rattle.check_reading.specs.declared.words.word.Word.{Word}
use Rattle.all_offsets.specs.Offsets.{IsAmong}

-- it is reported at a word of a rule
pub record IsToldAt (t : Table) (rs : List S.Rule) (P : S.Rule → Said → ℕ → Type 0) (w : Word) (at : ℕ) : Type 0 where
  pub rule : S.Rule
  pub said : Said
  pub place : slice_get rs w.rule ≡ Some rule
  pub is : IsSaid t w said
  pub told : P rule said at

abbrev pub Among : Table → List S.Rule → (S.Rule → Said → ℕ → Type 0) → List Word → ℕ → Type 0
Among t rs P ws = IsAmong (IsToldAt t rs P) ws

-- each of the words is of a rule, and has a text
pub record IsSpoken (t : Table) (rs : List S.Rule) (w : Word) : Type 0 where
  pub rule : S.Rule
  pub said : Said
  pub place : slice_get rs w.rule ≡ Some rule
  pub is : IsSaid t w said

abbrev pub AreSpoken : Table → List S.Rule → List Word → Type 0
AreSpoken t rs ws = (w : Word) → Contains ws w → IsSpoken t rs w
