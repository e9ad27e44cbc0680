-- Ends of ranges that are no whole numbers.
use Rattle.std.specs.Prelude.{◌≡◌, ℕ, Bool, is_some, List, Contains, Option, None}
use Rattle.cddl_literal.specs.Numbers.{Meaning}
use Rattle.cddl_language.specs.Literals.{Values, whole, whole_of}
use Rattle.cddl_language.specs.Terms.{Definition, Term, Text}
use Rattle.check_literals.specs.Literals.{IsKnown}
use Rattle.check_terms.specs.Table.{Table}
use Rattle.check_terms.specs.Trees.{IsTerm}
use Rattle.check_reached.specs.declared.asked.Asked.{Asked}
use Rattle.check_reading.specs.declared.parts.part.Question.TheVariants as QuestionV

-- what is asked is whether the row is of a whole number
abbrev pub AsksWhole : Asked → Type 0
AsksWhole a = a.question ≡ QuestionV.IsWhole

-- The row is of a type in which all references are instances, and written values are taken for what they stand for.
pub record IsEnd (xs : List Definition) (root : Text) (worth : Values) (t : Table) (n : ℕ) : Type 0 where
  pub end : Term
  pub row : IsTerm t n end
  pub known : IsKnown xs root worth end

-- so it is where it is asked whether the type is a whole number
abbrev pub AreEnds : List Definition → Text → Values → Table → List Asked → Type 0
AreEnds xs root worth t asked = (a : Asked) → Contains asked a → AsksWhole a → IsEnd xs root worth t a.row

-- It is asked whether a type is a whole number, and it is none.
pub record IsBadEnd (xs : List Definition) (worth : Values) (t : Table) (a : Asked) (at : ℕ) : Type 0 where
  pub end : Term
  pub asked : AsksWhole a
  pub row : IsTerm t a.row end
  pub not_whole : whole_of worth xs end ≡ None
  pub offset : at ≡ a.at

-- whether the literal is a whole number
abbrev pub is_whole : Option Meaning → Bool
is_whole m = is_some (whole m)
