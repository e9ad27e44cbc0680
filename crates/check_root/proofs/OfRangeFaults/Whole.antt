-- What is told of one question.
use Rattle.std.proofs.Common.{◌≡◌, ℕ, true, false, List, Option, Some, None, is_some, refl, sym, ap, ◌∙◌, arith, true≢false}
use Rattle.cddl_language.specs.Literals.{Values, whole_of}
use Rattle.cddl_language.specs.Terms.{Definition, Term, Text}
use Rattle.check_terms.specs.Table.{Table}
use Rattle.check_terms.specs.Trees.{IsTerm}
use Rattle.check_root.specs.RangeFaults.Ends.{AsksWhole, IsBadEnd, IsEnd}
use Rattle.check_reached.specs.declared.asked.Asked.{Asked}
use Rattle.lists.specs.Least.{IsLeast}

-- a row is of one term
abbrev pub OneTerm : Table → Type 0
OneTerm t = (n : ℕ) (x y : Term) → IsTerm t n x → IsTerm t n y → x ≡ y

module _ (xs : List Definition) (root : Text) (worth : Values) (t : Table) (one : OneTerm t) (a : Asked) where
  is_none : {X : Type 0} (o : Option X) → is_some o ≡ false → o ≡ None
  is_none None e = refl
  is_none (Some x) e = cc

  pub bad_told : (end : IsEnd xs root worth t a.row) → AsksWhole a → is_some (whole_of worth xs end.end) ≡ false → IsLeast (IsBadEnd xs worth t a) (Some a.at)
  bad_told end asks e = (record { end = end.end; asked = asks; row = end.row; not_whole = is_none (whole_of worth xs end.end) e; offset = refl }, λ p bad. let same = bad.offset in omega (arith, same))

  pub good_told : (end : IsEnd xs root worth t a.row) → is_some (whole_of worth xs end.end) ≡ true → (p : ℕ) → IsBadEnd xs worth t a p → ⊥
  good_told end e p bad = true≢false (sym e ∙ ap (λ x. is_some (whole_of worth xs x)) (one a.row end.end bad.end end.row bad.row) ∙ ap is_some bad.not_whole)
