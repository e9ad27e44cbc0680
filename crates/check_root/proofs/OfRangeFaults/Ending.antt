-- What is told of the rows that were asked of is told of the ends of the ranges that are reached.
use Rattle.std.proofs.Common.{◌≡◌, ℕ, Bool, true, false, if◌then◌else◌, List, None, refl, sym, ap, subst, ◌∙◌, true≢false}
use Rattle.std.specs.List.{Contains}
use Rattle.tree_nodes.specs.Syntax.Syntax as S
use Rattle.cddl_language.specs.Controls.{Comparison, Computation, Membership, of_size, of_bits, is_ordering, join, sum}
use Rattle.cddl_language.specs.Faults.{IsNotWhole, Specification, definitions, is_range_sign, operand_at, rules}
use Rattle.cddl_language.specs.Literals.{Values, whole_of}
use Rattle.cddl_language.specs.Reach.{Point, Reaches, points, ref_at}
use Rattle.cddl_language.specs.Reading.{parameters_in, term_of2}
use Rattle.cddl_language.specs.Sites.{IsReached, an_operation}
use Rattle.cddl_language.specs.Substitution.{fill}
use Rattle.cddl_language.specs.Terms.{Term, Text}
use Rattle.cddl_language.specs.Written.Written.{AllIn, IsMeant}
use Rattle.check_terms.specs.Table.{Table}
use Rattle.check_terms.specs.Trees.{IsTerm}
use Rattle.check_reached.specs.declared.asked.Asked.{Asked}
use Rattle.check_reading.specs.declared.parts.part.Question.{Question}
use Rattle.check_reading.specs.declared.parts.part.Question.TheVariants as QuestionV
use Rattle.check_reached.specs.Asked as A
use Rattle.check_reached.specs.Asked.{AreAsked, IsAsked}
use Rattle.check_reading.specs.Parts.{comparand_question, members_question, operand_question}
use Rattle.check_root.specs.RangeFaults.Ends.{AreEnds, AsksWhole, IsBadEnd, IsEnd}
use Rattle.all_offsets.specs.Offsets.{IsAmong}
use Rattle.check_root.proofs.OfRangeFaults.Whole.{OneTerm}

-- a fault that is told at an end
pub data IsAtEnd (s : Specification) (worth : Values) (root : Text) (at : ℕ) : Type 0 where
  at_first_end : {r : S.Rule} {xs : List Term} {x y : S.Type2} {o : S.Operator} → IsReached (rules s) root r xs (an_operation x o y) → is_range_sign o ≡ true → IsNotWhole s worth r xs x → at ≡ operand_at x → IsAtEnd s worth root at
  at_last_end : {r : S.Rule} {xs : List Term} {x y : S.Type2} {o : S.Operator} → IsReached (rules s) root r xs (an_operation x o y) → is_range_sign o ≡ true → IsNotWhole s worth r xs y → at ≡ operand_at y → IsAtEnd s worth root at

-- The laws of what is reached, and of what is written there.
pub record Laws (s : Specification) (worth : Values) (root : Text) : Type 0 where
  pub first : (r : S.Rule) (xs : List Term) (x y : S.Type2) (o : S.Operator) (p : Point) → IsReached (rules s) root r xs (an_operation x o y) → Contains (points (fill (parameters_in r) xs (term_of2 x))) p → Reaches (definitions s) root (ref_at p)
  pub last : (r : S.Rule) (xs : List Term) (x y : S.Type2) (o : S.Operator) (p : Point) → IsReached (rules s) root r xs (an_operation x o y) → Contains (points (fill (parameters_in r) xs (term_of2 y))) p → Reaches (definitions s) root (ref_at p)
  pub first_values : (r : S.Rule) (xs : List Term) (x y : S.Type2) (o : S.Operator) → IsReached (rules s) root r xs (an_operation x o y) → AllIn (IsMeant worth) (fill (parameters_in r) xs (term_of2 x))
  pub last_values : (r : S.Rule) (xs : List Term) (x y : S.Type2) (o : S.Operator) → IsReached (rules s) root r xs (an_operation x o y) → AllIn (IsMeant worth) (fill (parameters_in r) xs (term_of2 y))

-- No other question is whether a type is a whole number: not that of a controller, nor that of an operand.

abbrev asks_whole : Question → Bool
asks_whole QuestionV.IsWhole = true
asks_whole _ = false

other : (q : Question) → asks_whole q ≡ false → q ≡ QuestionV.IsWhole → ⊥
other q e g = true≢false (sym (ap asks_whole g) ∙ e)

no_end : (c : Comparison) → comparand_question c ≡ QuestionV.IsWhole → ⊥
no_end c e = by (is_ordering c) e
  where
    by : (b : Bool) → (if b then QuestionV.IsNumber else QuestionV.IsLiteral) ≡ QuestionV.IsWhole → ⊥
    by true g = other QuestionV.IsNumber refl g
    by false g = other QuestionV.IsLiteral refl g

no_members : (m : Membership) → members_question m ≡ QuestionV.IsWhole → ⊥
no_members of_size e = other QuestionV.HasSizes refl e
no_members of_bits e = other QuestionV.HasBits refl e

no_operand : (c : Computation) → operand_question c ≡ QuestionV.IsWhole → ⊥
no_operand sum e = other QuestionV.IsAddend refl e
no_operand (join j) e = other QuestionV.IsString refl e

module _ (s : Specification) (worth : Values) (root : Text) (t : Table) (laws : Laws s worth root) where
  -- the row of an end
  end_there : (a : Asked) → IsAsked (rules s) root t a → AsksWhole a → IsEnd (definitions s) root worth t a.row
  end_there a (A.choosing h is e q) asks = absurd (other QuestionV.ChoosesFrom refl (sym q ∙ asks))
  end_there a (A.choosing_by_name h is e q) asks = absurd (other QuestionV.ChoosesByName refl (sym q ∙ asks))
  end_there a (A.of_map h is e q) asks = absurd (other QuestionV.MapGroup refl (sym q ∙ asks))
  end_there a (A.controller {c = c} h o is e q) asks = absurd (no_end c (sym q ∙ asks))
  end_there a (A.members_controller {m = m} h o is e q) asks = absurd (no_members m (sym q ∙ asks))
  end_there a (A.left_operand {c = c} h o is e q) asks = absurd (no_operand c (sym q ∙ asks))
  end_there a (A.computation h o is e q) asks = absurd (other QuestionV.Computes refl (sym q ∙ asks))
  end_there a (A.first_end {r = r} {xs = xs} {x = x} {y = y} {o = o} h z is e q) asks = record {
    end = fill (parameters_in r) xs (term_of2 x);
    row = is;
    known = (λ p c. laws.first r xs x y o p h c, laws.first_values r xs x y o h);
  }
  end_there a (A.last_end {r = r} {xs = xs} {x = x} {y = y} {o = o} h z is e q) asks = record {
    end = fill (parameters_in r) xs (term_of2 y);
    row = is;
    known = (λ p c. laws.last r xs x y o p h c, laws.last_values r xs x y o h);
  }

  module _ (asked : List Asked) (are : AreAsked (rules s) root t asked) where
    pub ends_there : AreEnds (definitions s) root worth t asked
    ends_there a c asks = end_there a (are.sound a c) asks

    module _ (one : OneTerm t) where
      same_whole : (n : ℕ) (x y : Term) → IsTerm t n x → IsTerm t n y → whole_of worth (definitions s) x ≡ None → whole_of worth (definitions s) y ≡ None
      same_whole n x y h k e = subst (λ z. whole_of worth (definitions s) z ≡ None) (one n x y h k) e

      at_asked : (a : Asked) (at : ℕ) → IsAsked (rules s) root t a → IsBadEnd (definitions s) worth t a at → IsAtEnd s worth root at
      at_asked a at (A.choosing h is e q) bad = absurd (other QuestionV.ChoosesFrom refl (sym q ∙ bad.asked))
      at_asked a at (A.choosing_by_name h is e q) bad = absurd (other QuestionV.ChoosesByName refl (sym q ∙ bad.asked))
      at_asked a at (A.of_map h is e q) bad = absurd (other QuestionV.MapGroup refl (sym q ∙ bad.asked))
      at_asked a at (A.controller {c = c} h e is at_start q) bad = absurd (no_end c (sym q ∙ bad.asked))
      at_asked a at (A.members_controller {m = m} h s is e q) bad = absurd (no_members m (sym q ∙ bad.asked))
      at_asked a at (A.left_operand {c = c} h s is e q) bad = absurd (no_operand c (sym q ∙ bad.asked))
      at_asked a at (A.computation h s is e q) bad = absurd (other QuestionV.Computes refl (sym q ∙ bad.asked))
      at_asked a at (A.first_end {r = r} {xs = xs} {x = x} {y = y} {o = o} h z is e q) bad = at_first_end {r = r} {xs = xs} {x = x} {y = y} {o = o} h z (same_whole a.row bad.end (fill (parameters_in r) xs (term_of2 x)) bad.row is bad.not_whole) (bad.offset ∙ e)
      at_asked a at (A.last_end {r = r} {xs = xs} {x = x} {y = y} {o = o} h z is e q) bad = at_last_end {r = r} {xs = xs} {x = x} {y = y} {o = o} h z (same_whole a.row bad.end (fill (parameters_in r) xs (term_of2 y)) bad.row is bad.not_whole) (bad.offset ∙ e)

      pub told_end : (at : ℕ) → IsAmong (IsBadEnd (definitions s) worth t) asked at → IsAtEnd s worth root at
      told_end at k = at_asked k.one at (are.sound k.one k.present) k.told

    pub end_told : (at : ℕ) → IsAtEnd s worth root at → IsAmong (IsBadEnd (definitions s) worth t) asked at
    end_told at (at_first_end {r = r} {xs = xs} {x = x} {y = y} {o = o} h z none e) =
        let w = are.first_ends r xs x y o h z in
        record { one = w.asked; present = w.contained; told = record { end = fill (parameters_in r) xs (term_of2 x); asked = w.same_question; row = w.holds; not_whole = none; offset = e ∙ sym w.same_at } }
    end_told at (at_last_end {r = r} {xs = xs} {x = x} {y = y} {o = o} h z none e) =
        let w = are.last_ends r xs x y o h z in
        record { one = w.asked; present = w.contained; told = record { end = fill (parameters_in r) xs (term_of2 y); asked = w.same_question; row = w.holds; not_whole = none; offset = e ∙ sym w.same_at } }
