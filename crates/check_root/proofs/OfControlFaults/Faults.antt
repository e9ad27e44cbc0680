-- What is told of the rows that were asked of is told of the sides of the controls that are reached.
use Rattle.std.proofs.Common.{◌≡◌, ℕ, Bool, true, false, if◌then◌else◌, ◌⊎◌, inl, inr, Option, Some, List, is_some, refl, sym, ap, ◌∙◌, true≢false}
use Rattle.std.specs.Borrow.{Bor}
use Rattle.check_literals.specs.declared.sizes.known.Controllers.{Controllers}
use Rattle.std.specs.List.{Contains}
use Rattle.std.proofs.lemmas.List.Elements.{Contains-append_cases}
use Rattle.cddl_literal.specs.declared.operators.Fault.TheVariants.{NotUtf8, OutOfRange}
use Rattle.tree_nodes.specs.Syntax.Syntax as S
use Rattle.cddl_language.specs.Controls.{Comparison, Computation, Membership, of_size, of_bits, is_ordering, join, sum}
use Rattle.cddl_language.specs.Faults as F
use Rattle.cddl_language.specs.Faults.{HasBadController, HasNotLiteral, Specification, comparison_of, computation_of, definitions, is_operand, literal_there, members_there, membership_of, operand_at, rules}
use Rattle.cddl_language.specs.Literals.{Values, literal_of}
use Rattle.cddl_language.specs.Reach.{Point, Reaches, points, ref_at}
use Rattle.cddl_language.specs.Reading.{control_name, operation, parameters_in, term_of2}
use Rattle.cddl_language.specs.Sites.{IsReached, an_operation}
use Rattle.cddl_language.specs.Sizes.{members_of}
use Rattle.cddl_language.specs.Substitution.{fill}
use Rattle.cddl_language.specs.Terms.{Term, Text}
use Rattle.check_terms.specs.Table.{Table}
use Rattle.check_terms.specs.Trees.{IsTerm, term_tree}
use Rattle.cddl_language.specs.Written.Written.{AllIn, IsMeant}
use Rattle.check_literals.specs.Literals.{IsKnown, computed_fault}
use Rattle.check_reached.specs.declared.asked.Asked.{Asked}
use Rattle.check_reading.specs.declared.parts.part.Question.{Question}
use Rattle.check_reading.specs.declared.parts.part.Question.TheVariants as QuestionV
use Rattle.check_reached.specs.Asked as A
use Rattle.check_reached.specs.Asked.{AreAsked, IsAsked, WasAsked}
use Rattle.check_reading.specs.Parts.{comparand_question, members_question, operand_question}
use Rattle.lists.specs.Least.{IsLeast}
use Rattle.lists.proofs.Lemmas.{same_least as alike}
use Rattle.all_offsets.specs.Offsets.{AreOffsets, IsAmong}
use Rattle.all_offsets.proofs.Lemmas.{same_offsets}
use Rattle.check_root.proofs.OfRangeFaults.Lemmas.{OneTerm}
use Rattle.check_root.specs.ControlFaults.Controllers.{AreThere, IsComputed, IsThere, IsWrong, is_asked, is_not_utf8, is_wrong, is_wrong_by, is_wrong_computation, is_wrong_computed, is_wrong_type}
use Rattle.check_root.specs.declared.control_faults.controllers.Wrong.{Wrong}
use Rattle.check_root.specs.declared.control_faults.controllers.Wrong.TheVariants as WrongV
use Rattle.check_root.proofs.OfControlFaults.Rows.{other_term}
use Rattle.check_root.proofs.OfControlFaults.Reasons.{fault_there, members_wrong, no_bad_members, no_bad_operand, no_literal, no_members, no_number, no_operand, no_sum, no_text, none_wrong, number_wrong, operand_wrong, right_wrong, sum_wrong, FailsSo}

-- The laws of what is reached, and of what is written there.
pub record Laws (s : Specification) (worth : Values) (root : Text) : Type 0 where
  pub first : (r : S.Rule) (xs : List Term) (x y : S.Type2) (o : S.Operator) (p : Point) → IsReached (rules s) root r xs (an_operation x o y) → Contains (points (fill (parameters_in r) xs (term_of2 x))) p → Reaches (definitions s) root (ref_at p)
  pub last : (r : S.Rule) (xs : List Term) (x y : S.Type2) (o : S.Operator) (p : Point) → IsReached (rules s) root r xs (an_operation x o y) → Contains (points (fill (parameters_in r) xs (term_of2 y))) p → Reaches (definitions s) root (ref_at p)
  pub first_values : (r : S.Rule) (xs : List Term) (x y : S.Type2) (o : S.Operator) → IsReached (rules s) root r xs (an_operation x o y) → AllIn (IsMeant worth) (fill (parameters_in r) xs (term_of2 x))
  pub last_values : (r : S.Rule) (xs : List Term) (x y : S.Type2) (o : S.Operator) → IsReached (rules s) root r xs (an_operation x o y) → AllIn (IsMeant worth) (fill (parameters_in r) xs (term_of2 y))

-- with the arguments of an instance in it, an operation that computes is one that computes
filled_computation : (ps : List Text) (xs : List Term) (a b : Term) (o : S.Operator) (c : Computation) → computation_of o ≡ Some c → IsComputed (fill ps xs (operation a o b))
filled_computation ps xs a b (S.range u) c e = cc
filled_computation ps xs a b (S.range_below u) c e = cc
filled_computation ps xs a b (S.control u) c e = record { left = fill ps xs a; name = control_name u; right = fill ps xs b; computation = c; same = refl; computes = e }

module _ (s : Specification) (worth : Values) (root : Text) (laws : Laws s worth root) (r : S.Rule) (xs : List Term) (x y : S.Type2) (o : S.Operator) (h : IsReached (rules s) root r xs (an_operation x o y)) where
  known_left : IsKnown (definitions s) root worth (fill (parameters_in r) xs (term_of2 x))
  known_left = (λ p k. laws.first r xs x y o p h k, laws.first_values r xs x y o h)

  known_right : IsKnown (definitions s) root worth (fill (parameters_in r) xs (term_of2 y))
  known_right = (λ p k. laws.last r xs x y o p h k, laws.last_values r xs x y o h)

  -- all that is known of both sides is known of both together
  both_known : (a b : Term) (q : S.Operator) → IsKnown (definitions s) root worth (fill (parameters_in r) xs a) → IsKnown (definitions s) root worth (fill (parameters_in r) xs b) → IsKnown (definitions s) root worth (fill (parameters_in r) xs (operation a q b))
  both_known a b q j k = by q
    where
      there : (p : Point) → Contains (points (fill (parameters_in r) xs a)) p ⊎ Contains (points (fill (parameters_in r) xs b)) p → Reaches (definitions s) root (ref_at p)
      there p (inl m) = j.0 p m
      there p (inr m) = k.0 p m

      by : (q : S.Operator) → IsKnown (definitions s) root worth (fill (parameters_in r) xs (operation a q b))
      by (S.range u) = (λ p m. there p (Contains-append_cases (points (fill (parameters_in r) xs a)) (points (fill (parameters_in r) xs b)) p m), (j.1, k.1))
      by (S.range_below u) = (λ p m. there p (Contains-append_cases (points (fill (parameters_in r) xs a)) (points (fill (parameters_in r) xs b)) p m), (j.1, k.1))
      by (S.control u) = (λ p m. there p (Contains-append_cases (points (fill (parameters_in r) xs a)) (points (fill (parameters_in r) xs b)) p m), (j.1, k.1))

  known_operation : IsKnown (definitions s) root worth (fill (parameters_in r) xs (operation (term_of2 x) o (term_of2 y)))
  known_operation = both_known (term_of2 x) (term_of2 y) o known_left known_right

no_computation : (c : Comparison) → comparand_question c ≡ QuestionV.Computes → ⊥
no_computation c e = by (is_ordering c) e
  where
    by : (b : Bool) → (if b then QuestionV.IsNumber else QuestionV.IsLiteral) ≡ QuestionV.Computes → ⊥
    by true g = cc
    by false g = cc

no_whole : (c : Computation) → operand_question c ≡ QuestionV.Computes → ⊥
no_whole sum e = cc
no_whole (join j) e = cc

no_members_question : (m : Membership) → members_question m ≡ QuestionV.Computes → ⊥
no_members_question of_size e = cc
no_members_question of_bits e = cc

module _ (s : Specification) (worth : Values) (root : Text) (t : Table) (laws : Laws s worth root) where
  other : (a : Asked) (q : Question) → a.question ≡ q → is_asked q ≡ false → is_asked a.question ≡ true → ⊥
  other a q e none asks = true≢false (sym asks ∙ ap is_asked e ∙ none)

  -- the row of what is asked of
  there : (a : Asked) → IsAsked (rules s) root t a → is_asked a.question ≡ true → IsThere (definitions s) root worth t a
  there a (A.choosing h is e q) asks = absurd (other a QuestionV.ChoosesFrom q refl asks)
  there a (A.choosing_by_name h is e q) asks = absurd (other a QuestionV.ChoosesByName q refl asks)
  there a (A.first_end h z is e q) asks = absurd (other a QuestionV.IsWhole q refl asks)
  there a (A.last_end h z is e q) asks = absurd (other a QuestionV.IsWhole q refl asks)
  there a (A.of_map h is e q) asks = absurd (other a QuestionV.MapGroup q refl asks)
  there a (A.controller {r = r} {xs = xs} {x = x} {y = y} {o = o} {c = c} h z is e q) asks = record { term = fill (parameters_in r) xs (term_of2 y); row = is; known = known_right s worth root laws r xs x y o h; computed = λ g. absurd (no_computation c (sym q ∙ g)) }
  there a (A.members_controller {r = r} {xs = xs} {x = x} {y = y} {o = o} {m = m} h z is e q) asks = record { term = fill (parameters_in r) xs (term_of2 y); row = is; known = known_right s worth root laws r xs x y o h; computed = λ g. absurd (no_members_question m (sym q ∙ g)) }
  there a (A.left_operand {r = r} {xs = xs} {x = x} {y = y} {o = o} {c = c} h z is e q) asks = record { term = fill (parameters_in r) xs (term_of2 x); row = is; known = known_left s worth root laws r xs x y o h; computed = λ g. absurd (no_whole c (sym q ∙ g)) }
  there a (A.computation {r = r} {xs = xs} {x = x} {y = y} {o = o} {c = c} h z is e q) asks = record { term = fill (parameters_in r) xs (operation (term_of2 x) o (term_of2 y)); row = is; known = known_operation s worth root laws r xs x y o h; computed = λ g. filled_computation (parameters_in r) xs (term_of2 x) (term_of2 y) o c z }

  pub all_there : (asked : List Asked) → AreAsked (rules s) root t asked → AreThere (definitions s) root worth t asked
  all_there asked are a c asks = there a (are.sound a c) asks

-- A side of a control that is reached, or a whole control, of which it is asked and with which it is wrong.
pub data IsAt (s : Specification) (worth : Values) (root : Text) (w : Wrong) (at : ℕ) : Type 0 where
  at_controller : {r : S.Rule} {xs : List Term} {x y : S.Type2} {o : S.Operator} {c : Comparison} → IsReached (rules s) root r xs (an_operation x o y) → comparison_of o ≡ Some c → is_wrong_type w (comparand_question c) (literal_there s worth r xs y) (is_some (members_there s worth r xs of_size y)) ≡ true → at ≡ operand_at y → IsAt s worth root w at
  at_members : {r : S.Rule} {xs : List Term} {x y : S.Type2} {o : S.Operator} {m : Membership} → IsReached (rules s) root r xs (an_operation x o y) → membership_of o ≡ Some m → is_wrong_type w (members_question m) (literal_there s worth r xs y) (is_some (members_there s worth r xs m y)) ≡ true → at ≡ operand_at y → IsAt s worth root w at
  at_operand : {r : S.Rule} {xs : List Term} {x y : S.Type2} {o : S.Operator} {c : Computation} → IsReached (rules s) root r xs (an_operation x o y) → computation_of o ≡ Some c → is_wrong_type w (operand_question c) (literal_there s worth r xs x) (is_some (members_there s worth r xs of_size x)) ≡ true → at ≡ operand_at x → IsAt s worth root w at
  at_computation : {r : S.Rule} {xs : List Term} {x y : S.Type2} {o : S.Operator} {c : Computation} → IsReached (rules s) root r xs (an_operation x o y) → computation_of o ≡ Some c → is_wrong_computation w c (literal_there s worth r xs y) (computed_fault c (literal_there s worth r xs x) (literal_there s worth r xs y)) ≡ true → at ≡ operand_at y → IsAt s worth root w at

-- What is wrong by the question, where the question is one of a type.
module _ (s : Specification) (worth : Values) (w : Wrong) (z : Term) where
  at_comparand : (c : Comparison) → is_wrong (definitions s) worth w (comparand_question c) z ≡ is_wrong_type w (comparand_question c) (literal_of worth (definitions s) z) (is_some (members_of of_size worth (definitions s) z))
  at_comparand c = by (is_ordering c)
    where
      by : (b : Bool) → is_wrong (definitions s) worth w (if b then QuestionV.IsNumber else QuestionV.IsLiteral) z ≡ is_wrong_type w (if b then QuestionV.IsNumber else QuestionV.IsLiteral) (literal_of worth (definitions s) z) (is_some (members_of of_size worth (definitions s) z))
      by true = refl
      by false = refl

  at_controller_of : (m : Membership) → is_wrong (definitions s) worth w (members_question m) z ≡ is_wrong_type w (members_question m) (literal_of worth (definitions s) z) (is_some (members_of m worth (definitions s) z))
  at_controller_of of_size = refl
  at_controller_of of_bits = refl

  at_side : (c : Computation) → is_wrong (definitions s) worth w (operand_question c) z ≡ is_wrong_type w (operand_question c) (literal_of worth (definitions s) z) (is_some (members_of of_size worth (definitions s) z))
  at_side sum = refl
  at_side (join j) = refl

-- what is wrong with a filled operation
at_whole : (s : Specification) (worth : Values) (w : Wrong) (ps : List Text) (xs : List Term) (a b : Term) (o : S.Operator) (c : Computation) → computation_of o ≡ Some c → is_wrong_computed (definitions s) worth w (fill ps xs (operation a o b)) ≡ is_wrong_by (definitions s) worth w (Some c) (fill ps xs a) (fill ps xs b)
at_whole s worth w ps xs a b (S.range u) c e = cc
at_whole s worth w ps xs a b (S.range_below u) c e = cc
at_whole s worth w ps xs a b (S.control u) c e = ap (λ k. is_wrong_by (definitions s) worth w k (fill ps xs a) (fill ps xs b)) e

module _ (s : Specification) (worth : Values) (root : Text) (t : Table) (w : Wrong) (asked : List Asked) (are : AreAsked (rules s) root t asked) where
  module _ (one : OneTerm t) where
    -- in the term that was asked of it is wrong, too
    wrong_there : (a : Asked) (at : ℕ) (q : Question) (z : Term) → a.question ≡ q → IsTerm t a.row z → IsWrong (definitions s) worth t w a at → is_wrong (definitions s) worth w q z ≡ true
    wrong_there a at q z e is bad = ap (λ p. is_wrong (definitions s) worth w p z) (sym e) ∙ ap (is_wrong (definitions s) worth w a.question) (one a.row z bad.term is bad.row) ∙ bad.wrong

    none_asked : (a : Asked) (at : ℕ) (q : Question) → a.question ≡ q → ((z : Term) → is_wrong (definitions s) worth w q z ≡ false) → IsWrong (definitions s) worth t w a at → IsAt s worth root w at
    none_asked a at q e none bad = absurd (true≢false (sym bad.wrong ∙ ap (λ p. is_wrong (definitions s) worth w p bad.term) e ∙ none bad.term))

    at_asked : (a : Asked) (at : ℕ) → IsAsked (rules s) root t a → IsWrong (definitions s) worth t w a at → IsAt s worth root w at
    at_asked a at (A.choosing h is e q) bad = none_asked a at QuestionV.ChoosesFrom q (λ z. other_term (definitions s) worth w QuestionV.ChoosesFrom z refl) bad
    at_asked a at (A.choosing_by_name h is e q) bad = none_asked a at QuestionV.ChoosesByName q (λ z. other_term (definitions s) worth w QuestionV.ChoosesByName z refl) bad
    at_asked a at (A.first_end h z is e q) bad = none_asked a at QuestionV.IsWhole q (λ z. other_term (definitions s) worth w QuestionV.IsWhole z refl) bad
    at_asked a at (A.last_end h z is e q) bad = none_asked a at QuestionV.IsWhole q (λ z. other_term (definitions s) worth w QuestionV.IsWhole z refl) bad
    at_asked a at (A.of_map h is e q) bad = none_asked a at QuestionV.MapGroup q (λ z. other_term (definitions s) worth w QuestionV.MapGroup z refl) bad
    at_asked a at (A.controller {r = r} {xs = xs} {x = x} {y = y} {o = o} {c = c} h z is e q) bad =
        let v = fill (parameters_in r) xs (term_of2 y) in
        at_controller {r = r} {xs = xs} {x = x} {y = y} {o = o} {c = c} h z (sym (at_comparand s worth w v c) ∙ wrong_there a at (comparand_question c) v q is bad) (bad.offset ∙ e)
    at_asked a at (A.members_controller {r = r} {xs = xs} {x = x} {y = y} {o = o} {m = m} h z is e q) bad =
        let v = fill (parameters_in r) xs (term_of2 y) in
        at_members {r = r} {xs = xs} {x = x} {y = y} {o = o} {m = m} h z (sym (at_controller_of s worth w v m) ∙ wrong_there a at (members_question m) v q is bad) (bad.offset ∙ e)
    at_asked a at (A.left_operand {r = r} {xs = xs} {x = x} {y = y} {o = o} {c = c} h z is e q) bad =
        let v = fill (parameters_in r) xs (term_of2 x) in
        at_operand {r = r} {xs = xs} {x = x} {y = y} {o = o} {c = c} h z (sym (at_side s worth w v c) ∙ wrong_there a at (operand_question c) v q is bad) (bad.offset ∙ e)
    at_asked a at (A.computation {r = r} {xs = xs} {x = x} {y = y} {o = o} {c = c} h z is e q) bad = at_computation {r = r} {xs = xs} {x = x} {y = y} {o = o} {c = c} h z (sym (at_whole s worth w (parameters_in r) xs (term_of2 x) (term_of2 y) o c z) ∙ wrong_there a at QuestionV.Computes (fill (parameters_in r) xs (operation (term_of2 x) o (term_of2 y))) q is bad) (bad.offset ∙ e)

    pub told_at : (at : ℕ) → IsAmong (IsWrong (definitions s) worth t w) asked at → IsAt s worth root w at
    told_at at k = at_asked k.one at (are.sound k.one k.present) k.told

  -- an answer to a question of this term, with which it is wrong
  among : (at place : ℕ) (q : Question) (z : Term) → WasAsked (rules s) root t asked place q (term_tree z) → is_wrong (definitions s) worth w q z ≡ true → at ≡ place → IsAmong (IsWrong (definitions s) worth t w) asked at
  among at place q z was bad e = record { one = was.asked; present = was.contained; told = record { term = z; row = was.holds; wrong = ap (λ p. is_wrong (definitions s) worth w p z) was.same_question ∙ bad; offset = e ∙ sym was.same_at } }

  pub at_told : (at : ℕ) → IsAt s worth root w at → IsAmong (IsWrong (definitions s) worth t w) asked at
  at_told at (at_controller {r = r} {xs = xs} {x = x} {y = y} {o = o} {c = c} h z wrong e) = let v = fill (parameters_in r) xs (term_of2 y) in among at (operand_at y) (comparand_question c) v (are.controllers r xs x y o c h z) (at_comparand s worth w v c ∙ wrong) e
  at_told at (at_members {r = r} {xs = xs} {x = x} {y = y} {o = o} {m = m} h z wrong e) = let v = fill (parameters_in r) xs (term_of2 y) in among at (operand_at y) (members_question m) v (are.members_controllers r xs x y o m h z) (at_controller_of s worth w v m ∙ wrong) e
  at_told at (at_operand {r = r} {xs = xs} {x = x} {y = y} {o = o} {c = c} h z wrong e) = let v = fill (parameters_in r) xs (term_of2 x) in among at (operand_at x) (operand_question c) v (are.left_operands r xs x y o c h z) (at_side s worth w v c ∙ wrong) e
  at_told at (at_computation {r = r} {xs = xs} {x = x} {y = y} {o = o} {c = c} h z wrong e) = among at (operand_at y) QuestionV.Computes (fill (parameters_in r) xs (operation (term_of2 x) o (term_of2 y))) (are.computations r xs x y o c h z) (at_whole s worth w (parameters_in r) xs (term_of2 x) (term_of2 y) o c z ∙ wrong) e

-- The faults are these.

module _ (s : Specification) (worth : Values) (root : Text) where
  not_literal_at : (at : ℕ) → IsAt s worth root WrongV.NotLiteral at → HasNotLiteral s worth root at
  not_literal_at at (at_controller {r = r} {xs = xs} {x = x} {y = y} {o = o} {c = c} h z wrong e) = F.comparand {r = r} {xs = xs} {x = x} {y = y} {o = o} {c = c} h z (no_literal c (literal_there s worth r xs y) wrong) e
  not_literal_at at (at_members {r = r} {xs = xs} {y = y} {m = m} h z wrong e) = absurd (no_bad_members m (literal_there s worth r xs y) wrong)
  not_literal_at at (at_operand {r = r} {xs = xs} {x = x} {y = y} {o = o} {c = c} h z wrong e) = F.left_operand {r = r} {xs = xs} {x = x} {y = y} {o = o} {c = c} h z (no_operand c (literal_there s worth r xs x) wrong) e
  not_literal_at at (at_computation {r = r} {xs = xs} {x = x} {y = y} {o = o} {c = c} h z wrong e) = by (no_sum c (literal_there s worth r xs x) (literal_there s worth r xs y) wrong)
    where
      by : (is_operand c (literal_there s worth r xs y) ≡ false) ⊎ FailsSo c (literal_there s worth r xs x) (literal_there s worth r xs y) OutOfRange → HasNotLiteral s worth root at
      by (inl g) = F.right_operand {r = r} {xs = xs} {x = x} {y = y} {o = o} {c = c} h z g e
      by (inr g) = F.out_of_range {r = r} {xs = xs} {x = x} {y = y} {o = o} {c = c} {u = g.left} {v = g.right} h z g.is_left g.is_right g.fails e

  at_not_literal : (at : ℕ) → HasNotLiteral s worth root at → IsAt s worth root WrongV.NotLiteral at
  at_not_literal at (F.comparand {r = r} {xs = xs} {x = x} {y = y} {o = o} {c = c} h z none e) = at_controller {r = r} {xs = xs} {x = x} {y = y} {o = o} {c = c} h z (none_wrong c (literal_there s worth r xs y) none) e
  at_not_literal at (F.left_operand {r = r} {xs = xs} {x = x} {y = y} {o = o} {c = c} h z none e) = at_operand {r = r} {xs = xs} {x = x} {y = y} {o = o} {c = c} h z (operand_wrong c (literal_there s worth r xs x) none) e
  at_not_literal at (F.right_operand {r = r} {xs = xs} {x = x} {y = y} {o = o} {c = c} h z none e) = at_computation {r = r} {xs = xs} {x = x} {y = y} {o = o} {c = c} h z (right_wrong c (literal_there s worth r xs x) (literal_there s worth r xs y) none) e
  at_not_literal at (F.out_of_range {r = r} {xs = xs} {x = x} {y = y} {o = o} {c = c} {u = u} {v = v} h z left right fails e) = at_computation {r = r} {xs = xs} {x = x} {y = y} {o = o} {c = c} h z (sum_wrong c (literal_there s worth r xs x) (literal_there s worth r xs y) (fault_there c (literal_there s worth r xs x) (literal_there s worth r xs y) u v OutOfRange left right fails)) e

  module _ (b : Bor Controllers) where
    bad_controller_at : (at : ℕ) → IsAt s worth root (WrongV.BadController b) at → HasBadController s worth root at
    bad_controller_at at (at_controller {r = r} {xs = xs} {x = x} {y = y} {o = o} {c = c} h z wrong e) =
        let v = no_number c (literal_there s worth r xs y) (is_some (members_there s worth r xs of_size y)) wrong in
        F.no_number {r = r} {xs = xs} {x = x} {y = y} {o = o} {c = c} {v = v.0} h z v.1 v.2 v.3 e
    bad_controller_at at (at_members {r = r} {xs = xs} {x = x} {y = y} {o = o} {m = m} h z wrong e) = F.no_members {r = r} {xs = xs} {x = x} {y = y} {o = o} {m = m} h z (no_members m (literal_there s worth r xs y) (members_there s worth r xs m y) wrong) e
    bad_controller_at at (at_operand {r = r} {xs = xs} {x = x} {y = y} {o = o} {c = c} h z wrong e) = absurd (no_bad_operand c (literal_there s worth r xs x) (is_some (members_there s worth r xs of_size x)) wrong)
    bad_controller_at at (at_computation {r = r} {xs = xs} {x = x} {y = y} {o = o} {c = c} h z wrong e) =
        let g = no_text c (literal_there s worth r xs x) (literal_there s worth r xs y) wrong in
        F.not_utf8 {r = r} {xs = xs} {x = x} {y = y} {o = o} {c = c} {u = g.left} {v = g.right} h z g.is_left g.is_right g.fails e

    at_bad_controller : (at : ℕ) → HasBadController s worth root at → IsAt s worth root (WrongV.BadController b) at
    at_bad_controller at (F.no_number {r = r} {xs = xs} {x = x} {y = y} {o = o} {c = c} {v = v} h z g some none e) = at_controller {r = r} {xs = xs} {x = x} {y = y} {o = o} {c = c} h z (number_wrong c (literal_there s worth r xs y) (is_some (members_there s worth r xs of_size y)) v g some none) e
    at_bad_controller at (F.no_members {r = r} {xs = xs} {x = x} {y = y} {o = o} {m = m} h z none e) = at_members {r = r} {xs = xs} {x = x} {y = y} {o = o} {m = m} h z (members_wrong m (literal_there s worth r xs y) (members_there s worth r xs m y) none) e
    at_bad_controller at (F.not_utf8 {r = r} {xs = xs} {x = x} {y = y} {o = o} {c = c} {u = u} {v = v} h z left right fails e) = at_computation {r = r} {xs = xs} {x = x} {y = y} {o = o} {c = c} h z (ap is_not_utf8 (fault_there c (literal_there s worth r xs x) (literal_there s worth r xs y) u v NotUtf8 left right fails)) e

module _ (s : Specification) (worth : Values) (root : Text) (t : Table) (asked : List Asked) (are : AreAsked (rules s) root t asked) (one : OneTerm t) where
  -- all places at which it is wrong
  all_at : (w : Wrong) (offsets : List ℕ) → AreOffsets (IsAmong (IsWrong (definitions s) worth t w) asked) offsets → AreOffsets (IsAt s worth root w) offsets
  all_at w offsets h = same_offsets (IsAmong (IsWrong (definitions s) worth t w) asked) (IsAt s worth root w) offsets (told_at s worth root t w asked are one) (at_told s worth root t w asked are) h

  pub all_not_literal : (offsets : List ℕ) → AreOffsets (IsAmong (IsWrong (definitions s) worth t WrongV.NotLiteral) asked) offsets → AreOffsets (HasNotLiteral s worth root) offsets
  all_not_literal offsets h = same_offsets (IsAt s worth root WrongV.NotLiteral) (HasNotLiteral s worth root) offsets (not_literal_at s worth root) (at_not_literal s worth root) (all_at WrongV.NotLiteral offsets h)

  pub all_bad_controller : (b : Bor Controllers) (offsets : List ℕ) → AreOffsets (IsAmong (IsWrong (definitions s) worth t (WrongV.BadController b)) asked) offsets → AreOffsets (HasBadController s worth root) offsets
  all_bad_controller b offsets h = same_offsets (IsAt s worth root (WrongV.BadController b)) (HasBadController s worth root) offsets (bad_controller_at s worth root b) (at_bad_controller s worth root b) (all_at (WrongV.BadController b) offsets h)

module _ (s : Specification) (worth : Values) (root : Text) (t : Table) (asked : List Asked) (are : AreAsked (rules s) root t asked) (one : OneTerm t) (o : Option ℕ) where
  -- the least place at which it is wrong
  least_at : (w : Wrong) → IsLeast (IsAmong (IsWrong (definitions s) worth t w) asked) o → IsLeast (IsAt s worth root w) o
  least_at w h = alike (IsAmong (IsWrong (definitions s) worth t w) asked) (IsAt s worth root w) (told_at s worth root t w asked are one) (at_told s worth root t w asked are) o h

  pub least_not_literal : IsLeast (IsAmong (IsWrong (definitions s) worth t WrongV.NotLiteral) asked) o → IsLeast (HasNotLiteral s worth root) o
  least_not_literal h = alike (IsAt s worth root WrongV.NotLiteral) (HasNotLiteral s worth root) (not_literal_at s worth root) (at_not_literal s worth root) o (least_at WrongV.NotLiteral h)

  pub least_bad_controller : (b : Bor Controllers) → IsLeast (IsAmong (IsWrong (definitions s) worth t (WrongV.BadController b)) asked) o → IsLeast (HasBadController s worth root) o
  least_bad_controller b h = alike (IsAt s worth root (WrongV.BadController b)) (HasBadController s worth root) (bad_controller_at s worth root b) (at_bad_controller s worth root b) o (least_at (WrongV.BadController b) h)
