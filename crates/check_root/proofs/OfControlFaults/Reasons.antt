-- What is wrong is as the faults say.
use Rattle.std.proofs.Common.{◌≡◌, Bool, true, false, ◌⊎◌, inl, inr, Option, Some, None, is_some, refl, sym, ap, ◌∙◌, true≢false, if◌then◌else◌}
use Rattle.std.specs.Prelude.{not, ◌||◌, Result, Ok, Err}
use Rattle.cddl_literal.specs.Numbers.{Meaning}
use Rattle.cddl_literal.specs.declared.operators.Fault.{Fault}
use Rattle.cddl_literal.specs.declared.operators.Fault.TheVariants.{LeftKind, NotUtf8, OutOfRange, RightKind}
use Rattle.cddl_language.specs.Controls.{Comparison, Computation, Membership, of_size, of_bits, is_ordering, join, sum}
use Rattle.cddl_language.specs.Faults.{is_operand}
use Rattle.cddl_language.specs.Literals.{computed_from, whole}
use Rattle.check_literals.specs.Literals.{computed_fault, fault_of}
use Rattle.check_reading.specs.declared.parts.part.Question.TheVariants as QuestionV
use Rattle.check_reading.specs.Parts.{comparand_question, members_question, operand_question}
use Rattle.check_root.specs.ControlFaults.Controllers.{is_bad_controller, is_not_utf8, is_out_of_range, is_wrong_literal}

opposite : (b : Bool) → not b ≡ true → b ≡ false
opposite true e = absurd (true≢false (sym e))
opposite false e = refl

none_there : {X : Type 0} (o : Option X) → not (is_some o) ≡ true → o ≡ None
none_there None e = refl
none_there (Some x) e = absurd (true≢false (sym e))

-- What items are compared with.

pub no_literal : (c : Comparison) (m : Option Meaning) → is_wrong_literal (comparand_question c) m ≡ true → m ≡ None
no_literal c m e = by (is_ordering c) e
  where
    by : (b : Bool) → is_wrong_literal (if b then QuestionV.IsNumber else QuestionV.IsLiteral) m ≡ true → m ≡ None
    by true g = none_there m g
    by false g = none_there m g

pub none_wrong : (c : Comparison) (m : Option Meaning) → m ≡ None → is_wrong_literal (comparand_question c) m ≡ true
none_wrong c m e = by (is_ordering c)
  where
    by : (b : Bool) → is_wrong_literal (if b then QuestionV.IsNumber else QuestionV.IsLiteral) m ≡ true
    by true = ap (λ o. not (is_some o)) e
    by false = ap (λ o. not (is_some o)) e

not_whole : (m : Option Meaning) (z : Bool) → is_bad_controller QuestionV.IsNumber m z ≡ true → (v : Meaning) × (m ≡ Some v) × (whole (Some v) ≡ None)
not_whole None z e = absurd (true≢false (sym e))
not_whole (Some v) z e = (v, refl, none_there (whole (Some v)) e)

pub no_number : (c : Comparison) (m : Option Meaning) (z : Bool) → is_bad_controller (comparand_question c) m z ≡ true → (v : Meaning) × (is_ordering c ≡ true) × (m ≡ Some v) × (whole (Some v) ≡ None)
no_number c m z e = by (is_ordering c) refl e
  where
    by : (b : Bool) → is_ordering c ≡ b → is_bad_controller (if b then QuestionV.IsNumber else QuestionV.IsLiteral) m z ≡ true → (v : Meaning) × (is_ordering c ≡ true) × (m ≡ Some v) × (whole (Some v) ≡ None)
    by true o g = let v = not_whole m z g in (v.0, o, v.1, v.2)
    by false o g = absurd (true≢false (sym g))

pub number_wrong : (c : Comparison) (m : Option Meaning) (z : Bool) (v : Meaning) → is_ordering c ≡ true → m ≡ Some v → whole (Some v) ≡ None → is_bad_controller (comparand_question c) m z ≡ true
number_wrong c m z v o e h = ap (λ b. is_bad_controller (if b then QuestionV.IsNumber else QuestionV.IsLiteral) m z) o ∙ ap (λ n. is_bad_controller QuestionV.IsNumber n z) e ∙ ap (λ w. not (is_some w)) h

-- Controllers with members.

pub no_members : (k : Membership) (m : Option Meaning) {X : Type 0} (o : Option X) → is_bad_controller (members_question k) m (is_some o) ≡ true → o ≡ None
no_members of_size m o e = none_there o e
no_members of_bits m o e = none_there o e

pub members_wrong : (k : Membership) (m : Option Meaning) {X : Type 0} (o : Option X) → o ≡ None → is_bad_controller (members_question k) m (is_some o) ≡ true
members_wrong of_size m o e = ap (λ p. not (is_some p)) e
members_wrong of_bits m o e = ap (λ p. not (is_some p)) e

pub no_bad_members : (k : Membership) (m : Option Meaning) → is_wrong_literal (members_question k) m ≡ true → ⊥
no_bad_members of_size m e = true≢false (sym e)
no_bad_members of_bits m e = true≢false (sym e)

-- Operands of computations.

asks_operand : (c : Computation) (m : Option Meaning) → is_wrong_literal (operand_question c) m ≡ not (is_operand c m)
asks_operand sum m = refl
asks_operand (join j) None = refl
asks_operand (join j) (Some v) = refl

pub no_operand : (c : Computation) (m : Option Meaning) → is_wrong_literal (operand_question c) m ≡ true → is_operand c m ≡ false
no_operand c m e = opposite (is_operand c m) (sym (asks_operand c m) ∙ e)

pub operand_wrong : (c : Computation) (m : Option Meaning) → is_operand c m ≡ false → is_wrong_literal (operand_question c) m ≡ true
operand_wrong c m e = asks_operand c m ∙ ap not e

pub no_bad_operand : (c : Computation) (m : Option Meaning) (z : Bool) → is_bad_controller (operand_question c) m z ≡ true → ⊥
no_bad_operand sum m z e = true≢false (sym e)
no_bad_operand (join j) m z e = true≢false (sym e)

-- Whole computations.

out_of_range_there : (o : Option Fault) → is_out_of_range o ≡ true → o ≡ Some OutOfRange
out_of_range_there None e = absurd (true≢false (sym e))
out_of_range_there (Some LeftKind) e = absurd (true≢false (sym e))
out_of_range_there (Some RightKind) e = absurd (true≢false (sym e))
out_of_range_there (Some OutOfRange) e = refl
out_of_range_there (Some NotUtf8) e = absurd (true≢false (sym e))

not_utf8_there : (o : Option Fault) → is_not_utf8 o ≡ true → o ≡ Some NotUtf8
not_utf8_there None e = absurd (true≢false (sym e))
not_utf8_there (Some LeftKind) e = absurd (true≢false (sym e))
not_utf8_there (Some RightKind) e = absurd (true≢false (sym e))
not_utf8_there (Some OutOfRange) e = absurd (true≢false (sym e))
not_utf8_there (Some NotUtf8) e = refl

-- both sides are literals, which make none for this reason
pub record FailsSo (c : Computation) (m n : Option Meaning) (f : Fault) : Type 0 where
  pub left : Meaning
  pub right : Meaning
  pub is_left : m ≡ Some left
  pub is_right : n ≡ Some right
  pub fails : computed_from c left right ≡ Err f

error_in : (r : Result Meaning Fault) (f : Fault) → fault_of r ≡ Some f → r ≡ Err f
error_in (Ok v) f e = cc
error_in (Err g) f e = cc

fails_so : (c : Computation) (m n : Option Meaning) (f : Fault) → computed_fault c m n ≡ Some f → FailsSo c m n f
fails_so c None n f e = cc
fails_so c (Some u) None f e = cc
fails_so c (Some u) (Some v) f e = record { left = u; right = v; is_left = refl; is_right = refl; fails = error_in (computed_from c u v) f e }

pub fault_there : (c : Computation) (m n : Option Meaning) (u v : Meaning) (f : Fault) → m ≡ Some u → n ≡ Some v → computed_from c u v ≡ Err f → computed_fault c m n ≡ Some f
fault_there c m n u v f e g h = ap (λ o. computed_fault c o n) e ∙ ap (computed_fault c (Some u)) g ∙ ap fault_of h

pub no_sum : (c : Computation) (m n : Option Meaning) → (not (is_operand c n) || is_out_of_range (computed_fault c m n)) ≡ true → (is_operand c n ≡ false) ⊎ FailsSo c m n OutOfRange
no_sum c m n e = by (is_operand c n) refl e
  where
    by : (b : Bool) → is_operand c n ≡ b → (not b || is_out_of_range (computed_fault c m n)) ≡ true → (is_operand c n ≡ false) ⊎ FailsSo c m n OutOfRange
    by true o g = inr (fails_so c m n OutOfRange (out_of_range_there (computed_fault c m n) g))
    by false o g = inl o

pub right_wrong : (c : Computation) (m n : Option Meaning) → is_operand c n ≡ false → (not (is_operand c n) || is_out_of_range (computed_fault c m n)) ≡ true
right_wrong c m n e = ap (λ b. not b || is_out_of_range (computed_fault c m n)) e

pub sum_wrong : (c : Computation) (m n : Option Meaning) → computed_fault c m n ≡ Some OutOfRange → (not (is_operand c n) || is_out_of_range (computed_fault c m n)) ≡ true
sum_wrong c m n e = ap (λ o. not (is_operand c n) || is_out_of_range o) e ∙ by (not (is_operand c n))
  where
    by : (b : Bool) → (b || true) ≡ true
    by true = refl
    by false = refl

pub no_text : (c : Computation) (m n : Option Meaning) → is_not_utf8 (computed_fault c m n) ≡ true → FailsSo c m n NotUtf8
no_text c m n e = fails_so c m n NotUtf8 (not_utf8_there (computed_fault c m n) e)
