-- What is told of one question, by its row.
use Rattle.std.proofs.Common.{◌≡◌, ℕ, Bool, true, false, Option, Some, List, is_some, refl, sym, ap, subst, ◌∙◌, arith, true≢false}
use Rattle.cddl_literal.specs.Numbers.{Meaning}
use Rattle.cddl_language.specs.Literals.{Values, literal_of}
use Rattle.cddl_language.specs.Controls.{of_size}
use Rattle.cddl_language.specs.Sizes.{members_of}
use Rattle.cddl_language.specs.Terms.{Definition, Term, Text}
use Rattle.check_terms.specs.Table.{Table}
use Rattle.check_terms.specs.Trees.{IsTerm}
use Rattle.check_literals.specs.declared.known.Literals.{Literals}
use Rattle.check_literals.specs.Literals.{AreLiterals, IsKnown, literal_at}
use Rattle.check_literals.specs.Sizes.Sizes.{flag_at, flags_of}
use Rattle.check_reached.specs.declared.asked.Asked.{Asked}
use Rattle.check_reading.specs.declared.parts.part.Question.{Question}
use Rattle.check_reading.specs.declared.parts.part.Question.TheVariants as QuestionV
use Rattle.lists.specs.Least.{IsLeast}
use Rattle.check_root.proofs.OfRangeFaults.Lemmas.{OneTerm}
use Rattle.check_root.specs.ControlFaults.Controllers.{AreFlags, IsComputed, IsThere, IsWrong, has_members, is_asked, is_bad_controller, is_wrong, is_wrong_computed, is_wrong_literal, is_wrong_row, is_wrong_type, membership_asked}
use Rattle.check_root.specs.declared.control_faults.controllers.Wrong.{Wrong}
use Rattle.check_root.specs.declared.control_faults.controllers.Wrong.TheVariants as WrongV
use Rattle.check_root.proofs.OfControlFaults.Computing.{control_told}

-- Nothing is wrong with what is asked otherwise.

other_type : (w : Wrong) (q : Question) (m : Option Meaning) (z : Bool) → is_wrong_literal q m ≡ false → is_bad_controller q m z ≡ false → is_wrong_type w q m z ≡ false
other_type WrongV.NotLiteral q m z e g = e
other_type (WrongV.BadController b) q m z e g = g

other_row : (t : Table) (ls : Literals) (w : Wrong) (q : Question) (n : ℕ) → is_asked q ≡ false → is_wrong_row t ls w q n ≡ false
other_row t ls w QuestionV.ChoosesFrom n e = other_type w QuestionV.ChoosesFrom (literal_at ls n) (has_members w QuestionV.ChoosesFrom n) refl refl
other_row t ls w QuestionV.ChoosesByName n e = other_type w QuestionV.ChoosesByName (literal_at ls n) (has_members w QuestionV.ChoosesByName n) refl refl
other_row t ls w QuestionV.IsWhole n e = other_type w QuestionV.IsWhole (literal_at ls n) (has_members w QuestionV.IsWhole n) refl refl
other_row t ls w QuestionV.MapGroup n e = other_type w QuestionV.MapGroup (literal_at ls n) (has_members w QuestionV.MapGroup n) refl refl
other_row t ls w (QuestionV.Entry h) n e = other_type w (QuestionV.Entry h) (literal_at ls n) (has_members w (QuestionV.Entry h) n) refl refl
other_row t ls w QuestionV.IsLiteral n e = absurd (true≢false e)
other_row t ls w QuestionV.IsNumber n e = absurd (true≢false e)
other_row t ls w QuestionV.HasSizes n e = absurd (true≢false e)
other_row t ls w QuestionV.HasBits n e = absurd (true≢false e)
other_row t ls w QuestionV.IsAddend n e = absurd (true≢false e)
other_row t ls w QuestionV.IsString n e = absurd (true≢false e)
other_row t ls w QuestionV.Computes n e = absurd (true≢false e)

module _ (xs : List Definition) (worth : Values) where
  pub other_term : (w : Wrong) (q : Question) (x : Term) → is_asked q ≡ false → is_wrong xs worth w q x ≡ false
  other_term w QuestionV.ChoosesFrom x e = other_type w QuestionV.ChoosesFrom (literal_of worth xs x) (is_some (members_of of_size worth xs x)) refl refl
  other_term w QuestionV.ChoosesByName x e = other_type w QuestionV.ChoosesByName (literal_of worth xs x) (is_some (members_of of_size worth xs x)) refl refl
  other_term w QuestionV.IsWhole x e = other_type w QuestionV.IsWhole (literal_of worth xs x) (is_some (members_of of_size worth xs x)) refl refl
  other_term w QuestionV.MapGroup x e = other_type w QuestionV.MapGroup (literal_of worth xs x) (is_some (members_of of_size worth xs x)) refl refl
  other_term w (QuestionV.Entry h) x e = other_type w (QuestionV.Entry h) (literal_of worth xs x) (is_some (members_of of_size worth xs x)) refl refl
  other_term w QuestionV.IsLiteral x e = absurd (true≢false e)
  other_term w QuestionV.IsNumber x e = absurd (true≢false e)
  other_term w QuestionV.HasSizes x e = absurd (true≢false e)
  other_term w QuestionV.HasBits x e = absurd (true≢false e)
  other_term w QuestionV.IsAddend x e = absurd (true≢false e)
  other_term w QuestionV.IsString x e = absurd (true≢false e)
  other_term w QuestionV.Computes x e = absurd (true≢false e)

module _ (xs : List Definition) (root : Text) (worth : Values) (t : Table) (ls : Literals) (literals : AreLiterals xs root worth t ls) where
  same_type : (w : Wrong) → AreFlags xs root worth t w → (q : Question) (n : ℕ) (x : Term) → IsTerm t n x → IsKnown xs root worth x → is_wrong_type w q (literal_at ls n) (has_members w q n) ≡ is_wrong_type w q (literal_of worth xs x) (is_some (members_of (membership_asked q) worth xs x))
  same_type WrongV.NotLiteral flags q n x h k = ap (is_wrong_literal q) (literals.values n x h k)
  same_type (WrongV.BadController b) flags q n x h k = ap (λ m. is_bad_controller q m (flag_at (flags_of b.now (membership_asked q)) n)) (literals.values n x h k) ∙ ap (is_bad_controller q (literal_of worth xs x)) (flags (membership_asked q) n x h k)

  same_computed : (w : Wrong) (n : ℕ) (x : Term) → IsTerm t n x → IsKnown xs root worth x → IsComputed x → is_wrong_row t ls w QuestionV.Computes n ≡ is_wrong_computed xs worth w x
  same_computed w n x h k c = control_told xs root worth t ls literals w n c.left c.right c.name c.computation (subst (IsTerm t n) c.same h) (subst (IsKnown xs root worth) c.same k) c.computes ∙ ap (is_wrong_computed xs worth w) (sym c.same)

  -- by the row, it is wrong where it is wrong with the type
  module _ (w : Wrong) (flags : AreFlags xs root worth t w) where
    same_row : (q : Question) (n : ℕ) (x : Term) → IsTerm t n x → IsKnown xs root worth x → (q ≡ QuestionV.Computes → IsComputed x) → is_wrong_row t ls w q n ≡ is_wrong xs worth w q x
    same_row QuestionV.ChoosesFrom n x h k c = same_type w flags QuestionV.ChoosesFrom n x h k
    same_row QuestionV.ChoosesByName n x h k c = same_type w flags QuestionV.ChoosesByName n x h k
    same_row QuestionV.IsWhole n x h k c = same_type w flags QuestionV.IsWhole n x h k
    same_row QuestionV.IsLiteral n x h k c = same_type w flags QuestionV.IsLiteral n x h k
    same_row QuestionV.IsNumber n x h k c = same_type w flags QuestionV.IsNumber n x h k
    same_row QuestionV.HasSizes n x h k c = same_type w flags QuestionV.HasSizes n x h k
    same_row QuestionV.HasBits n x h k c = same_type w flags QuestionV.HasBits n x h k
    same_row QuestionV.IsAddend n x h k c = same_type w flags QuestionV.IsAddend n x h k
    same_row QuestionV.IsString n x h k c = same_type w flags QuestionV.IsString n x h k
    same_row QuestionV.Computes n x h k c = same_computed w n x h k (c refl)
    same_row QuestionV.MapGroup n x h k c = same_type w flags QuestionV.MapGroup n x h k
    same_row (QuestionV.Entry e) n x h k c = same_type w flags (QuestionV.Entry e) n x h k

    module _ (a : Asked) (there : is_asked a.question ≡ true → IsThere xs root worth t a) where
      told : (k : IsThere xs root worth t a) → is_wrong_row t ls w a.question a.row ≡ is_wrong xs worth w a.question k.term
      told k = same_row a.question a.row k.term k.row k.known k.computed

      pub wrong_told : is_wrong_row t ls w a.question a.row ≡ true → IsLeast (IsWrong xs worth t w a) (Some a.at)
      wrong_told e = by (is_asked a.question) refl
        where
          by : (b : Bool) → is_asked a.question ≡ b → IsLeast (IsWrong xs worth t w a) (Some a.at)
          by true g = let k = there g in (record { term = k.term; row = k.row; wrong = sym (told k) ∙ e; offset = refl }, λ p bad. let same = bad.offset in omega (arith, same))
          by false g = absurd (true≢false (sym e ∙ other_row t ls w a.question a.row g))

      pub right_told : OneTerm t → is_wrong_row t ls w a.question a.row ≡ false → (p : ℕ) → IsWrong xs worth t w a p → ⊥
      right_told one e p bad = by (is_asked a.question) refl
        where
          by : (b : Bool) → is_asked a.question ≡ b → ⊥
          by true g = let k = there g in true≢false (sym bad.wrong ∙ ap (is_wrong xs worth w a.question) (one a.row bad.term k.term bad.row k.row) ∙ sym (told k) ∙ e)
          by false g = true≢false (sym bad.wrong ∙ other_term xs worth w a.question bad.term g)
