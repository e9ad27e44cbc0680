-- What is told of a specification is the same by each table of values that is right for it.
use Rattle.std.proofs.Common.{◌≡◌, ℕ, ◌<◌, ◌≤◌, List, Option, Some, None, refl, sym, ap, ◌∙◌, ⊎_elim, arith}
use Rattle.std.specs.Prelude.{Contains}
use Rattle.std.proofs.lemmas.Bool.{cases_lt}
use Rattle.cddl_token.specs.declared.Code.{Code}
use Rattle.cddl_token.specs.declared.Code.TheVariants.{Arity, BadController, BadRange, Duplicate, GroupAsType, NotLiteral}
use Rattle.tree_nodes.specs.Syntax.Syntax as S
use Rattle.tree_nodes.specs.Syntax.Syntax.{Cddl}
use Rattle.cddl_literal.specs.Literals.{IsBytes, IsText}
use Rattle.cddl_literal.specs.Numbers.{BytesOf, IsNumber, Meaning, TextOf}
use Rattle.cddl_language.specs.Controls.{Computation, Membership}
use Rattle.cddl_language.specs.Faults as F
use Rattle.cddl_language.specs.Faults.{HasBadController, HasBadRange, HasNotLiteral, IsAccepted, IsFaultAt, IsRefused, OfRoot, Specification, definitions, is_operand, literal_there, members_there, number_of, root_of, rules}
use Rattle.cddl_language.specs.Literals.{AreRight, Means, Values, whole}
use Rattle.cddl_language.specs.Live.Live.{IsClear}
use Rattle.cddl_language.specs.Reach.{Point, Reaches, points, ref_at}
use Rattle.cddl_language.specs.Reading.{definitions_in, parameters_in, rules_of, term_of2}
use Rattle.cddl_language.specs.Sites.{IsReached, an_operation}
use Rattle.cddl_language.specs.Substitution.{fill}
use Rattle.cddl_language.specs.Terms.{Definition, Literal, Term, Text, bytes, number, text}
use Rattle.cddl_language.specs.Written.Written.{AllIn, IsMeant}
use Rattle.cddl_decided.proofs.Clearing.{is_clear}
use Rattle.cddl_decided.proofs.Reached.{AreInstancesOn}
use Rattle.cddl_decided.proofs.Valued.{AreMeant, Good, MeansOne, literal_is, members_are}

-- the laws from which this follows

abbrev pub OneNumber : Type 0
OneNumber = (s : List ℕ) (a b : ℕ) (m n : Meaning) → IsNumber s a b m → IsNumber s a b n → n ≡ m

abbrev pub OneText : Type 0
OneText = (s : List ℕ) (a b c : ℕ) (v w : List ℕ) → IsText s a b v → IsText s a c w → (c ≡ b) × (w ≡ v)

abbrev pub OneByteString : Type 0
OneByteString = (s : List ℕ) (a b c : ℕ) (v w : List ℕ) → IsBytes s a b v → IsBytes s a c w → (c ≡ b) × (w ≡ v)

pub means_one : OneNumber → OneText → OneByteString → MeansOne
means_one numbers texts strings (number t) m n h k = sym (numbers t 0 _ m n h k)
means_one numbers texts strings (text t) m n h k = h.2 ∙ (ap TextOf (sym (texts t 0 _ _ h.0 k.0 h.1 k.1).1) ∙ sym k.2)
means_one numbers texts strings (bytes t) m n h k = h.2 ∙ (ap BytesOf (sym (strings t 0 _ _ h.0 k.0 h.1 k.1).1) ∙ sym k.2)

pub record AreMeantIn (x : Cddl) (worth : Values) : Type 0 where
  pub instances : (root : Text) → AreMeant (definitions_in (rules_of x)) root worth
  pub first : (root : Text) (r : S.Rule) (xs : List Term) (a b : S.Type2) (o : S.Operator) → IsReached (rules_of x) root r xs (an_operation a o b) → AllIn (IsMeant worth) (fill (parameters_in r) xs (term_of2 a))
  pub last : (root : Text) (r : S.Rule) (xs : List Term) (a b : S.Type2) (o : S.Operator) → IsReached (rules_of x) root r xs (an_operation a o b) → AllIn (IsMeant worth) (fill (parameters_in r) xs (term_of2 b))

pub record AreReachedIn (s : Specification) : Type 0 where
  pub on : (root : Text) → AreInstancesOn (definitions s) root
  pub first : (root : Text) → IsClear s → (r : S.Rule) (xs : List Term) (x y : S.Type2) (o : S.Operator) (p : Point) → IsReached (rules s) root r xs (an_operation x o y) → Contains (points (fill (parameters_in r) xs (term_of2 x))) p → Reaches (definitions s) root (ref_at p)
  pub last : (root : Text) → IsClear s → (r : S.Rule) (xs : List Term) (x y : S.Type2) (o : S.Operator) (p : Point) → IsReached (rules s) root r xs (an_operation x o y) → Contains (points (fill (parameters_in r) xs (term_of2 y))) p → Reaches (definitions s) root (ref_at p)

of_root : (o : Option Text) (P Q : Text → Type 0) → ((n : Text) → P n → Q n) → OfRoot o P → OfRoot o Q
of_root None P Q f h = absurd h
of_root (Some n) P Q f h = f n h

module _ (meant_one : MeansOne) (s : Specification) (reached : AreReachedIn s) (u w : Values) (by_u : AreMeantIn s.tree u) (by_w : AreMeantIn s.tree w) where
  module _ (clear : IsClear s) (root : Text) where
    module _ {r : S.Rule} {xs : List Term} {x y : S.Type2} {o : S.Operator} (h : IsReached (rules s) root r xs (an_operation x o y)) where
      first_good : Good u w (definitions s) root meant_one (reached.on root) (by_u.instances root) (by_w.instances root) (fill (parameters_in r) xs (term_of2 x))
      first_good = (by_u.first root r xs x y o h, by_w.first root r xs x y o h, λ p c. reached.first root clear r xs x y o p h c)

      last_good : Good u w (definitions s) root meant_one (reached.on root) (by_u.instances root) (by_w.instances root) (fill (parameters_in r) xs (term_of2 y))
      last_good = (by_u.last root r xs x y o h, by_w.last root r xs x y o h, λ p c. reached.last root clear r xs x y o p h c)

      first_same : literal_there s w r xs x ≡ literal_there s u r xs x
      first_same = sym (literal_is u w (definitions s) root meant_one (reached.on root) (by_u.instances root) (by_w.instances root) (fill (parameters_in r) xs (term_of2 x)) first_good)

      last_same : literal_there s w r xs y ≡ literal_there s u r xs y
      last_same = sym (literal_is u w (definitions s) root meant_one (reached.on root) (by_u.instances root) (by_w.instances root) (fill (parameters_in r) xs (term_of2 y)) last_good)

      members_same : (m : Membership) → members_there s w r xs m y ≡ members_there s u r xs m y
      members_same m = sym (members_are u w (definitions s) root meant_one (reached.on root) (by_u.instances root) (by_w.instances root) m (fill (parameters_in r) xs (term_of2 y)) last_good)

    not_literal : (p : ℕ) → HasNotLiteral s u root p → HasNotLiteral s w root p
    not_literal p (F.comparand h c e f) = F.comparand h c (last_same h ∙ e) f
    not_literal p (F.left_operand {c = k} h c e f) = F.left_operand h c (ap (λ v. is_operand k v) (first_same h) ∙ e) f
    not_literal p (F.right_operand {c = k} h c e f) = F.right_operand h c (ap (λ v. is_operand k v) (last_same h) ∙ e) f
    not_literal p (F.out_of_range h c e f g i) = F.out_of_range h c (first_same h ∙ e) (last_same h ∙ f) g i

    bad_controller : (p : ℕ) → HasBadController s u root p → HasBadController s w root p
    bad_controller p (F.no_number h c d e f g) = F.no_number h c d (last_same h ∙ e) f g
    bad_controller p (F.no_members {m = m} h c e f) = F.no_members h c (members_same h m ∙ e) f
    bad_controller p (F.not_utf8 h c e f g i) = F.not_utf8 h c (first_same h ∙ e) (last_same h ∙ f) g i

    bad_range : (p : ℕ) → HasBadRange s u root p → HasBadRange s w root p
    bad_range p (F.first_end h c e f) = F.first_end h c (ap whole (first_same h) ∙ e) f
    bad_range p (F.last_end h c e f) = F.last_end h c (ap whole (last_same h) ∙ e) f
    bad_range p (F.bounds h e f g) = F.bounds h e f g

  pub same_fault : IsClear s → (c : Code) (p : ℕ) → IsFaultAt s u c p → IsFaultAt s w c p
  same_fault clear NotLiteral p h = of_root (root_of s) (λ n. HasNotLiteral s u n p) (λ n. HasNotLiteral s w n p) (λ n k. not_literal clear n p k) h
  same_fault clear BadController p h = of_root (root_of s) (λ n. HasBadController s u n p) (λ n. HasBadController s w n p) (λ n k. bad_controller clear n p k) h
  same_fault clear BadRange p h = of_root (root_of s) (λ n. HasBadRange s u n p) (λ n. HasBadRange s w n p) (λ n k. bad_range clear n p k) h
  same_fault clear _ p h = h

-- what is wrong with the whole text speaks of no values
text_fault : (s : Specification) (u w : Values) (c : Code) (p : ℕ) → number_of c ≤ 9 → IsFaultAt s u c p → IsFaultAt s w c p
text_fault s u w NotLiteral p few h = absurd (omega (arith, few))
text_fault s u w BadController p few h = absurd (omega (arith, few))
text_fault s u w BadRange p few h = absurd (omega (arith, few))
text_fault s u w _ p few h = h

module _ (meant_one : MeansOne) (s : Specification) (reached : AreReachedIn s) where
  pub accepted : (u w : Values) → AreMeantIn s.tree u → AreMeantIn s.tree w → IsAccepted s u → IsAccepted s w
  accepted u w by_u by_w fine c p h = is_clear s (fine Duplicate) (fine Arity) (fine GroupAsType) (λ clear. fine c p (same_fault meant_one s reached w u by_w by_u clear c p h))

  -- a lower code than those of what the root reaches
  low : (u w : Values) (c : Code) (p : ℕ) → number_of c ≤ 9 → IsRefused s u c p → IsRefused s w c p
  low u w c p few h = record {
    present = text_fault s u w c p few h.present;
    lowest = λ d q k. ⊎_elim (λ lt. omega arith) (λ le. h.lowest d q (text_fault s w u d q le k)) (cases_lt 9 (number_of d));
    least = λ q k. h.least q (text_fault s w u c q few k);
  }

  pub refused : ((w : Values) → AreRight s.tree w → AreMeantIn s.tree w) → (u : Values) (c : Code) (p : ℕ) → AreRight s.tree u → IsRefused s u c p → (((w : Values) → AreRight s.tree w → IsRefused s w c p) → ⊥) → ⊥
  refused meant u c p right h other =
      ⊎_elim
      (λ high. is_clear s
      (λ q k. let lowest = h.lowest Duplicate q k in omega arith)
      (λ q k. let lowest = h.lowest Arity q k in omega arith)
      (λ q k. let lowest = h.lowest GroupAsType q k in omega arith)
      (λ clear. other (λ w is. record {
        present = same_fault meant_one s reached u w (meant u right) (meant w is) clear c p h.present;
        lowest = λ d q k. h.lowest d q (same_fault meant_one s reached w u (meant w is) (meant u right) clear d q k);
        least = λ q k. h.least q (same_fault meant_one s reached w u (meant w is) (meant u right) clear c q k);
      })))
      (λ few. other (λ w is. low u w c p few h))
      (cases_lt 9 (number_of c))
