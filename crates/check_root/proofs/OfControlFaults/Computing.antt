-- What the row of a control says of it.
use Rattle.std.proofs.Common.{◌≡◌, ℕ, Bool, true, false, List, Option, Some, None, refl, sym, ap, ◌∙◌, true≢false}
use Rattle.std.specs.Prelude.{not, ◌||◌}
use Rattle.std.proofs.lemmas.List.Elements.{Contains-append_right}
use Rattle.cddl_language.specs.Controls.{Computation, computation_in, control_of}
use Rattle.cddl_language.specs.Faults.{is_operand}
use Rattle.cddl_language.specs.Literals.{Values, literal_of}
use Rattle.cddl_language.specs.Reach.{points}
use Rattle.cddl_language.specs.Terms.{number, text, bytes, Term, literal, named, parens, map_of, array_of, unwrapped, choice_of, choice_of_name, tagged, tagged_by, simple_by, hash, range, control, or, Definition, Text}
use Rattle.check_terms.specs.Table.{Holds, HoldsText, no_part, part, some_text, Table, Tree, nothing, node}
use Rattle.check_terms.specs.Trees.{IsTerm, term_tree}
use Rattle.check_literals.specs.declared.known.Literals.{Literals}
use Rattle.check_literals.specs.Literals.{AreLiterals, IsKnown, fault_at}
use Rattle.check_root.specs.ControlFaults.Controllers.{computation_at, computation_by, computation_named, has_other_right, is_not_utf8, is_out_of_range, is_wrong_by, is_wrong_computed, is_wrong_control, right_at, right_in, text_in}
use Rattle.check_root.specs.declared.control_faults.controllers.Wrong.{Wrong}
use Rattle.check_root.specs.declared.control_faults.controllers.Wrong.TheVariants as WrongV

is_node : Tree → Bool
is_node nothing = false
is_node (node f x a b) = true

term_is_node : (x : Term) → is_node (term_tree x) ≡ true
unfolding is_node
term_is_node (literal (number n)) = refl
term_is_node (literal (text n)) = refl
term_is_node (literal (bytes n)) = refl
term_is_node (named s) = refl
term_is_node (parens y) = refl
term_is_node (map_of g) = refl
term_is_node (array_of g) = refl
term_is_node (unwrapped s) = refl
term_is_node (choice_of g) = refl
term_is_node (choice_of_name s) = refl
term_is_node (tagged n y) = refl
term_is_node (tagged_by z y) = refl
term_is_node (simple_by y) = refl
term_is_node (hash n) = refl
term_is_node (range y c z) = refl
term_is_node (control y n z) = refl
term_is_node (or y z) = refl

no_node : (t : Table) (x : Tree) → Holds t None x → is_node x ≡ false
unfolding is_node
no_node t x no_part = refl

-- a term has a row
row_of : (t : Table) (o : Option ℕ) (x : Term) → Holds t o (term_tree x) → (j : ℕ) × (o ≡ Some j) × IsTerm t j x
row_of t None x h = absurd (true≢false (sym (term_is_node x) ∙ no_node t (term_tree x) h))
row_of t (Some j) x h = (j, refl, h)

named_so : (texts : List Text) (o : Option ℕ) (m : Text) → HoldsText texts o (Some m) → computation_by texts o ≡ computation_named (Some m)
named_so texts o m (some_text e) = ap computation_named e

computation_there : (t : Table) (n : ℕ) (a b : Term) (m : Text) → IsTerm t n (control a m b) → computation_at t n ≡ computation_in (control_of m)
computation_there t n a b m (part {m = o} e d p q) = ap (λ r. computation_by t.texts (text_in r)) e ∙ named_so t.texts o m d

right_there : (t : Table) (n : ℕ) (a b : Term) (m : Text) → IsTerm t n (control a m b) → (j : ℕ) × (right_at t.rows n ≡ Some j) × IsTerm t j b
right_there t n a b m (part {j = o} e d p q) = let j = row_of t o b q in (j.0, ap right_in e ∙ j.1, j.2)

module _ (xs : List Definition) (root : Text) (worth : Values) (t : Table) (ls : Literals) (literals : AreLiterals xs root worth t ls) where
  known_right : (a b : Term) (m : Text) → IsKnown xs root worth (control a m b) → IsKnown xs root worth b
  known_right a b m k = (λ p h. k.0 p (Contains-append_right (points a) (points b) p h), k.1.1)

  -- by the row, it is wrong with the control where it is wrong with what its sides compute
  by_rows : (w : Wrong) (n : ℕ) (a b : Term) (m : Text) (c : Computation) → IsTerm t n (control a m b) → IsKnown xs root worth (control a m b) → computation_in (control_of m) ≡ Some c → is_wrong_control w ls (computation_at t n) (right_at t.rows n) (fault_at ls n) ≡ is_wrong_by xs worth w (Some c) a b
  by_rows WrongV.NotLiteral n a b m c h k e =
      let r = right_there t n a b m h in
      let f = fault_at ls n in
      ap (λ o. has_other_right ls o (right_at t.rows n) || is_out_of_range f) (computation_there t n a b m h ∙ e) ∙ ap (λ o. has_other_right ls (Some c) o || is_out_of_range f) r.1 ∙ ap (λ v. not (is_operand c v) || is_out_of_range f) (literals.values r.0 b r.2 (known_right a b m k)) ∙ ap (λ g. not (is_operand c (literal_of worth xs b)) || is_out_of_range g) (literals.faults n a b m c h k e)
  by_rows (WrongV.BadController z) n a b m c h k e = ap is_not_utf8 (literals.faults n a b m c h k e)

  pub control_told : (w : Wrong) (n : ℕ) (a b : Term) (m : Text) (c : Computation) → IsTerm t n (control a m b) → IsKnown xs root worth (control a m b) → computation_in (control_of m) ≡ Some c → is_wrong_control w ls (computation_at t n) (right_at t.rows n) (fault_at ls n) ≡ is_wrong_computed xs worth w (control a m b)
  control_told w n a b m c h k e = by_rows w n a b m c h k e ∙ ap (λ o. is_wrong_by xs worth w o a b) (sym e)
