-- The rows' literals, from what is told of all rows of an order.
use Rattle.std.proofs.Common.{◌≡◌, ◌≢◌, ℕ, zero, suc, ◌<◌, ◌≤◌, nat_le, ◌⊎◌, inl, inr, Bool, true, false, if◌then◌else◌, List, [], ◌∷◌, length, Option, Some, None, slice_get, refl, sym, ap, ap₂, subst, ◌∙◌, arith}
use Rattle.std.specs.Prelude.{Contains}
use Rattle.std.proofs.lemmas.Bool.Decides.{nat_tests}
use Rattle.std.proofs.lemmas.Option.{slice_get_within}
use Rattle.lists.proofs.Lemmas.{place_of as place_of_element}
use Rattle.cddl_literal.specs.Numbers.{Meaning}
use Rattle.check_literals.specs.Values.Values.{Answers}
use Rattle.cddl_language.specs.Controls.{Computation, computation_in, control_of}
use Rattle.cddl_language.specs.Terms.{Text, Literal, Term, control, Ref, Definition}
use Rattle.cddl_language.specs.Substitution.{type_choices}
use Rattle.cddl_language.specs.Reach.{Reaches, most_instances}
use Rattle.cddl_language.specs.Literals.{Means, Values, literal_in, literal_of}
use Rattle.check_terms.specs.Table.{Table, Tree, Holds, part}
use Rattle.check_terms.specs.Trees.{IsTerm, term_tree}
use Rattle.check_names.specs.declared.kinds.kinds.Kinds.{Kinds}
use Rattle.check_names.specs.Kinds.Kinds.{AreKinds}
use Rattle.check_instances.specs.declared.closed.closed.Closed.{Closed}
use Rattle.check_instances.specs.Closed.Closed.{IsClosed}
use Rattle.cddl_language.specs.Written.Written.{AllIn, IsMeant}
use Rattle.graphs.specs.Cycles.Graph.{IsBottomUp}
use Rattle.check_literals.specs.declared.found.Progress.{Progress}
use Rattle.check_literals.specs.Edges.{edges_from}
use Rattle.check_literals.specs.Found.{AreTold, IsTold, names_at, value_within, within}
use Rattle.check_literals.specs.Literals.{AreLiterals, IsKnown, computed_fault, fault_at, literal_at}
use Rattle.check_literals.specs.Needs as N
use Rattle.check_literals.specs.Needs.{AreNeeds, Need, need_at, parts}
use Rattle.check_literals.proofs.Edging.{element_at, ordered, others_need}
use Rattle.check_literals.proofs.Knowing.{SameRefs, both_there, left_known, need_of, right_known}
use Rattle.check_literals.proofs.Stepping.{same_or}
use Rattle.check_literals.proofs.Valuing.{fault_none, in_order_or, none_in, one_of, told_right}

within_all : (d k : ℕ) (v : Option Meaning) → d ≤ k → within d k v ≡ v
within_all d k v h = by (nat_le d k) (grind (arith, nat_tests))
  where
    by : (b : Bool) → b ≡ true → (if b then v else None) ≡ v
    by true e = refl
    by false e = absurd (cc)

row_within : (t : Table) (n : ℕ) (x : Tree) → Holds t (Some n) x → n < length t.rows
row_within t n x (part e h a b) = slice_get_within t.rows n _ e

element : {A : Type 0} (xs : List A) (n : ℕ) → n < length xs → (x : A) × (slice_get xs n ≡ Some x)
element [] n h = absurd (omega (arith, h))
element (x ∷ xs) zero h = (x, refl)
element (x ∷ xs) (suc n) h = element xs n (omega (arith, h))

module _ (worth : Values) (xs : List Definition) (root : Text) (t : Table) (one : (w : Literal) (m : Meaning) (o : Option Meaning) → Means w m → Answers (Means w) o → o ≡ Some m) (refs : List Ref) (c : Closed) (ks : Kinds) (is : IsClosed xs root refs t c) (same : SameRefs t) (kinds : AreKinds t.texts xs ks) (meant : (r : Ref) → Reaches xs root r → (y : Term) → Contains (type_choices xs r) y → AllIn (IsMeant worth) y) (ds : List Need) (are : AreNeeds t c ks (length t.rows) ds) (order : List ℕ) (up : IsBottomUp (length ds) (edges_from 0 ds) order) (p : Progress) (told : AreTold t ds order (length order) p) where
  abbrev Right : ℕ → Type 0
  Right n = (x : Term) → IsTerm t n x → IsKnown xs root worth x → (k : ℕ) → k ≤ most_instances → literal_in worth xs k x ≡ value_within p n k

  below : (n : ℕ) (x : Term) → IsTerm t n x → n < length ds
  below n x h = subst (λ k. n < k) (sym are.all) (row_within t n (term_tree x) h)

  need_is : (n : ℕ) (x : Term) → IsTerm t n x → slice_get ds n ≡ Some (need_at t c ks n)
  need_is n x h = let d = element ds n (below n x h) in d.1 ∙ ap Some (are.each n d.0 d.1)

  -- rows in the order

  right_at : (i n : ℕ) → slice_get order i ≡ Some n → ((j m : ℕ) → j < i → slice_get order j ≡ Some m → Right m) → Right n
  right_at i n at before x h known k le =
      told_right worth xs root t one n x (need_at t c ks n) (need_of xs root worth t refs c ks is same kinds meant n x h known) (value_within p) (value_within p n) (fault_at p.literals n) (told.told i n (need_at t c ks n) (slice_get_within order i n at) at (need_is n x h)) (λ m y e g kn. let first = (ordered ds order up).after i n m (need_at t c ks n) at (need_is n x h) e (below m y g) in before first.0 m first.1 first.2 y g kn) k le

  right_step : (i : ℕ) → ((j n : ℕ) → j < i → slice_get order j ≡ Some n → Right n) → (j n : ℕ) → j < suc i → slice_get order j ≡ Some n → Right n
  right_step i before j n lt at = by (same_or j i)
    where
      by : (j ≡ i) ⊎ (j ≢ i) → Right n
      by (inl e) = right_at j n at (λ l m less g. before l m (omega (arith, less, e)) g)
      by (inr ne) = before j n (omega (arith, lt, ne)) at

  right_upto : (i j n : ℕ) → j < i → slice_get order j ≡ Some n → Right n
  right_upto zero j n lt at = absurd (omega (arith, lt))
  right_upto (suc i) j n lt at = right_step i (right_upto i) j n lt at

  -- rows that are not in it

  abbrev Out : ℕ → Type 0
  Out n = Contains order n → ⊥

  leads : (n : ℕ) (x : Term) → Out n → IsTerm t n x → (m : ℕ) × Contains (parts (need_at t c ks n)) m × Out m
  leads n x out h =
      let other = others_need ds order up n (below n x h) out in
      (other.2, subst (λ d. Contains (parts d) other.2) (are.each n other.0 other.1) other.3, other.4)

  none_outside : (k : ℕ) (x : Term) (n : ℕ) → Out n → IsTerm t n x → IsKnown xs root worth x → literal_in worth xs k x ≡ None
  none_outside k x n out h known = none_in worth xs root t one Out (need_at t c ks) (need_of xs root worth t refs c ks is same kinds meant) leads k x n out h known

  not_told : (n : ℕ) → Out n → (i : ℕ) → i < length order → slice_get order i ≡ Some n → ⊥
  not_told n out i lt at = out (element_at order n i at)

  right : (n : ℕ) → Right n
  right n = by (in_order_or order n)
    where
      by : Contains order n ⊎ Out n → Right n
      by (inl here) x h known k le = let at = place_of_element order n here in right_upto (length order) at.0 n (slice_get_within order at.0 n at.1) at.1 x h known k le
      by (inr out) x h known k le = none_outside k x n out h known ∙ sym (told.no_value n (not_told n out) k)

  value_is : (n : ℕ) (x : Term) → IsTerm t n x → IsKnown xs root worth x → literal_at p.literals n ≡ literal_of worth xs x
  value_is n x h known = sym (right n x h known most_instances (omega arith) ∙ within_all (names_at p n) most_instances (literal_at p.literals n) (told.sound.few n))

  -- faults

  fault_in_order : (i n : ℕ) → slice_get order i ≡ Some n → (a b : Term) (m : Text) (d : Computation) → IsTerm t n (control a m b) → IsKnown xs root worth (control a m b) → computation_in (control_of m) ≡ Some d → fault_at p.literals n ≡ computed_fault d (literal_of worth xs a) (literal_of worth xs b)
  fault_in_order i n at a b m d h known e =
      let sides = both_there xs root worth t refs c ks is same kinds meant n a b m d h e in
      let is_told : IsTold t (N.both d sides.0 sides.1) (value_within p) (value_within p n) (fault_at p.literals n) = subst (λ x. IsTold t x (value_within p) (value_within p n) (fault_at p.literals n)) sides.2 (told.told i n (need_at t c ks n) (slice_get_within order i n at) at (need_is n (control a m b) h)) in
      is_told.1 ∙ ap₂ (computed_fault d) (sym (right sides.0 a sides.3 (left_known xs root worth t refs c ks is same kinds meant a b m known) most_instances (omega arith))) (sym (right sides.1 b sides.4 (right_known xs root worth t refs c ks is same kinds meant a b m known) most_instances (omega arith)))

  fault_outside : (n : ℕ) → Out n → (a b : Term) (m : Text) (d : Computation) → IsTerm t n (control a m b) → IsKnown xs root worth (control a m b) → computation_in (control_of m) ≡ Some d → None ≡ computed_fault d (literal_of worth xs a) (literal_of worth xs b)
  fault_outside n out a b m d h known e =
      let sides = both_there xs root worth t refs c ks is same kinds meant n a b m d h e in
      let other = leads n (control a m b) out h in
      by sides.0 sides.1 sides.3 sides.4 other.0 (one_of sides.0 sides.1 other.0 (subst (λ x. Contains (parts x) other.0) sides.2 other.1)) other.2
    where
      by : (i j : ℕ) → IsTerm t i a → IsTerm t j b → (o : ℕ) → (i ≡ o) ⊎ (j ≡ o) → Out o → None ≡ computed_fault d (literal_of worth xs a) (literal_of worth xs b)
      by i j g k o (inl s) away = sym (ap (λ u. computed_fault d u (literal_of worth xs b)) (none_outside most_instances a i (subst Out (sym s) away) g (left_known xs root worth t refs c ks is same kinds meant a b m known)))
      by i j g k o (inr s) away = sym (ap (computed_fault d (literal_of worth xs a)) (none_outside most_instances b j (subst Out (sym s) away) k (right_known xs root worth t refs c ks is same kinds meant a b m known)) ∙ fault_none d (literal_of worth xs a))

  fault_is : (n : ℕ) (a b : Term) (m : Text) (d : Computation) → IsTerm t n (control a m b) → IsKnown xs root worth (control a m b) → computation_in (control_of m) ≡ Some d → fault_at p.literals n ≡ computed_fault d (literal_of worth xs a) (literal_of worth xs b)
  fault_is n a b m d h known e = by (in_order_or order n)
    where
      by : Contains order n ⊎ Out n → fault_at p.literals n ≡ computed_fault d (literal_of worth xs a) (literal_of worth xs b)
      by (inl here) = let at = place_of_element order n here in fault_in_order at.0 n at.1 a b m d h known e
      by (inr out) = told.no_fault n (not_told n out) ∙ fault_outside n out a b m d h known e

  pub assembled : AreLiterals xs root worth t p.literals
  assembled = record { values = value_is; faults = fault_is }
