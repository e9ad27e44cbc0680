-- What is told of the rows of an order, one after another.
use Rattle.std.proofs.Common.{◌≡◌, ◌≢◌, ℕ, zero, suc, ◌+◌, ◌<◌, ◌≤◌, ◌⊎◌, inl, inr, List, [], ◌∷◌, length, replicate, get_or, Option, Some, None, slice_get, refl, sym, ap, subst, ◌∙◌, arith}
use Rattle.std.specs.Prelude.{Contains}
use Rattle.std.proofs.lemmas.List.{length-replicate}
use Rattle.cddl_language.specs.Reach.{most_instances}
use Rattle.check_terms.specs.Table.{Table}
use Rattle.check_literals.specs.declared.known.Outcome.{Outcome}
use Rattle.check_literals.specs.declared.known.Outcome.TheVariants as OutcomeV
use Rattle.check_literals.specs.declared.found.Progress.{Progress}
use Rattle.check_literals.specs.Literals.{fault_at, fault_in, value_by}
use Rattle.check_literals.specs.Needs.{Need, parts}
use Rattle.check_literals.specs.Found.{AreTold, IsBlank, IsOrdered, IsStep, IsTold, names_at, value_within, within}
use Rattle.check_literals.proofs.Stepping.{same_or, told_alike, within_none}

-- nothing is told of no row

row_of_blank : (count n : ℕ) (o : Outcome) → slice_get (replicate count OutcomeV.Nothing) n ≡ Some o → o ≡ OutcomeV.Nothing
row_of_blank zero n o e = absurd (cc)
row_of_blank (suc count) zero o e = cc
row_of_blank (suc count) (suc n) o e = row_of_blank count n o e

no_names : (count n : ℕ) → ◌≡◌ {A = ℕ} (get_or (replicate count 0) n 0) 0
no_names zero n = refl
no_names (suc count) zero = refl
no_names (suc count) (suc n) = no_names count n

no_value_in : (o : Option Outcome) → ((x : Outcome) → o ≡ Some x → x ≡ OutcomeV.Nothing) → (vs : List Rattle.cddl_literal.specs.declared.Literal.Literal) → value_by vs o ≡ None
no_value_in None h vs = refl
no_value_in (Some x) h vs = ap (λ y. value_by vs (Some y)) (h x refl)

no_fault_in : (o : Option Outcome) → ((x : Outcome) → o ≡ Some x → x ≡ OutcomeV.Nothing) → fault_in o ≡ None
no_fault_in None h = refl
no_fault_in (Some x) h = ap (λ y. fault_in (Some y)) (h x refl)

module _ (t : Table) (needs : List Need) (order : List ℕ) where
  pub told_none : (s : Progress) → IsBlank (length needs) s → AreTold t needs order 0 s
  told_none s blank = record {
    sound = record {
      rows = ap length blank.rows ∙ length-replicate (length needs) OutcomeV.Nothing;
      names = ap length blank.names ∙ length-replicate (length needs) 0;
      places = λ n i e. let h = blank_row n (OutcomeV.Value i) e in absurd (cc);
      few = λ n. subst (λ k. k ≤ most_instances) (sym (ap (λ ns. get_or ns n 0) blank.names ∙ no_names (length needs) n)) (omega arith);
    };
    told = λ i n d lt at need. absurd (omega (arith, lt));
    no_value = λ n outside k. ap (within (names_at s n) k) (no_value_in (slice_get s.literals.rows.items n) (blank_row n) s.literals.values.items) ∙ within_none (names_at s n) k;
    no_fault = λ n outside. no_fault_in (slice_get s.literals.rows.items n) (blank_row n);
  }
    where
      blank_row : (n : ℕ) (o : Outcome) → slice_get s.literals.rows.items n ≡ Some o → o ≡ OutcomeV.Nothing
      blank_row n o e = row_of_blank (length needs) n o (ap (λ rs. slice_get rs n) (sym blank.rows) ∙ e)

  module _ (ordered : IsOrdered needs order) (i row : ℕ) (old new : Progress) (are : AreTold t needs order i old) (here : slice_get order i ≡ Some row) (d : Need) (need : slice_get needs row ≡ Some d) (step : IsStep t (length needs) row d old new) where
    -- a row that stands before is another one
    before_other : (j n : ℕ) → j < i → slice_get order j ≡ Some n → n ≢ row
    before_other j n lt at e = let same = ordered.once j i n at (here ∙ ap Some (sym e)) in omega (arith, same, lt)

    part_other : (j n : ℕ) (x : Need) → j ≤ i → slice_get order j ≡ Some n → slice_get needs n ≡ Some x → (m : ℕ) → Contains (parts x) m → m ≢ row
    part_other j n x le at is m part e =
        let below : m < length needs = subst (λ k. k < length needs) (sym e) (ordered.within_rows i row here) in
        let first = ordered.after j n m x at is part below in
        before_other first.0 m (omega (arith, first.1, le)) first.2 e

    same_parts : (j n : ℕ) (x : Need) → j ≤ i → slice_get order j ≡ Some n → slice_get needs n ≡ Some x → (m : ℕ) → Contains (parts x) m → (k : ℕ) → value_within new m k ≡ value_within old m k
    same_parts j n x le at is m part k = step.values m (part_other j n x le at is m part) k

    told_before : (j n : ℕ) (x : Need) → j < i → slice_get order j ≡ Some n → slice_get needs n ≡ Some x → IsTold t x (value_within new) (value_within new n) (fault_at new.literals n)
    told_before j n x lt at is = told_alike t x (value_within old) (value_within new) (value_within old n) (value_within new n) (fault_at old.literals n) (fault_at new.literals n) (same_parts j n x (omega (arith, lt)) at is) (step.values n (before_other j n lt at)) (step.faults n (before_other j n lt at)) (are.told j n x lt at is)

    told_now : IsTold t d (value_within new) (value_within new row) (fault_at new.literals row)
    told_now = told_alike t d (value_within old) (value_within new) (value_within new row) (value_within new row) (fault_at new.literals row) (fault_at new.literals row) (same_parts i row d (omega arith) here need) (λ k. refl) refl step.told

    told_there : (j n : ℕ) (x : Need) → j ≡ i → slice_get order j ≡ Some n → slice_get needs n ≡ Some x → IsTold t x (value_within new) (value_within new n) (fault_at new.literals n)
    told_there j n x e at is =
        let row_same : row ≡ n = some_number _ _ (sym here ∙ ap (slice_get order) (sym e) ∙ at) in
        let need_same : d ≡ x = some_need _ _ (sym need ∙ ap (slice_get needs) row_same ∙ is) in
        subst (λ m. IsTold t x (value_within new) (value_within new m) (fault_at new.literals m)) row_same (subst (λ y. IsTold t y (value_within new) (value_within new row) (fault_at new.literals row)) need_same told_now)
      where
        some_number : (a b : ℕ) → Some a ≡ Some b → a ≡ b
        some_number a b h = cc

        some_need : (a b : Need) → Some a ≡ Some b → a ≡ b
        some_need a b h = cc

    told_each : (j n : ℕ) (x : Need) → j < i + 1 → slice_get order j ≡ Some n → slice_get needs n ≡ Some x → IsTold t x (value_within new) (value_within new n) (fault_at new.literals n)
    told_each j n x lt at is = by (same_or j i)
      where
        by : (j ≡ i) ⊎ (j ≢ i) → IsTold t x (value_within new) (value_within new n) (fault_at new.literals n)
        by (inl e) = told_there j n x e at is
        by (inr ne) = told_before j n x (omega (arith, ne, lt)) at is

    outside_other : (n : ℕ) → ((j : ℕ) → j < i + 1 → slice_get order j ≡ Some n → ⊥) → n ≢ row
    outside_other n outside e = outside i (omega arith) (here ∙ ap Some (sym e))

    outside_before : (n : ℕ) → ((j : ℕ) → j < i + 1 → slice_get order j ≡ Some n → ⊥) → (j : ℕ) → j < i → slice_get order j ≡ Some n → ⊥
    outside_before n outside j lt at = outside j (omega (arith, lt)) at

    told_next : AreTold t needs order (i + 1) new
    told_next = record {
      sound = step.sound;
      told = told_each;
      no_value = λ n outside k. step.values n (outside_other n outside) k ∙ are.no_value n (outside_before n outside) k;
      no_fault = λ n outside. step.faults n (outside_other n outside) ∙ are.no_fault n (outside_before n outside);
    }

  need_there : (n : ℕ) → n < length needs → (d : Need) × (slice_get needs n ≡ Some d)
  need_there n lt = by needs n lt
    where
      by : (ds : List Need) (k : ℕ) → k < length ds → (d : Need) × (slice_get ds k ≡ Some d)
      by [] k h = absurd (omega (arith, h))
      by (x ∷ ds) zero h = (x, refl)
      by (x ∷ ds) (suc k) h = by ds k (omega (arith, h))

  pub told_more : IsOrdered needs order → (i row : ℕ) (old new : Progress) → AreTold t needs order i old → slice_get order i ≡ Some row → ((d : Need) → slice_get needs row ≡ Some d → IsStep t (length needs) row d old new) → AreTold t needs order (i + 1) new
  told_more ordered i row old new are here step =
      let d = need_there row (ordered.within_rows i row here) in
      told_next ordered i row old new are here d.0 d.1 (step d.0 d.1)
