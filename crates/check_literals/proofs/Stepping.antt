-- What is known after what was found of a row is kept.
use Rattle.std.proofs.Common.{◌≡◌, ◌≢◌, ℕ, zero, suc, ◌<◌, ◌≤◌, ◌⊎◌, inl, inr, nat_le, Bool, true, false, if◌then◌else◌, List, [], ◌++◌, length, get_or, map, slice_index_or, Option, Some, None, option_map, IfOk, Result, Ok, Err, slice_get, refl, sym, ap, ap₂, subst, ◌∙◌, arith, length-append, length-set, get_or-set_same, get_or-set_other}
use Rattle.std.specs.Prelude.{Contains}
use Rattle.std.proofs.lemmas.Option.{slice_get-get_or, slice_get-map}
use Rattle.lists.proofs.Lemmas.{push_there as last_of, set_elsewhere, set_there}
use Rattle.cddl_literal.specs.Literals.{view}
use Rattle.cddl_literal.specs.Numbers.{Meaning}
use Rattle.cddl_literal.specs.declared.Literal.{Literal}
use Rattle.cddl_literal.specs.declared.operators.Fault.{Fault}
use Rattle.check_literals.specs.Values.Values.{Answers}
use Rattle.cddl_language.specs.Literals.{Means, computed_literal}
use Rattle.cddl_language.specs.Reach.{most_instances}
use Rattle.check_terms.specs.Table.{Table}
use Rattle.check_literals.specs.declared.known.Outcome.{Outcome}
use Rattle.check_literals.specs.declared.known.Outcome.TheVariants as OutcomeV
use Rattle.check_literals.specs.declared.found.Found.{Found}
use Rattle.check_literals.specs.declared.found.Found.TheVariants as FoundV
use Rattle.check_literals.specs.declared.found.Progress.{Progress}
use Rattle.check_literals.specs.Literals.{fault_at, fault_in, value_by, computed_fault}
use Rattle.check_literals.specs.declared.needs.Need as D
use Rattle.check_literals.specs.declared.needs.Need.TheVariants as N
use Rattle.check_literals.specs.Needs.{Need, nothing, written, inside, choice, both, need_view, parts}
use Rattle.check_literals.specs.Found.{IsFit, IsPut, IsSound, IsStep, IsTold, added, found_fault, found_value, names_at, names_of, outcome_of, value_within, within}
use Rattle.check_literals.proofs.Lists.{first_of}

pub same_or : (a b : ℕ) → (a ≡ b) ⊎ (a ≢ b)
same_or zero zero = inl refl
same_or zero (suc b) = inr (λ e. omega (arith, e))
same_or (suc a) zero = inr (λ e. omega (arith, e))
same_or (suc a) (suc b) = elim (same_or a b) [ inl e ↦ inl (ap suc e) | inr g ↦ inr (λ e. g (omega (arith, e))) ]

abbrev no_meaning : Bool → Option Meaning
no_meaning b = if b then None else None

pub within_none : (d k : ℕ) → within d k None ≡ None
within_none d k = by (nat_le d k)
  where
    by : (b : Bool) → no_meaning b ≡ None
    by true = refl
    by false = refl

-- what is told of a row does not change where what it rests on does not
pub told_alike : (t : Table) (d : Need) (s r : ℕ → ℕ → Option Meaning) (v w : ℕ → Option Meaning) (f g : Option Fault) → ((m : ℕ) → Contains (parts d) m → (k : ℕ) → r m k ≡ s m k) → ((k : ℕ) → w k ≡ v k) → g ≡ f → IsTold t d s v f → IsTold t d r w g
told_alike t nothing s r v w f g same e h told = λ k. e k ∙ told k
told_alike t (written n) s r v w f g same e h told = λ x a k. subst (Answers (Means x)) (sym (e k)) (told x a k)
told_alike t (inside n) s r v w f g same e h told = λ k. e k ∙ told k ∙ sym (same n (0, omega arith, refl) k)
told_alike t (choice n) s r v w f g same e h told = (e 0 ∙ told.0, λ k lt. e (suc k) ∙ told.1 k lt ∙ sym (same n (0, omega arith, refl) k))
told_alike t (both c a b) s r v w f g same e h told =
    let first = λ (k : ℕ). sym (same a (0, omega arith, refl) k) in
    let second = λ (k : ℕ). sym (same b (1, omega arith, refl) k) in
    (λ k. e k ∙ told.0 k ∙ ap₂ (computed_literal c) (first k) (second k), h ∙ told.1 ∙ ap₂ (computed_fault c) (first most_instances) (second most_instances))

-- A value that has a place keeps it as values are added.

value_stays : (vs ws : List Literal) (o : Option Outcome) → ((i : ℕ) → o ≡ Some (OutcomeV.Value i) → i < length vs) → value_by (vs ++ ws) o ≡ value_by vs o
value_stays vs ws None there = refl
value_stays vs ws (Some OutcomeV.Nothing) there = refl
value_stays vs ws (Some (OutcomeV.Faulty f)) there = refl
value_stays vs ws (Some (OutcomeV.Value i)) there = ap (option_map view) (first_of vs ws i (there i refl))

value_found : (s : Progress) (f : Found) (k : ℕ) → IsFit s f → within (names_of f) k (value_by (s.literals.values.items ++ added f) (Some (outcome_of (length s.literals.values.items) f))) ≡ found_value s f k
value_found s FoundV.Nothing k fit = within_none 0 k
value_found s (FoundV.Faulty f) k fit = within_none 0 k
value_found s (FoundV.Shared p d) k fit = ap (λ o. within d k (option_map view o)) (first_of s.literals.values.items [] p fit.0)
value_found s (FoundV.New l d) k fit = ap (λ o. within d k (option_map view o)) (last_of s.literals.values.items l)

fault_found : (n : ℕ) (f : Found) → fault_in (Some (outcome_of n f)) ≡ found_fault f
fault_found n FoundV.Nothing = refl
fault_found n (FoundV.Faulty f) = refl
fault_found n (FoundV.Shared p d) = refl
fault_found n (FoundV.New l d) = refl

few_found : (s : Progress) (f : Found) → IsFit s f → names_of f ≤ most_instances
few_found s FoundV.Nothing fit = omega arith
few_found s (FoundV.Faulty f) fit = omega arith
few_found s (FoundV.Shared p d) fit = fit.1
few_found s (FoundV.New l d) fit = fit

place_found : (s : Progress) (f : Found) (i : ℕ) → IsFit s f → outcome_of (length s.literals.values.items) f ≡ OutcomeV.Value i → i < length (s.literals.values.items ++ added f)
place_found s FoundV.Nothing i fit e = absurd (cc)
place_found s (FoundV.Faulty f) i fit e = absurd (cc)
place_found s (FoundV.Shared p d) i fit e = let h : p ≡ i = cc in rw length-append (omega (arith, fit.0, h))
place_found s (FoundV.New l d) i fit e = let h : length s.literals.values.items ≡ i = cc in rw length-append (omega (arith, h))

module _ (t : Table) (count row : ℕ) (d : Need) (f : Found) (old new : Progress) (sound : IsSound count old) (there : row < count) (fit : IsFit old f) (put : IsPut row f old new) where
  values_old : List Literal
  values_old = old.literals.values.items

  row_there : slice_get new.literals.rows.items row ≡ Some (outcome_of (length old.literals.values.items) f)
  row_there = ap (λ rs. slice_get rs row) put.rows ∙ set_there old.literals.rows.items row _ (omega (arith, sound.rows))

  row_elsewhere : (m : ℕ) → m ≢ row → slice_get new.literals.rows.items m ≡ slice_get old.literals.rows.items m
  row_elsewhere m ne = ap (λ rs. slice_get rs m) put.rows ∙ set_elsewhere old.literals.rows.items row m _ ne

  names_there : names_at new row ≡ names_of f
  names_there = ap (λ ns. get_or ns row 0) put.names ∙ get_or-set_same old.names.items row (names_of f) 0 (omega (arith, sound.names))

  names_elsewhere : (m : ℕ) → m ≢ row → names_at new m ≡ names_at old m
  names_elsewhere m ne = ap (λ ns. get_or ns m 0) put.names ∙ get_or-set_other old.names.items row m (names_of f) 0 ne

  value_there : (k : ℕ) → value_within new row k ≡ found_value old f k
  value_there k = ap₂ (λ n o. within n k (value_by new.literals.values.items o)) names_there row_there ∙ ap (λ vs. within (names_of f) k (value_by vs (Some (outcome_of (length old.literals.values.items) f)))) put.values ∙ value_found old f k fit

  value_elsewhere : (m : ℕ) → m ≢ row → (k : ℕ) → value_within new m k ≡ value_within old m k
  value_elsewhere m ne k = ap₂ (λ n o. within n k (value_by new.literals.values.items o)) (names_elsewhere m ne) (row_elsewhere m ne) ∙ ap (within (names_at old m) k) (ap (λ vs. value_by vs (slice_get old.literals.rows.items m)) put.values ∙ value_stays old.literals.values.items (added f) (slice_get old.literals.rows.items m) (λ i e. sound.places m i e))

  fault_there : fault_at new.literals row ≡ found_fault f
  fault_there = ap fault_in row_there ∙ fault_found (length old.literals.values.items) f

  places_there : (n i : ℕ) → slice_get new.literals.rows.items n ≡ Some (OutcomeV.Value i) → i < length new.literals.values.items
  places_there n i e = by (same_or n row)
    where
      some_so : (x y : Outcome) → Some x ≡ Some y → x ≡ y
      some_so x y h = cc

      by : (n ≡ row) ⊎ (n ≢ row) → i < length new.literals.values.items
      by (inl h) = subst (λ vs. i < length vs) (sym put.values) (place_found old f i fit (some_so _ _ (sym row_there ∙ ap (slice_get new.literals.rows.items) (sym h) ∙ e)))
      by (inr ne) = let below = sound.places n i (sym (row_elsewhere n ne) ∙ e) in subst (λ vs. i < length vs) (sym put.values) (rw length-append (omega (arith, below)))

  few_there : (n : ℕ) → names_at new n ≤ most_instances
  few_there n = by (same_or n row)
    where
      by : (n ≡ row) ⊎ (n ≢ row) → names_at new n ≤ most_instances
      by (inl h) = subst (λ m. m ≤ most_instances) (sym (ap (names_at new) h ∙ names_there)) (few_found old f fit)
      by (inr ne) = subst (λ m. m ≤ most_instances) (sym (names_elsewhere n ne)) (sound.few n)

  stepped : IsTold t d (value_within old) (found_value old f) (found_fault f) → IsStep t count row d old new
  stepped told = record {
    sound = record {
      rows = ap length put.rows ∙ length-set old.literals.rows.items row _ ∙ sound.rows;
      names = ap length put.names ∙ length-set old.names.items row _ ∙ sound.names;
      places = places_there;
      few = few_there;
    };
    told = told_alike t d (value_within old) (value_within old) (found_value old f) (value_within new row) (found_fault f) (fault_at new.literals row) (λ m c k. refl) value_there fault_there told;
    values = value_elsewhere;
    faults = λ m ne. ap fault_in (row_elsewhere m ne);
  }

-- as the code has it
pub settled : (t : Table) (needs : List D.Need) (row : ℕ) → row < length needs → (f : Found) (old new : Progress) → IsSound (length needs) old → IsFit old f → IsTold t (need_view (slice_index_or needs row N.Nothing)) (value_within old) (found_value old f) (found_fault f) → {E : Type 0} (r : Result Unit E) → IfOk r (λ u. IsPut row f old new) → IfOk r (λ u. (d : Need) → slice_get (map need_view needs) row ≡ Some d → IsStep t (length needs) row d old new)
settled t needs row there f old new sound fit told (Ok u) put = λ d e. stepped t (length needs) row d f old new sound there fit put (subst (λ x. IsTold t x (value_within old) (found_value old f) (found_fault f)) (need_there d e) told)
  where
    some_so : (x y : Need) → Some x ≡ Some y → x ≡ y
    some_so x y h = cc

    need_there : (d : Need) → slice_get (map need_view needs) row ≡ Some d → need_view (slice_index_or needs row N.Nothing) ≡ d
    need_there d e = some_so _ _ (sym (ap (option_map need_view) (slice_get-get_or needs row N.Nothing there)) ∙ sym (slice_get-map need_view needs row) ∙ e)
settled t needs row there f old new sound fit told (Err x) put = put
