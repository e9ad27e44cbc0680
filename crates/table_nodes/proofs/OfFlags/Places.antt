-- Lists that stand in another one, from a place on, and where the implications of groups stand.
use Rattle.std.proofs.Common.{◌≡◌, ℕ, zero, suc, ◌+◌, ◌<◌, ◌≤◌, min, List, [], ◌∷◌, ◌++◌, length, Some, None, slice_get, refl, sym, ap, subst, ◌∙◌, inl, inr, arith}
use Rattle.std.proofs.Math.Nat.{zero-add}
use Rattle.std.proofs.lemmas.Option.{slice_get_cases, slice_get_past}
use Rattle.graphs.specs.declared.implications.Implication.{Implication}
use Rattle.cddl_meaning.specs.Ranks.Ranked.{MayBeEmpty, one_of_them}
use Rattle.table_nodes.specs.Nodes.{group_or_none, group_view, language_in}
use Rattle.table_nodes.specs.declared.nodes.Node.{Node}
use Rattle.table_nodes.specs.declared.nodes.GroupId.{GroupId}
use Rattle.table_nodes.specs.declared.nodes.Group.{Group}
use Rattle.table_nodes.specs.Flags.Rules.{all_rules, fact_of, rules_by}

abbrev pub StandAt : {A : Type 0} → List A → ℕ → List A → Type 0
StandAt xs place [] = Unit {0}
StandAt xs place (y ∷ ys) = (slice_get xs place ≡ Some y) × StandAt xs (place + 1) ys

stand_from : {A : Type 0} (xs : List A) (place : ℕ) (ys : List A) → ((k : ℕ) (y : A) → slice_get ys k ≡ Some y → slice_get xs (place + k) ≡ Some y) → StandAt xs place ys
stand_from xs place [] h = tt
stand_from xs place (y ∷ ys) h = (subst (λ k. slice_get xs k ≡ Some y) first (h 0 y refl), stand_from xs (place + 1) ys (λ k z e. subst (λ n. slice_get xs n ≡ Some z) (later k) (h (suc k) z e)))
  where
    first : place + 0 ≡ place
    first = omega arith

    later : (k : ℕ) → place + suc k ≡ (place + 1) + k
    later k = omega arith

-- a list stands in itself
pub itself : {A : Type 0} (xs : List A) → StandAt xs 0 xs
itself xs = stand_from xs 0 xs (λ k y e. subst (λ n. slice_get xs n ≡ Some y) (sym (zero-add k)) e)

pub left_part : {A : Type 0} (all : List A) (place : ℕ) (xs ys : List A) → StandAt all place (xs ++ ys) → StandAt all place xs
left_part all place [] ys h = tt
left_part all place (x ∷ xs) ys h = (h.0, left_part all (place + 1) xs ys h.1)

pub right_part : {A : Type 0} (all : List A) (place : ℕ) (xs ys : List A) → StandAt all place (xs ++ ys) → StandAt all (place + length xs) ys
right_part all place [] ys h = subst (λ n. StandAt all n ys) (omega arith) h
right_part all place (x ∷ xs) ys h = subst (λ n. StandAt all n ys) later (right_part all (place + 1) xs ys h.1)
  where
    later : (place + 1) + length xs ≡ place + suc (length xs)
    later = omega arith

-- where the implications of each group stand
pub segment : (count number place : ℕ) (gs : List Group) (rules : List Implication) → StandAt rules place (all_rules count number place gs) → (k : ℕ) → (p : ℕ) × StandAt rules p (rules_by count (number + k) p (group_or_none (slice_get gs k)))
segment count number place [] rules h k = (place, tt)
segment count number place (g ∷ gs) rules h zero = (place, subst (λ n. StandAt rules place (rules_by count n place (group_view g))) first (left_part rules place (rules_by count number place (group_view g)) _ h))
  where
    first : number ≡ number + 0
    first = omega arith
segment count number place (g ∷ gs) rules h (suc k) =
    let s = segment count (number + 1) (place + length (rules_by count number place (group_view g))) gs rules (right_part rules place (rules_by count number place (group_view g)) _ h) k in
    (s.0, subst (λ n. StandAt rules s.0 (rules_by count n s.0 (group_or_none (slice_get gs k)))) later s.1)
  where
    later : (number + 1) + k ≡ number + suc k
    later = omega arith

-- The group of this number may take no item.
abbrev pub Empty : List Node → List Group → ℕ → Type 0
Empty types groups n = MayBeEmpty (language_in types groups) (group_or_none (slice_get groups n))

module _ (types : List Node) (groups : List Group) where
  pub is_there : (n : ℕ) → Empty types groups n → n < length groups
  is_there n h = elim (slice_get_cases groups n).1 [ inl k ↦ k.1 | inr k ↦ absurd (none (subst (λ o. MayBeEmpty (language_in types groups) (group_or_none o)) k.1 h)) ]
    where
      none : MayBeEmpty (language_in types groups) (group_or_none None) → ⊥
      none (one_of_them h) = elim h [ ]

  -- its fact is that of its number, or of one that is not there
  pub same_group : (g : GroupId) → slice_get groups (fact_of (length groups) g) ≡ slice_get groups g.number
  same_group g = elim (slice_get_cases groups g.number).1 [ inl k ↦ ap (slice_get groups) (least k.1) | inr k ↦ past k.0 ∙ sym k.1 ]
    where
      least : g.number < length groups → min g.number (length groups) ≡ g.number
      least h = omega (arith, h)

      past : length groups ≤ g.number → slice_get groups (min g.number (length groups)) ≡ None
      past h = slice_get_past groups (min g.number (length groups)) (omega (arith, h))

  pub to_fact : (g : GroupId) → Empty types groups g.number → Empty types groups (fact_of (length groups) g)
  to_fact g h = subst (λ o. MayBeEmpty (language_in types groups) (group_or_none o)) (sym (same_group g)) h

  pub from_fact : (g : GroupId) → Empty types groups (fact_of (length groups) g) → Empty types groups g.number
  from_fact g h = subst (λ o. MayBeEmpty (language_in types groups) (group_or_none o)) (same_group g) h
