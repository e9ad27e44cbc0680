-- What follows of causes, and of their implications.
use Rattle.std.proofs.Common.{◌≡◌, ℕ, zero, suc, ◌+◌, ◌⊎◌, inl, inr, List, [], ◌∷◌, length, Option, Some, None, refl, sym, subst, arith, slice_get}
use Rattle.std.proofs.Math.Nat.{zero-add}
use Rattle.lists.proofs.Lemmas.{IsIn, from_get, in_cases, in_left, in_right, to_get, within}
use Rattle.graphs.specs.declared.implications.Implication.{Implication}
use Rattle.graphs.specs.Implications.Implications.{Follows, concludes}
use Rattle.check_groups.specs.declared.causes.cause.RowCause.{RowCause}
use Rattle.check_groups.specs.declared.causes.cause.RowCause.TheVariants as CauseV
use Rattle.check_groups.specs.Causes.Rules.{all_rules, rule, rules_by}

-- what follows of causes: the least set
pub data Stands (causes : List RowCause) : ℕ → Type 0 where
  always : {n : ℕ} → slice_get causes n ≡ Some CauseV.Always → Stands causes n
  of_one : {n a : ℕ} → slice_get causes n ≡ Some (CauseV.One a) → Stands causes a → Stands causes n
  of_first : {n a b : ℕ} → slice_get causes n ≡ Some (CauseV.Either a b) → Stands causes a → Stands causes n
  of_second : {n a b : ℕ} → slice_get causes n ≡ Some (CauseV.Either a b) → Stands causes b → Stands causes n
  of_both : {n a b : ℕ} → slice_get causes n ≡ Some (CauseV.Both a b) → Stands causes a → Stands causes b → Stands causes n

-- the implications of a row

data IsRule (n : ℕ) : RowCause → Implication → Type 0 where
  by_nothing : IsRule n CauseV.Always (rule n None None)
  by_one : {a : ℕ} → IsRule n (CauseV.One a) (rule n (Some a) None)
  by_first : {a b : ℕ} → IsRule n (CauseV.Either a b) (rule n (Some a) None)
  by_second : {a b : ℕ} → IsRule n (CauseV.Either a b) (rule n (Some b) None)
  by_both : {a b : ℕ} → IsRule n (CauseV.Both a b) (rule n (Some a) (Some b))

is_rule : (n : ℕ) (c : RowCause) (i : Implication) → IsIn i (rules_by n c) → IsRule n c i
is_rule n CauseV.Never i h = absurd h
is_rule n CauseV.Always i (inl e) = subst (IsRule n CauseV.Always) (sym e) by_nothing
is_rule n CauseV.Always i (inr h) = absurd h
is_rule n (CauseV.One a) i (inl e) = subst (IsRule n (CauseV.One a)) (sym e) by_one
is_rule n (CauseV.One a) i (inr h) = absurd h
is_rule n (CauseV.Either a b) i (inl e) = subst (IsRule n (CauseV.Either a b)) (sym e) by_first
is_rule n (CauseV.Either a b) i (inr (inl e)) = subst (IsRule n (CauseV.Either a b)) (sym e) by_second
is_rule n (CauseV.Either a b) i (inr (inr h)) = absurd h
is_rule n (CauseV.Both a b) i (inl e) = subst (IsRule n (CauseV.Both a b)) (sym e) by_both
is_rule n (CauseV.Both a b) i (inr h) = absurd h

-- those of all rows

rule_in : (n : ℕ) (causes : List RowCause) (i : Implication) → IsIn i (all_rules n causes) → (k : ℕ) × (c : RowCause) × (slice_get causes k ≡ Some c) × IsIn i (rules_by (n + k) c)
rule_in n [] i h = absurd h
rule_in n (c ∷ causes) i h = by (in_cases (rules_by n c) (all_rules (n + 1) causes) i h) (rule_in (n + 1) causes i)
  where
    first : n ≡ n + 0
    first = omega arith

    later : (k : ℕ) → (n + 1) + k ≡ n + suc k
    later k = omega arith

    by : IsIn i (rules_by n c) ⊎ IsIn i (all_rules (n + 1) causes) → (IsIn i (all_rules (n + 1) causes) → (k : ℕ) × (d : RowCause) × (slice_get causes k ≡ Some d) × IsIn i (rules_by ((n + 1) + k) d)) → (k : ℕ) × (d : RowCause) × (slice_get (c ∷ causes) k ≡ Some d) × IsIn i (rules_by (n + k) d)
    by (inl g) r = (0, c, refl, subst (λ m. IsIn i (rules_by m c)) first g)
    by (inr g) r = let q = r g in (suc q.0, q.1, q.2, subst (λ m. IsIn i (rules_by m q.1)) (later q.0) q.3)

in_rules : (n : ℕ) (causes : List RowCause) (k : ℕ) (c : RowCause) (i : Implication) → slice_get causes k ≡ Some c → IsIn i (rules_by (n + k) c) → IsIn i (all_rules n causes)
in_rules n [] k c i e h = cc
in_rules n (d ∷ causes) zero c i e h = in_left (rules_by n d) (all_rules (n + 1) causes) i (subst (λ b. IsIn i (rules_by n b)) same (subst (λ m. IsIn i (rules_by m c)) first h))
  where
    first : n + 0 ≡ n
    first = omega arith

    same : c ≡ d
    same = cc
in_rules n (d ∷ causes) (suc k) c i e h = in_right (rules_by n d) (all_rules (n + 1) causes) i (in_rules (n + 1) causes k c i e (subst (λ m. IsIn i (rules_by m c)) later h))
  where
    later : n + suc k ≡ (n + 1) + k
    later = omega arith

-- Both least sets are one.

by_rule : (causes : List RowCause) (n : ℕ) (c : RowCause) (i : Implication) → slice_get causes n ≡ Some c → IsRule n c i → ((p : ℕ) → i.first ≡ Some p → Stands causes p) → ((p : ℕ) → i.second ≡ Some p → Stands causes p) → Stands causes i.then
by_rule causes n c i e by_nothing f s = always e
by_rule causes n c i e (by_one {a = a}) f s = of_one e (f a refl)
by_rule causes n c i e (by_first {a = a}) f s = of_first e (f a refl)
by_rule causes n c i e (by_second {b = b}) f s = of_second e (f b refl)
by_rule causes n c i e (by_both {a = a} {b = b}) f s = of_both e (f a refl) (s b refl)

pub stands : (causes : List RowCause) (facts : ℕ) (n : ℕ) → Follows facts (all_rules 0 causes) n → Stands causes n
stands causes facts n (concludes place i at l first second) =
    let r = rule_in 0 causes i (from_get (all_rules 0 causes) place i at) in
    by_rule causes r.0 r.1 i r.2 (is_rule r.0 r.1 i (subst (λ m. IsIn i (rules_by m r.1)) (zero-add r.0) r.3)) (λ p e. stands causes facts p (first p e)) (λ p e. stands causes facts p (second p e))

module _ (causes : List RowCause) where
  nothing_needed : (p : ℕ) → None ≡ Some p → Follows (length causes) (all_rules 0 causes) p
  nothing_needed p e = cc

  this_needed : (a p : ℕ) → Some a ≡ Some p → Follows (length causes) (all_rules 0 causes) a → Follows (length causes) (all_rules 0 causes) p
  this_needed a p e h = subst (Follows (length causes) (all_rules 0 causes)) same h
    where
      same : a ≡ p
      same = cc

  concluded : (n : ℕ) (c : RowCause) (a b : Option ℕ) → slice_get causes n ≡ Some c → IsIn (rule n a b) (rules_by n c) → ((p : ℕ) → a ≡ Some p → Follows (length causes) (all_rules 0 causes) p) → ((p : ℕ) → b ≡ Some p → Follows (length causes) (all_rules 0 causes) p) → Follows (length causes) (all_rules 0 causes) n
  concluded n c a b e h f s =
      let place = to_get (all_rules 0 causes) (rule n a b) (in_rules 0 causes n c (rule n a b) e (subst (λ m. IsIn (rule n a b) (rules_by m c)) (sym (zero-add n)) h)) in
      concludes place.0 (rule n a b) place.1 (within causes n c e) f s

  pub follows : (n : ℕ) → Stands causes n → Follows (length causes) (all_rules 0 causes) n
  follows n (always e) = concluded n CauseV.Always None None e (inl refl) nothing_needed nothing_needed
  follows n (of_one {a = a} e h) = concluded n (CauseV.One a) (Some a) None e (inl refl) (λ p g. this_needed a p g (follows a h)) nothing_needed
  follows n (of_first {a = a} {b = b} e h) = concluded n (CauseV.Either a b) (Some a) None e (inl refl) (λ p g. this_needed a p g (follows a h)) nothing_needed
  follows n (of_second {a = a} {b = b} e h) = concluded n (CauseV.Either a b) (Some b) None e (inr (inl refl)) (λ p g. this_needed b p g (follows b h)) nothing_needed
  follows n (of_both {a = a} {b = b} e h k) = concluded n (CauseV.Both a b) (Some a) (Some b) e (inl refl) (λ p g. this_needed a p g (follows a h)) (λ p g. this_needed b p g (follows b k))
