-- What follows from the implications of parts.
use Rattle.std.proofs.Common.{◌≡◌, ℕ, zero, suc, ◌+◌, ◌⊎◌, inl, inr, Bool, true, false, if◌then◌else◌, ◌||◌, List, [], ◌∷◌, length, Option, Some, None, refl, sym, subst, arith, slice_get}
use Rattle.std.proofs.Math.Nat.{zero-add}
use Rattle.lists.proofs.Lemmas.{IsIn, from_get, in_cases, in_left, in_right, to_get, within}
use Rattle.graphs.specs.declared.implications.Implication.{Implication}
use Rattle.graphs.specs.Implications.Implications.{AreFollowing, Follows, concludes}
use Rattle.alternatives.specs.declared.Bounds.{Bounds}
use Rattle.alternatives.specs.declared.Part.{Part}
use Rattle.alternatives.specs.declared.Part.TheVariants as PartV
use Rattle.alternatives.specs.Splices.{Has, has_same, has_first, has_second, has_one, has_other, has_group}
use Rattle.check_maps.specs.MapFaults.Large.{AreFlags, HasLarge, group, further, IsLarge}
use Rattle.check_maps.specs.MapFaults.Rules.{all_rules, is_set, need, rule, rules_by}
use Rattle.check_maps.proofs.OfMapFaults.Lists.{from_set, to_set}

module _ (large : List Bool) where
  -- the implications of a part
  data IsRule (n : ℕ) : Part → Implication → Type 0 where
    by_part : {p : Part} {a : ℕ} → Has p a → IsRule n p (rule n (Some a))
    by_group : {b : Bounds} {a : ℕ} → (is_set large n ≡ true) ⊎ (is_set large a ≡ true) → IsRule n (PartV.Occurs b a) (rule n None)

  by_need : (n : ℕ) (b : Bounds) (a : ℕ) (x y : Bool) → is_set large n ≡ x → is_set large a ≡ y → IsRule n (PartV.Occurs b a) (rule n (if x || y then None else Some a))
  by_need n b a true y e g = by_group (inl e)
  by_need n b a false true e g = by_group (inr g)
  by_need n b a false false e g = by_part has_group

  as_rule : (n : ℕ) (p : Part) (i j : Implication) → i ≡ j → IsRule n p j → IsRule n p i
  as_rule n p i j e h = subst (IsRule n p) (sym e) h

  is_rule : (n : ℕ) (p : Part) (i : Implication) → IsIn i (rules_by large n p) → IsRule n p i
  is_rule n (PartV.Same a) i (inl e) = as_rule n _ i _ e (by_part has_same)
  is_rule n (PartV.Same a) i (inr h) = absurd h
  is_rule n (PartV.Both a b) i (inl e) = as_rule n _ i _ e (by_part has_first)
  is_rule n (PartV.Both a b) i (inr (inl e)) = as_rule n _ i _ e (by_part has_second)
  is_rule n (PartV.Both a b) i (inr (inr h)) = absurd h
  is_rule n (PartV.Either a b) i (inl e) = as_rule n _ i _ e (by_part has_one)
  is_rule n (PartV.Either a b) i (inr (inl e)) = as_rule n _ i _ e (by_part has_other)
  is_rule n (PartV.Either a b) i (inr (inr h)) = absurd h
  is_rule n (PartV.Occurs b a) i (inl e) = as_rule n _ i _ e (by_need n b a (is_set large n) (is_set large a) refl refl)
  is_rule n (PartV.Occurs b a) i (inr h) = absurd h
  is_rule n PartV.Refused i h = absurd h
  is_rule n (PartV.Entry b) i h = absurd h
  is_rule n PartV.Empty i h = absurd h
  is_rule n PartV.Nothing i h = absurd h

  -- those of all parts

  rule_in : (n : ℕ) (parts : List Part) (i : Implication) → IsIn i (all_rules large n parts) → (k : ℕ) × (p : Part) × (slice_get parts k ≡ Some p) × IsIn i (rules_by large (n + k) p)
  rule_in n [] i h = absurd h
  rule_in n (p ∷ parts) i h = by (in_cases (rules_by large n p) (all_rules large (n + 1) parts) i h) (rule_in (n + 1) parts i)
    where
      first : n ≡ n + 0
      first = omega arith

      later : (k : ℕ) → (n + 1) + k ≡ n + suc k
      later k = omega arith

      by : IsIn i (rules_by large n p) ⊎ IsIn i (all_rules large (n + 1) parts) → (IsIn i (all_rules large (n + 1) parts) → (k : ℕ) × (q : Part) × (slice_get parts k ≡ Some q) × IsIn i (rules_by large ((n + 1) + k) q)) → (k : ℕ) × (q : Part) × (slice_get (p ∷ parts) k ≡ Some q) × IsIn i (rules_by large (n + k) q)
      by (inl g) r = (0, p, refl, subst (λ m. IsIn i (rules_by large m p)) first g)
      by (inr g) r = let q = r g in (suc q.0, q.1, q.2, subst (λ m. IsIn i (rules_by large m q.1)) (later q.0) q.3)

  in_rules : (n : ℕ) (parts : List Part) (k : ℕ) (p : Part) (i : Implication) → slice_get parts k ≡ Some p → IsIn i (rules_by large (n + k) p) → IsIn i (all_rules large n parts)
  in_rules n [] k p i e h = cc
  in_rules n (q ∷ parts) zero p i e h = in_left (rules_by large n q) (all_rules large (n + 1) parts) i (subst (λ r. IsIn i (rules_by large n r)) same (subst (λ m. IsIn i (rules_by large m p)) first h))
    where
      first : n + 0 ≡ n
      first = omega arith

      same : p ≡ q
      same = cc
  in_rules n (q ∷ parts) (suc k) p i e h = in_right (rules_by large n q) (all_rules large (n + 1) parts) i (in_rules (n + 1) parts k p i e (subst (λ m. IsIn i (rules_by large m p)) later h))
    where
      later : n + suc k ≡ (n + 1) + k
      later = omega arith

  module _ (parts : List Part) (are : AreFlags (IsLarge parts) parts large) where
    -- What follows has such a part.

    is_large : (n : ℕ) → is_set large n ≡ true → IsLarge parts n
    is_large n e = (are.each n).0 (from_set large n e)

    large_one : (n a : ℕ) → (is_set large n ≡ true) ⊎ (is_set large a ≡ true) → IsLarge parts n ⊎ IsLarge parts a
    large_one n a (inl e) = inl (is_large n e)
    large_one n a (inr e) = inr (is_large a e)

    by_rule : (n : ℕ) (p : Part) (i : Implication) → slice_get parts n ≡ Some p → IsRule n p i → ((q : ℕ) → i.first ≡ Some q → HasLarge parts q) → HasLarge parts i.then
    by_rule n p i e (by_part {a = a} h) f = further (record { part = p; there = e; has = h }) (f a refl)
    by_rule n p i e (by_group {b = b} {a = a} h) f = group b a e (large_one n a h)

    has_large : (facts n : ℕ) → Follows facts (all_rules large 0 parts) n → HasLarge parts n
    has_large facts n (concludes place i at l first second) =
        let r = rule_in 0 parts i (from_get (all_rules large 0 parts) place i at) in
        by_rule r.0 r.1 i r.2 (is_rule r.0 r.1 i (subst (λ m. IsIn i (rules_by large m r.1)) (zero-add r.0) r.3)) (λ q e. has_large facts q (first q e))

    -- What has such a part follows.

    abbrev Found : ℕ → Type 0
    Found n = Follows (length parts) (all_rules large 0 parts) n

    concluded : (n : ℕ) (p : Part) (o : Option ℕ) → slice_get parts n ≡ Some p → IsIn (rule n o) (rules_by large n p) → ((q : ℕ) → o ≡ Some q → Found q) → Found n
    concluded n p o e h f =
        let place = to_get (all_rules large 0 parts) (rule n o) (in_rules 0 parts n p (rule n o) e (subst (λ m. IsIn (rule n o) (rules_by large m p)) (sym (zero-add n)) h)) in
        concludes place.0 (rule n o) place.1 (within parts n p e) f (λ q i. absurd (none q i))
      where
        none : (q : ℕ) → None ≡ Some q → ⊥
        none q i = cc

    this_one : (a q : ℕ) → Some a ≡ Some q → Found a → Found q
    this_one a q e h = subst Found same h
      where
        same : a ≡ q
        same = cc

    needed : (n a : ℕ) (b : Bounds) → slice_get parts n ≡ Some (PartV.Occurs b a) → ((q : ℕ) → need large n a ≡ Some q → Found q) → Found n
    needed n a b e f = concluded n (PartV.Occurs b a) (need large n a) e (inl refl) f

    no_need : (a q : ℕ) (x y : Bool) → (x ≡ true) ⊎ (y ≡ true) → (if x || y then None else Some a) ≡ Some q → ⊥
    no_need a q true y h e = cc
    no_need a q false true h e = cc
    no_need a q false false (inl h) e = cc
    no_need a q false false (inr h) e = cc

    only_need : (a q : ℕ) (x y : Bool) → (if x || y then None else Some a) ≡ Some q → a ≡ q
    only_need a q true y e = cc
    only_need a q false true e = cc
    only_need a q false false e = cc

    is_set_one : (n a : ℕ) → IsLarge parts n ⊎ IsLarge parts a → (is_set large n ≡ true) ⊎ (is_set large a ≡ true)
    is_set_one n a (inl h) = inl (to_set large n ((are.each n).1 h))
    is_set_one n a (inr h) = inr (to_set large a ((are.each a).1 h))

    by_has : (n m : ℕ) (p : Part) → slice_get parts n ≡ Some p → Has p m → Found m → Found n
    by_has n m p e has_same h = concluded n p (Some m) e (inl refl) (λ q g. this_one m q g h)
    by_has n m p e has_first h = concluded n p (Some m) e (inl refl) (λ q g. this_one m q g h)
    by_has n m p e has_second h = concluded n p (Some m) e (inr (inl refl)) (λ q g. this_one m q g h)
    by_has n m p e has_one h = concluded n p (Some m) e (inl refl) (λ q g. this_one m q g h)
    by_has n m p e has_other h = concluded n p (Some m) e (inr (inl refl)) (λ q g. this_one m q g h)
    by_has n m p e (has_group {b = b}) h = needed n m b e (λ q g. subst Found (only_need m q (is_set large n) (is_set large m) g) h)

    follows : (n : ℕ) → HasLarge parts n → Found n
    follows n (group b a e h) = needed n a b e (λ q g. absurd (no_need a q (is_set large n) (is_set large a) (is_set_one n a h) g))
    follows n (further {m = m} l h) = by_has n m l.part l.there l.has (follows m h)

    pub having : (flags : List Bool) → AreFollowing (length parts) (all_rules large 0 parts) flags → AreFlags (HasLarge parts) parts flags
    having flags f = record { all = f.all; each = λ n. ((λ g. has_large (length parts) n ((f.each n).0 g)), (λ h. (f.each n).1 (follows n h))) }
