-- All offsets of what is told, from what is told at each.
use Rattle.std.proofs.Common.{◌≡◌, ◌↔◌, ◌⊎◌, inl, inr, ℕ, ◌+◌, ◌≤◌, List, [], ◌∷◌, length, map, drop, Some, slice_get, sym, subst}
use Rattle.std.specs.List.{Contains}
use Rattle.tree_nodes.specs.Syntax.Syntax as S
use Rattle.cddl_language.specs.Reading.{name_at}
use Rattle.lists.proofs.Lemmas.{at_head, either, first_or_later, later, none_in}
use Rattle.all_offsets.specs.Offsets.{AreOf, Gains}
use Rattle.check_text.proofs.OfRuleFaults.Rules.{none_left, rest_of, rule_at}
use Rattle.check_text.proofs.OfRuleFaults.Telling.{OneOf}

-- What was found so far, and what is told at the rules from this place on, is what is told at all.
pub record GathersRules (P : S.Rule → ℕ → Type 0) (all : List S.Rule) (i : ℕ) (offsets : List ℕ) : Type 0 where
  pub gather : (p : ℕ) → (Contains offsets p ⊎ OneOf P (drop i all) p) ↔ OneOf P all p

module _ (P : S.Rule → ℕ → Type 0) where
  pub begins_rules : (all : List S.Rule) (offsets : List ℕ) → offsets ≡ [] → GathersRules P all 0 offsets
  begins_rules all offsets e = record { gather = λ p. (λ h. either h (λ c. absurd (none_in p (subst (λ xs. Contains xs p) e c))) (λ k. k), λ k. inr k) }

  in_rules : (r : S.Rule) (more : List S.Rule) (p : ℕ) → OneOf P (r ∷ more) p ↔ (P r p ⊎ OneOf P more p)
  in_rules r more p = (to, from)
    where
      to : OneOf P (r ∷ more) p → P r p ⊎ OneOf P more p
      to k = either (first_or_later r more k.rule k.present) (λ same. inl (subst (λ q. P q p) (sym same) k.fault)) (λ g. inr (record { rule = k.rule; present = g; fault = k.fault }))

      from : P r p ⊎ OneOf P more p → OneOf P (r ∷ more) p
      from (inl k) = record { rule = r; present = at_head r more; fault = k }
      from (inr k) = record { rule = k.rule; present = later r more k.rule k.present; fault = k.fault }

  -- (starts: where the rules begin)
  pub goes_on_rules : (all : List S.Rule) (starts : List ℕ) (i at : ℕ) (old new : List ℕ) → starts ≡ map name_at all → slice_get starts i ≡ Some at → ((r : S.Rule) → slice_get all i ≡ Some r → at ≡ name_at r → Gains (P r) old new) → GathersRules P all i old → GathersRules P all (i + 1) new
  goes_on_rules all starts i at old new same is told g = by (rule_at all starts i at same is)
    where
      by : (r : S.Rule) × (slice_get all i ≡ Some r) × (at ≡ name_at r) → GathersRules P all (i + 1) new
      by (r, there, begins) = record { gather = λ p. (to p, from p) }
        where
          gains : Gains (P r) old new
          gains = told r there begins

          first : (p : ℕ) → (Contains old p ⊎ OneOf P (r ∷ drop (i + 1) all) p) ↔ OneOf P all p
          first p = subst (λ rs. (Contains old p ⊎ OneOf P rs p) ↔ OneOf P all p) (rest_of all i r there) (g.gather p)

          to : (p : ℕ) → Contains new p ⊎ OneOf P (drop (i + 1) all) p → OneOf P all p
          to p (inl c) = either ((gains p).0 c) (λ o. (first p).0 (inl o)) (λ k. (first p).0 (inr ((in_rules r (drop (i + 1) all) p).1 (inl k))))
          to p (inr m) = (first p).0 (inr ((in_rules r (drop (i + 1) all) p).1 (inr m)))

          from : (p : ℕ) → OneOf P all p → Contains new p ⊎ OneOf P (drop (i + 1) all) p
          from p k = either ((first p).1 k) (λ o. inl ((gains p).1 (inl o))) (λ m. either ((in_rules r (drop (i + 1) all) p).0 m) (λ t. inl ((gains p).1 (inr t))) inr)

  pub ends_rules : (all : List S.Rule) (starts : List ℕ) (i : ℕ) (offsets : List ℕ) → starts ≡ map name_at all → length starts ≤ i → GathersRules P all i offsets → AreOf (OneOf P all) offsets
  ends_rules all starts i offsets same l g p = (λ c. (g.gather p).0 (inl c), λ k. either ((g.gather p).1 k) (λ c. c) (λ m. absurd (none (subst (λ rs. OneOf P rs p) (none_left all starts i same l) m))))
    where
      none : OneOf P [] p → ⊥
      none m = none_in m.rule m.present
