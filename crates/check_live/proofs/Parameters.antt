-- Facts and their numbers; the parameters of rules, one after the other.
use Rattle.std.proofs.Common.{◌≡◌, ℕ, ◌+◌, ◌<◌, ◌≤◌, ◌⊎◌, inl, inr, Bool, true, false, List, [], ◌∷◌, length, Some, slice_get, refl, sym, ap, subst, ◌∙◌, arith}
use Rattle.std.proofs.lemmas.Bool.{cases_lt, eqb-true}
use Rattle.std.proofs.lemmas.Option.{slice_get_within}
use Rattle.lists.proofs.Lemmas.{both}
use Rattle.check_terms.specs.declared.definition.Definition.{Definition}
use Rattle.graphs.specs.declared.implications.Implication.{Implication}
use Rattle.check_live.specs.contracts.facts.FactPartialEq.TheImpl as fact_eq
use Rattle.check_live.specs.contracts.facts.FactEq.TheImpl.Laws.{laws-law}
use Rattle.check_live.specs.contracts.facts.Kind.{the_type}
use Rattle.check_live.specs.declared.facts.Fact.{Fact}
use Rattle.check_live.specs.declared.facts.Kind.{Kind}
use Rattle.check_live.specs.declared.facts.Kind.TheVariants as KindV
use Rattle.check_live.specs.Facts.{AddsParameter, HasParameter, IsAfter, IsParameter, IsPast, IsPrepared, of_parameter, slot_of, use_of}
use Rattle.check_live.proofs.Lists.{get_added, get_before, get_cases, one_of}
use denote.Enum.Bare.{sameb, same_true}

pub fact_itself : (x : Fact) → (fact_eq.ghosts).eq x x ≡ true
fact_itself x = laws-law.refl x

same_kind : (f g : Kind) → sameb the_type f g ≡ true → f ≡ g
same_kind f g e = same_true the_type tt f g e

pub same_fact : (x y : Fact) → (fact_eq.ghosts).eq x y ≡ true → x ≡ y
same_fact x y h =
    let kind = both _ _ h in
    let parts = both _ _ kind.1 in
    λ i. record {
      kind = same_kind x.kind y.kind kind.0 i;
      of = eqb-true x.of y.of parts.0 i;
      part = eqb-true x.part y.part parts.1 i;
    }

abbrev is_slot : Kind → Bool
is_slot KindV.Use = false
is_slot KindV.Slot = true

pub other_kind : {X : Type 0} (a b c d : ℕ) → use_of a b ≡ slot_of c d → X
other_kind a b c d e = absurd (f (ap (λ (x : Fact). is_slot x.kind) e))
  where
    f : false ≡ true → ⊥
    f e = cc

pub same_use : (a b c d : ℕ) → use_of a b ≡ use_of c d → (a ≡ c) × (b ≡ d)
same_use a b c d e = (ap (λ (x : Fact). x.of) e, ap (λ (x : Fact). x.part) e)

pub same_slot : (a b c d : ℕ) → slot_of a b ≡ slot_of c d → (a ≡ c) × (b ≡ d)
same_slot a b c d e = (ap (λ (x : Fact). x.of) e, ap (λ (x : Fact). x.part) e)

-- a number stays, and a new one is of the fact that was added
stays : (old new : List Fact) (x : Fact) → IsAfter old x new → (n : ℕ) (y : Fact) → slice_get old n ≡ Some y → slice_get new n ≡ Some y
stays old new x (inl h) n y e = subst (λ ks. slice_get ks n ≡ Some y) (sym h) e
stays old new x (inr h) n y e = subst (λ ks. slice_get ks n ≡ Some y) (sym h) (get_before old (x ∷ []) n y e)

came : (old new : List Fact) (x : Fact) → IsAfter old x new → (n : ℕ) (y : Fact) → slice_get new n ≡ Some y → (slice_get old n ≡ Some y) ⊎ (y ≡ x)
came old new x (inl h) n y e = inl (subst (λ ks. slice_get ks n ≡ Some y) h e)
came old new x (inr h) n y e = elim (get_cases old x n y (subst (λ ks. slice_get ks n ≡ Some y) h e)) [ inl k ↦ inl k | inr k ↦ inr k.1 ]

pub none_prepared : (ds : List Definition) → IsPrepared ds 0 0 [] []
none_prepared ds = record {
  distinct = λ i j x e f. cc;
  steps = λ j i e. cc;
  uses = λ u r n e. cc;
  complete = λ r k d p h e f. elim h [ inl l ↦ absurd (omega (arith, l)) | inr l ↦ absurd (let m = l.1 in omega (arith, m)) ];
}

module _ (ds : List Definition) (rule place parameter : ℕ) (d : Definition) (old new : List Fact) (before after : List Implication) (rule_there : slice_get ds rule ≡ Some d) (there : slice_get d.parameters.items place ≡ Some parameter) (adds : AddsParameter rule d.name place parameter old new before after) where
  kept : (n : ℕ) (y : Fact) → slice_get old n ≡ Some y → slice_get new n ≡ Some y
  kept n y e = stays adds.between new (slot_of d.name place) adds.second_added n y (stays old adds.between (use_of rule parameter) adds.first_added n y e)

  came_so : (n : ℕ) (y : Fact) → slice_get new n ≡ Some y → (slice_get old n ≡ Some y) ⊎ ((y ≡ use_of rule parameter) ⊎ (y ≡ slot_of d.name place))
  came_so n y e = elim (came adds.between new (slot_of d.name place) adds.second_added n y e) [
    | inl h ↦ elim (came old adds.between (use_of rule parameter) adds.first_added n y h) [ inl k ↦ inl k | inr k ↦ inr (inl k) ]
    | inr h ↦ inr (inr h)
  ]

  kept_parameter : (r k : ℕ) (i : Implication) → IsParameter ds old r k i → IsParameter ds new r k i
  kept_parameter r k i h = record {
    definition = h.definition;
    parameter = h.parameter;
    used = h.used;
    rule_there = h.rule_there;
    parameter_there = h.parameter_there;
    used_there = kept h.used (use_of r h.parameter) h.used_there;
    slot_there = kept i.then (slot_of h.definition.name k) h.slot_there;
    first = h.first;
    second = h.second;
  }

  this : IsParameter ds new rule place (of_parameter adds.slot adds.used)
  this = record {
    definition = d;
    parameter = parameter;
    used = adds.used;
    rule_there = rule_there;
    parameter_there = there;
    used_there = stays adds.between new (slot_of d.name place) adds.second_added adds.used (use_of rule parameter) adds.used_there;
    slot_there = adds.slot_there;
    first = refl;
    second = refl;
  }

  this_there : HasParameter ds new after rule place
  this_there = record {
    at = length before;
    implication = of_parameter adds.slot adds.used;
    there = subst (λ is. slice_get is (length before) ≡ Some (of_parameter adds.slot adds.used)) (sym adds.implied) (get_added before (of_parameter adds.slot adds.used));
    is_parameter = this;
  }

  kept_there : (r k : ℕ) → HasParameter ds old before r k → HasParameter ds new after r k
  kept_there r k h = record {
    at = h.at;
    implication = h.implication;
    there = subst (λ is. slice_get is h.at ≡ Some h.implication) (sym adds.implied) (get_before before (of_parameter adds.slot adds.used ∷ []) h.at h.implication h.there);
    is_parameter = kept_parameter r k h.implication h.is_parameter;
  }

  past : (r k : ℕ) → IsPast rule (place + 1) r k → IsPast rule place r k ⊎ ((r ≡ rule) × (k ≡ place))
  past r k (inl l) = inl (inl l)
  past r k (inr h) = elim (order k place) [ inl l ↦ inl (inr (h.0, l)) | inr l ↦ inr (h.0, (let m = h.1 in omega (arith, l, m))) ]
    where
      order : (a b : ℕ) → (a < b) ⊎ (b ≤ a)
      order a b = cases_lt a b

  pub next_parameter : IsPrepared ds rule place old before → IsPrepared ds rule (place + 1) new after
  next_parameter h = record {
    distinct = adds.second_distinct (adds.first_distinct h.distinct);
    steps = λ j i e. elim (get_cases before (of_parameter adds.slot adds.used) j i (subst (λ is. slice_get is j ≡ Some i) adds.implied e)) [
      | inl f ↦ (let o = h.steps j i f in record { rule = o.rule; place = o.place; is = kept_parameter o.rule o.place i o.is })
      | inr f ↦ record { rule = rule; place = place; is = subst (IsParameter ds new rule place) (sym f.1) this }
    ];
    uses = λ u r n e. elim (came_so u (use_of r n) e) [
      | inl f ↦ h.uses u r n f
      | inr f ↦ elim f [
        | inl g ↦ (let s = same_use r n rule parameter g in record { definition = d; place = place; rule_there = subst (λ x. slice_get ds x ≡ Some d) (sym s.0) rule_there; there = there ∙ ap Some (sym s.1) })
        | inr g ↦ other_kind r n d.name place g
      ]
    ];
    complete = λ r k e p b x y. elim (past r k b) [
      | inl f ↦ kept_there r k (h.complete r k e p f x y)
      | inr f ↦ subst (λ a. HasParameter ds new after a k) (sym f.0) (subst (λ a. HasParameter ds new after rule a) (sym f.1) this_there)
    ];
  }

-- all parameters of the rule are past, so the next rule is looked at
pub next_rule : (ds : List Definition) (rule place : ℕ) (d : Definition) (keys : List Fact) (is : List Implication) → slice_get ds rule ≡ Some d → length d.parameters.items ≤ place → IsPrepared ds rule place keys is → IsPrepared ds (rule + 1) 0 keys is
next_rule ds rule place d keys is there l h = record {
  distinct = h.distinct;
  steps = h.steps;
  uses = h.uses;
  complete = λ r k e p b x y. elim b [ inl m ↦ by r k e p m x y (cases_lt r rule) | inr m ↦ absurd (let z = m.1 in omega (arith, z)) ];
}
  where
    by : (r k : ℕ) (e : Definition) (p : ℕ) → r < rule + 1 → slice_get ds r ≡ Some e → slice_get e.parameters.items k ≡ Some p → (r < rule) ⊎ (rule ≤ r) → HasParameter ds keys is r k
    by r k e p m x y (inl z) = h.complete r k e p (inl z) x y
    by r k e p m x y (inr z) =
        let at : r ≡ rule = omega (arith, m, z) in
        let one = one_of (slice_get ds rule) e d (subst (λ a. slice_get ds a ≡ Some e) at x) there in
        let w = slice_get_within e.parameters.items k p y in
        let same = ap (λ (a : Definition). length a.parameters.items) one in
        h.complete r k e p (inr (at, omega (arith, w, same, l))) x y
