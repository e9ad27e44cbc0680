-- Each step of the search keeps what holds on the way, and at its end the flags are those of what follows.
use Rattle.std.proofs.Common.{◌≡◌, ◌⊎◌, ℕ, zero, suc, ◌+◌, ◌<◌, ◌≤◌, List, [], ◌∷◌, ◌++◌, length, set, replicate, Bool, true, false, cond, Option, Some, None, inl, inr, slice_get, slice_index_or, refl, sym, ap, subst, ◌∙◌, arith}
use Rattle.std.proofs.lemmas.Option.{slice_get-get_or}
use Rattle.lists.proofs.Lemmas.{after_set, never_some, not_both, push_length, replicate_at, replicate_length, same_or_not, set_length}
use Rattle.graphs.specs.declared.implications.Implication.{Implication}
use Rattle.graphs.specs.Implications.Implications.{Follows, concludes, AreFollowing}
use Rattle.graphs.specs.Implications.Rules.{premises_of}
use Rattle.graphs.specs.Implications.Search.{State, met, all_met, ready, found, looked, In, Waits, at_first, at_second, IsKept, Nowhere, HasPremise, unset, gap, IsEnded}
use Rattle.graphs.proofs.OfImplications.Lists.{same_some, index_other, index_set, read_true, true_read, read_within, false_within, in_before, in_last, in_push}
use Rattle.graphs.proofs.OfImplications.Places.{has_first, has_second}
use Rattle.graphs.proofs.OfImplications.Least.{least}

-- what is ready

pub record AreAll (a b c : Bool) : Type 0 where
  pub one : a ≡ true
  pub two : b ≡ true
  pub three : c ≡ false

parts : (a b c : Bool) → all_met a b c ≡ true → AreAll a b c
parts true true false e = record { one = refl; two = refl; three = refl }
parts true true true e = absurd (not_both true refl (sym e))
parts true false c e = absurd (not_both true refl (sym e))
parts false b c e = absurd (not_both true refl (sym e))

whole : (a b c : Bool) → a ≡ true → b ≡ true → c ≡ false → all_met a b c ≡ true
whole true true false e f g = refl
whole true true true e f g = absurd (not_both true refl g)
whole true false c e f g = absurd (not_both false f refl)
whole false b c e f g = absurd (not_both false e refl)

pub ready_within : (flags : List Bool) (i : Implication) → ready flags i ≡ true → i.then < length flags
ready_within flags i e = false_within flags i.then (parts _ _ _ e).three

premise_flagged : (flags : List Bool) (o : Option ℕ) → met flags o ≡ true → (p : ℕ) → o ≡ Some p → slice_get flags p ≡ Some true
premise_flagged flags None e p q = absurd (never_some p q)
premise_flagged flags (Some r) e p q = subst (λ n. slice_get flags n ≡ Some true) (same_some r p q) (read_true flags r e)

flagged_premise : (flags : List Bool) (o : Option ℕ) → ((p : ℕ) → o ≡ Some p → slice_get flags p ≡ Some true) → met flags o ≡ true
flagged_premise flags None h = refl
flagged_premise flags (Some r) h = true_read flags r (h r refl)

was_met : (flags : List Bool) (x : ℕ) (o : Option ℕ) → met (set flags x true) o ≡ true → (met flags o ≡ true) ⊎ (o ≡ Some x)
was_met flags x None e = inl refl
was_met flags x (Some p) e = elim (same_or_not x p) [ inl q ↦ inr (ap Some (sym q)) | inr n ↦ inl (sym (index_other flags x p true false n) ∙ e) ]

-- where it became ready, the new fact is a premise of it
became_ready : (flags : List Bool) (x : ℕ) (i : Implication) → ready (set flags x true) i ≡ true → (ready flags i ≡ true) ⊎ ((i.first ≡ Some x) ⊎ (i.second ≡ Some x))
became_ready flags x i e =
    let t = parts _ _ _ e in
    elim (was_met flags x i.first t.one) [
      | inr q ↦ inr (inl q)
      | inl one ↦ elim (was_met flags x i.second t.two) [
        | inr q ↦ inr (inr q)
        | inl two ↦ elim (same_or_not x i.then) [
          | inl q ↦ absurd (not_both _ (subst (λ n. slice_index_or (set flags x true) n true ≡ true) q (index_set flags x)) t.three)
          | inr n ↦ inl (whole _ _ _ one two (sym (index_other flags x i.then true true n) ∙ t.three))
        ]
      ]
    ]

not_ready : (flags : List Bool) (i : Implication) → ready (set flags i.then true) i ≡ true → ⊥
not_ready flags i e = not_both _ (index_set flags i.then) (parts _ _ _ e).three

still_waits : (i : Implication) (waiting : List ℕ) (x : ℕ) → Waits i waiting → Waits i (waiting ++ x ∷ [])
still_waits i waiting x (at_first p e h) = at_first p e (in_before waiting x p h)
still_waits i waiting x (at_second p e h) = at_second p e (in_before waiting x p h)

-- how many are left

one_set : (flags : List Bool) (x : ℕ) → slice_index_or flags x true ≡ false → unset (set flags x true) + 1 ≡ unset flags
one_set [] x e = absurd (not_both true refl e)
one_set (true ∷ flags) zero e = absurd (not_both true refl e)
one_set (false ∷ flags) zero e = omega arith
one_set (true ∷ flags) (suc x) e = one_set flags x e
one_set (false ∷ flags) (suc x) e = let h = one_set flags x e in omega (arith, h)

pub same_gap : (i : Implication) (s : State) → gap (looked i s) ≡ gap s
same_gap i s = by (ready s.flags i) refl
  where
    by : (b : Bool) → ready s.flags i ≡ b → gap (cond b (found i.then s) s) ≡ gap s
    by false e = refl
    by true e =
        let one = one_set s.flags i.then (parts (met s.flags i.first) (met s.flags i.second) (slice_index_or s.flags i.then true) e).three in
        let more = push_length s.waiting i.then in
        omega (arith, one, more)

module _ (facts : ℕ) (is : List Implication) where
  pub begins : IsKept facts is (λ k. 0 ≤ k) (record { flags = replicate facts false; waiting = [] })
  begins = record {
    all = replicate_length facts false;
    sound = λ x e. absurd (not_both false (replicate_at facts false x true e) refl);
    within = λ x h. absurd h;
    left = λ k i e r. inr (omega arith);
  }

  -- others are at hand
  pub at_hand : (P Q : ℕ → Type 0) (s : State) → ((k : ℕ) (i : Implication) → slice_get is k ≡ Some i → P k → Q k) → IsKept facts is P s → IsKept facts is Q s
  at_hand P Q s f h = record {
    all = h.all;
    sound = h.sound;
    within = h.within;
    left = λ k i e r. elim (h.left k i e r) [ inl w ↦ inl w | inr p ↦ inr (f k i e p) ];
  }

  -- the implication of this number is looked at
  module _ (P : ℕ → Type 0) (s : State) (k : ℕ) (i : Implication) (at : slice_get is k ≡ Some i) (h : IsKept facts is P s) where
    same_one : (j : ℕ) (v : Implication) → slice_get is j ≡ Some v → j ≡ k → i ≡ v
    same_one j v e q = same_some i v (sym at ∙ (ap (λ n. slice_get is n) (sym q) ∙ e))

    follows : ready s.flags i ≡ true → Follows facts is i.then
    follows e =
        let t = parts _ _ _ e in
        let l = ready_within s.flags i e in
        let all = h.all in
        concludes k i at (omega (arith, l, all)) (λ p q. h.sound p (premise_flagged s.flags i.first t.one p q)) (λ p q. h.sound p (premise_flagged s.flags i.second t.two p q))

    waits_now : (j : ℕ) (v : Implication) → slice_get is j ≡ Some v → (j ≡ k → ⊥) → (ready s.flags v ≡ true) ⊎ ((v.first ≡ Some i.then) ⊎ (v.second ≡ Some i.then)) → Waits v (s.waiting ++ i.then ∷ []) ⊎ (P j × (j ≡ k → ⊥))
    waits_now j v e n (inl r) = elim (h.left j v e r) [ inl w ↦ inl (still_waits v s.waiting i.then w) | inr p ↦ inr (p, n) ]
    waits_now j v e n (inr (inl q)) = inl (at_first i.then q (in_last s.waiting i.then))
    waits_now j v e n (inr (inr q)) = inl (at_second i.then q (in_last s.waiting i.then))

    by_ready : (b : Bool) → ready s.flags i ≡ b → IsKept facts is (λ j. P j × (j ≡ k → ⊥)) (cond b (found i.then s) s)
    by_ready false e = record {
      all = h.all;
      sound = h.sound;
      within = h.within;
      left = λ j v f r. elim (same_or_not j k) [
        | inl q ↦ absurd (not_both (ready s.flags v) r (subst (λ w. ready s.flags w ≡ false) (same_one j v f q) e))
        | inr n ↦ elim (h.left j v f r) [ inl w ↦ inl w | inr p ↦ inr (p, n) ]
      ];
    }
    by_ready true e = record {
      all = set_length s.flags i.then true ∙ h.all;
      sound = λ x f. elim (after_set s.flags i.then x true true f) [ inl q ↦ subst (Follows facts is) q.0 (follows e) | inr q ↦ h.sound x q.1 ];
      within = λ x w. elim (in_push s.waiting i.then x w) [
        | inl q ↦ (let l = ready_within s.flags i e in let all = h.all in omega (arith, l, all, q))
        | inr t ↦ h.within x t
      ];
      left = λ j v f r. elim (same_or_not j k) [
        | inl q ↦ absurd (not_ready s.flags v (subst (λ w. ready (set s.flags w.then true) v ≡ true) (same_one j v f q) r))
        | inr n ↦ waits_now j v f n (became_ready s.flags i.then v r)
      ];
    }

    pub looks : IsKept facts is (λ j. P j × (j ≡ k → ⊥)) (looked i s)
    looks = by_ready (ready s.flags i) refl

  pub looks_at : (P : ℕ → Type 0) (s t : State) (k : ℕ) (d : Implication) → k < length is → IsKept facts is P s → t ≡ looked (slice_index_or is k d) s → IsKept facts is (λ j. P j × (j ≡ k → ⊥)) t
  looks_at P s t k d l h e = subst (IsKept facts is (λ j. P j × (j ≡ k → ⊥))) (sym e) (looks P s k (slice_index_or is k d) (slice_get-get_or is k d l) h)

  -- a fact is taken from those that wait
  module _ (flags : List Bool) (rest : List ℕ) (x : ℕ) (h : IsKept facts is Nowhere (record { flags = flags; waiting = rest ++ x ∷ [] })) where
    taken : (k : ℕ) (i : Implication) → slice_get is k ≡ Some i → Waits i (rest ++ x ∷ []) → Waits i rest ⊎ HasPremise (premises_of facts is) x k
    taken k i at (at_first p e w) = elim (in_push rest x p w) [ inl q ↦ inr (has_first facts is k x i at (e ∙ ap Some (sym q))) | inr t ↦ inl (at_first p e t) ]
    taken k i at (at_second p e w) = elim (in_push rest x p w) [ inl q ↦ inr (has_second facts is k x i at (e ∙ ap Some (sym q))) | inr t ↦ inl (at_second p e t) ]

    pub takes : IsKept facts is (HasPremise (premises_of facts is) x) (record { flags = flags; waiting = rest })
    takes = record {
      all = h.all;
      sound = h.sound;
      within = λ y w. h.within y (in_before rest x y w);
      left = λ k i e r. elim (h.left k i e r) [ inl w ↦ taken k i e w | inr p ↦ absurd p ];
    }

    pub taken_within : x < facts
    taken_within = h.within x (in_last rest x)

  -- the end

  none_wait : (i : Implication) (waiting : List ℕ) → waiting ≡ [] → Waits i waiting → ⊥
  none_wait i waiting e (at_first p q w) = subst (λ ws. In ws p) e w
  none_wait i waiting e (at_second p q w) = subst (λ ws. In ws p) e w

  pub are_following : (s : State) → IsEnded facts is s → AreFollowing facts is s.flags
  are_following s h = record {
    all = h.kept.all;
    each = λ x. (h.kept.sound x, λ f. least facts is (λ y. slice_get s.flags y ≡ Some true) all_flagged x f);
  }
    where
      by_flag : (place : ℕ) (i : Implication) → slice_get is place ≡ Some i → i.then < facts → met s.flags i.first ≡ true → met s.flags i.second ≡ true → (b : Bool) → slice_index_or s.flags i.then true ≡ b → slice_get s.flags i.then ≡ Some true
      by_flag place i at l one two true e = let all = h.kept.all in read_within s.flags i.then (omega (arith, l, all)) e
      by_flag place i at l one two false e = elim (h.kept.left place i at (whole _ _ _ one two e)) [ inl w ↦ absurd (none_wait i s.waiting h.ended w) | inr p ↦ absurd p ]

      all_flagged : (place : ℕ) (i : Implication) → slice_get is place ≡ Some i → i.then < facts → ((p : ℕ) → i.first ≡ Some p → slice_get s.flags p ≡ Some true) → ((p : ℕ) → i.second ≡ Some p → slice_get s.flags p ≡ Some true) → slice_get s.flags i.then ≡ Some true
      all_flagged place i at l one two = by_flag place i at l (flagged_premise s.flags i.first one) (flagged_premise s.flags i.second two) (slice_index_or s.flags i.then true) refl
