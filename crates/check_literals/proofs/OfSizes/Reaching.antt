-- A search reaches just the rows to which its first row leads.
use Rattle.std.proofs.Common.{◌≡◌, ◌⊎◌, inl, inr, ℕ, zero, suc, ◌+◌, ◌-◌, ◌<◌, ◌≤◌, List, [], ◌∷◌, ◌++◌, length, set, Bool, true, false, cond, Some, slice_get, refl, sym, ap, subst, ◌∙◌, arith}
use Rattle.std.specs.Prelude.{nat_eq, not}
use Rattle.lists.proofs.Lemmas.{after_set, before_or_not, beyond_all as nothing_past, is_equal as equal_numbers, not_both, push_before as before_push, push_length, same_or_not, set_length, set_other as beside_set, set_there as at_set, test_equal, within}
use Rattle.check_literals.specs.declared.sizes.sources.Source.{Source}
use Rattle.check_literals.specs.Sizes.Sources.{In, IsPart, parts_in, view_at, viewed}
use Rattle.check_literals.specs.Sizes.Reach.{AreBelow, AreVisited, IsReached, IsSearch, Leads, here, onwards, State, found, gap, is_new, looked, unmarked, visited}
use Rattle.check_literals.proofs.OfSizes.Lists.{in_at, in_before, in_last, in_push, lower, place_in, same_some}

pub leads_to_part : (ss : List Source) (a b c : ℕ) → Leads ss a b → IsPart ss b c → Leads ss a c
leads_to_part ss a b c here p = onwards p here
leads_to_part ss a b c (onwards {b = x} q l) p = onwards q (leads_to_part ss x b c l p)

-- whether a row is new

new_within : (mark p : ℕ) (marks : List ℕ) → is_new mark (slice_get marks p) ≡ true → p < length marks
new_within mark p [] e = absurd (not_both false e refl)
new_within mark zero (m ∷ ms) e = omega arith
new_within mark (suc p) (m ∷ ms) e = let h = new_within mark p ms e in omega (arith, h)

new_unmarked : (mark p : ℕ) (marks : List ℕ) → is_new mark (slice_get marks p) ≡ true → slice_get marks p ≡ Some mark → ⊥
new_unmarked mark p marks e f = by (subst (λ o. is_new mark o ≡ true) f e)
  where
    by : not (nat_eq mark mark) ≡ true → ⊥
    by g = not_both _ g (ap not (test_equal mark mark refl))

old_marked : (mark p : ℕ) (marks : List ℕ) → is_new mark (slice_get marks p) ≡ false → p < length marks → slice_get marks p ≡ Some mark
old_marked mark p [] e l = absurd (omega (arith, l))
old_marked mark zero (m ∷ ms) e l = by (nat_eq m mark) refl e
  where
    by : (b : Bool) → nat_eq m mark ≡ b → not b ≡ false → Some m ≡ Some mark
    by true f g = ap Some (equal_numbers m mark f)
    by false f g = absurd (not_both _ refl g)
old_marked mark (suc p) (m ∷ ms) e l = old_marked mark p ms e (omega (arith, l))

-- how many are left

abbrev weight : Bool → ℕ
weight b = cond b 0 1

one_marked : (mark p : ℕ) (marks : List ℕ) → is_new mark (slice_get marks p) ≡ true → unmarked mark (set marks p mark) + 1 ≡ unmarked mark marks
one_marked mark p [] e = absurd (not_both false e refl)
one_marked mark zero (m ∷ ms) e = by (nat_eq m mark) refl e
  where
    by : (b : Bool) → nat_eq m mark ≡ b → not b ≡ true → (weight (nat_eq mark mark) + unmarked mark ms) + 1 ≡ weight (nat_eq m mark) + unmarked mark ms
    by true f g = absurd (not_both _ g refl)
    by false f g =
        let one : weight (nat_eq mark mark) ≡ weight true = ap weight (test_equal mark mark refl) in
        let two : weight (nat_eq m mark) ≡ weight false = ap weight f in
        omega (arith, one, two)
one_marked mark (suc p) (m ∷ ms) e = let h = one_marked mark p ms e in omega (arith, h)

pub looks_gap : (p : ℕ) (s : State) → gap (looked p s) ≡ gap s
looks_gap p s = by (is_new s.mark (slice_get s.marks p)) refl
  where
    by : (b : Bool) → is_new s.mark (slice_get s.marks p) ≡ b → gap (cond b (found p s) s) ≡ gap s
    by false e = refl
    by true e =
        let one = one_marked s.mark p s.marks e in
        let more = push_length s.reached p in
        omega (arith, one, more)

pub visits_gap : (ps : List ℕ) (s : State) → gap (visited ps s) ≡ gap s
visits_gap [] s = refl
visits_gap (p ∷ ps) s = visits_gap ps (looked p s) ∙ looks_gap p s

-- the mark stays

looks_mark : (p : ℕ) (s : State) → (looked p s).mark ≡ s.mark
looks_mark p s = by (is_new s.mark (slice_get s.marks p))
  where
    by : (b : Bool) → (cond b (found p s) s).mark ≡ s.mark
    by false = refl
    by true = refl

pub visits_mark : (ps : List ℕ) (s : State) → (visited ps s).mark ≡ s.mark
visits_mark [] s = refl
visits_mark (p ∷ ps) s = visits_mark ps (looked p s) ∙ looks_mark p s

-- what was reached stays

looks_stay : (p : ℕ) (s : State) (j a : ℕ) → slice_get s.reached j ≡ Some a → slice_get (looked p s).reached j ≡ Some a
looks_stay p s j a e = by (is_new s.mark (slice_get s.marks p))
  where
    by : (b : Bool) → slice_get (cond b (found p s) s).reached j ≡ Some a
    by false = e
    by true = before_push s.reached p j a e

pub visits_stay : (ps : List ℕ) (s : State) (j a : ℕ) → slice_get s.reached j ≡ Some a → slice_get (visited ps s).reached j ≡ Some a
visits_stay [] s j a e = e
visits_stay (p ∷ ps) s j a e = visits_stay ps (looked p s) j a (looks_stay p s j a e)

pub visits_keep : (ps : List ℕ) (s : State) (m : ℕ) → In s.reached m → In (visited ps s).reached m
visits_keep ps s m h = let p = place_in s.reached m h in in_at (visited ps s).reached p.0 m (visits_stay ps s p.0 m p.1)

-- What holds of a search stays. (The search begins with nothing, so `first` comes last.)

pub record IsKept (ss : List Source) (start : ℕ) (s : State) : Type 0 where
  pub all : length s.marks ≡ length ss
  pub marked : (m : ℕ) → slice_get s.marks m ≡ Some s.mark → In s.reached m
  pub reached : (m : ℕ) → In s.reached m → slice_get s.marks m ≡ Some s.mark
  pub only : (m : ℕ) → In s.reached m → Leads ss start m
  pub below : AreBelow (s.mark + 1) s.marks

pub kept_of : (ss : List Source) (start : ℕ) (s : State) → IsSearch ss start s → IsKept ss start s
kept_of ss start s h = record { all = h.all; marked = h.marked; reached = h.reached; only = h.only; below = h.below }

pub search_of : (ss : List Source) (start : ℕ) (s : State) → IsKept ss start s → (start < length ss → In s.reached start) → IsSearch ss start s
search_of ss start s h f = record { all = h.all; marked = h.marked; reached = h.reached; only = h.only; below = h.below; first = f }

module _ (ss : List Source) (start : ℕ) where
  finds : (p : ℕ) (s : State) → IsKept ss start s → is_new s.mark (slice_get s.marks p) ≡ true → Leads ss start p → IsKept ss start (found p s)
  finds p s h e l = record {
    all = set_length s.marks p s.mark ∙ h.all;
    marked = λ m f. elim (after_set s.marks p m s.mark s.mark f) [
      | inl q ↦ subst (λ n. In (s.reached ++ p ∷ []) n) q.0 (in_last s.reached p)
      | inr q ↦ in_before s.reached p m (h.marked m q.1)
    ];
    reached = λ m i. elim (in_push s.reached p m i) [
      | inl q ↦ subst (λ n. slice_get (set s.marks p s.mark) n ≡ Some s.mark) q (at_set s.marks p s.mark (new_within s.mark p s.marks e))
      | inr q ↦ elim (same_or_not p m) [
        | inl same ↦ subst (λ n. slice_get (set s.marks p s.mark) n ≡ Some s.mark) same (at_set s.marks p s.mark (new_within s.mark p s.marks e))
        | inr other ↦ beside_set s.marks p m s.mark other ∙ h.reached m q
      ]
    ];
    only = λ m i. elim (in_push s.reached p m i) [ inl q ↦ subst (Leads ss start) q l | inr q ↦ h.only m q ];
    below = λ n m f. elim (after_set s.marks p n s.mark m f) [
      | inl q ↦ (let e : s.mark ≡ m = q.1 in omega (arith, e))
      | inr q ↦ h.below n m q.1
    ];
  }

  pub looks : (p : ℕ) (s : State) → IsKept ss start s → (p < length ss → Leads ss start p) → IsKept ss start (looked p s)
  looks p s h l = by (is_new s.mark (slice_get s.marks p)) refl
    where
      by : (b : Bool) → is_new s.mark (slice_get s.marks p) ≡ b → IsKept ss start (cond b (found p s) s)
      by false e = h
      by true e = finds p s h e (l (let w = new_within s.mark p s.marks e in let all = h.all in omega (arith, w, all)))

  -- a row that was looked at is reached
  pub looks_in : (p : ℕ) (s : State) → IsKept ss start s → p < length ss → In (looked p s).reached p
  looks_in p s h l = by (is_new s.mark (slice_get s.marks p)) refl
    where
      by : (b : Bool) → is_new s.mark (slice_get s.marks p) ≡ b → In (cond b (found p s) s).reached p
      by false e = h.marked p (old_marked s.mark p s.marks e (let all = h.all in omega (arith, l, all)))
      by true e = in_last s.reached p

  pub visits : (ps : List ℕ) (s : State) → IsKept ss start s → ((p : ℕ) → In ps p → p < length ss → Leads ss start p) → IsKept ss start (visited ps s)
  visits [] s h l = h
  visits (p ∷ ps) s h l = visits ps (looked p s) (looks p s h (l p (inl refl))) (λ q i. l q (inr i))

  pub visits_in : (ps : List ℕ) (s : State) → IsKept ss start s → ((p : ℕ) → In ps p → p < length ss → Leads ss start p) → (b : ℕ) → In ps b → b < length ss → In (visited ps s).reached b
  visits_in [] s h l b i w = absurd i
  visits_in (p ∷ ps) s h l b (inl e) w = visits_keep ps (looked p s) b (subst (In (looked p s).reached) e (looks_in p s h (subst (λ n. n < length ss) (sym e) w)))
  visits_in (p ∷ ps) s h l b (inr i) w = visits_in ps (looked p s) (looks p s h (l p (inl refl))) (λ q j. l q (inr j)) b i w

  -- at the start

  pub begins : (mark : ℕ) (marks : List ℕ) → length marks ≡ length ss → AreBelow mark marks → IsKept ss start (record { marks = marks; mark = mark; reached = [] })
  begins mark marks all below = record {
    all = all;
    marked = λ m e. (let l = below m mark e in absurd (omega (arith, l)));
    reached = λ m i. absurd i;
    only = λ m i. absurd i;
    below = λ n m e. (let l = below n m e in omega (arith, l));
  }

  pub begins_with : (mark : ℕ) (marks : List ℕ) → length marks ≡ length ss → AreBelow mark marks → (s : State) → s ≡ looked start (record { marks = marks; mark = mark; reached = [] }) → IsSearch ss start s × (s.mark ≡ mark)
  begins_with mark marks all below s e =
      let s0 : State = record { marks = marks; mark = mark; reached = [] } in
      let k = begins mark marks all below in
      subst (λ u. IsSearch ss start u × (u.mark ≡ mark)) (sym e) (search_of ss start (looked start s0) (looks start s0 k (λ l. here)) (looks_in start s0 k), looks_mark start s0)

  -- the parts of one more row are looked at

  module _ (next : ℕ) (s : State) (h : IsSearch ss start s) (before : AreVisited ss next s.reached) (row : ℕ) (at : slice_get s.reached next ≡ Some row) (t : State) (is : t ≡ visited (parts_in (view_at ss row)) s) where
    abbrev ps : List ℕ
    ps = parts_in (view_at ss row)

    lead : (p : ℕ) → In ps p → p < length ss → Leads ss start p
    lead p i w = leads_to_part ss start row p (h.only row (in_at s.reached next row at)) (record { there = i; within = w })

    searched : IsSearch ss start (visited ps s)
    searched = search_of ss start (visited ps s) (visits ps s (kept_of ss start s h) lead) (λ l. visits_keep ps s start (h.first l))

    all_visited : AreVisited ss (next + 1) (visited ps s).reached
    all_visited j a l e b part = elim (same_or_not j next) [
      | inl same ↦
          (let row_is : row ≡ a = same_some row a (sym (visits_stay ps s next row at) ∙ (ap (slice_get (visited ps s).reached) (sym same) ∙ e)) in
          visits_in ps s (kept_of ss start s h) lead b (subst (λ n. In (parts_in (view_at ss n)) b) (sym row_is) part.there) part.within)
      | inr other ↦
          (let earlier : j < next = lower j next l other in
          let k = within s.reached next row at in
          let i : j < length s.reached = omega (arith, k, earlier) in
          let there = at_place s.reached j i in
          let same : there.0 ≡ a = same_some there.0 a (sym (visits_stay ps s j there.0 there.1) ∙ e) in
          visits_keep ps s b (before j a earlier (there.1 ∙ ap Some same) b part))
    ]
      where
        at_place : (xs : List ℕ) (i : ℕ) → i < length xs → (x : ℕ) × (slice_get xs i ≡ Some x)
        at_place [] i l = absurd (omega (arith, l))
        at_place (x ∷ xs) zero l = (x, refl)
        at_place (x ∷ xs) (suc i) l = at_place xs i (omega (arith, l))

    pub still_search : IsSearch ss start t
    still_search = subst (IsSearch ss start) (sym is) searched

    pub one_more_visited : AreVisited ss (next + 1) t.reached
    one_more_visited = subst (λ u. AreVisited ss (next + 1) u.reached) (sym is) all_visited

  pub smaller : (next : ℕ) (s t : State) (row : ℕ) → t ≡ visited (parts_in (view_at ss row)) s → next < length s.reached → gap t - (next + 1) < gap s - next
  smaller next s t row is l =
      let same : gap t ≡ gap s = ap gap is ∙ visits_gap (parts_in (view_at ss row)) s in
      let less : length s.reached ≤ gap s = omega arith in
      omega (arith, same, less, l)

  -- at the end

  module _ (s : State) (h : IsSearch ss start s) (next : ℕ) (end : length s.reached ≤ next) (before : AreVisited ss next s.reached) where
    part_in : (a b : ℕ) → In s.reached a → IsPart ss a b → In s.reached b
    part_in a b i p =
        let place = place_in s.reached a i in
        let w = within s.reached place.0 a place.1 in
        before place.0 a (omega (arith, w, end)) place.1 b p

    all_in : (a m : ℕ) → Leads ss a m → In s.reached a → In s.reached m
    all_in a m here i = i
    all_in a m (onwards {b = b} p l) i = all_in b m l (part_in a b i p)

    from_start : (m : ℕ) → Leads ss start m → m < length ss → start < length ss
    from_start m here w = w
    from_start m (onwards {b = b} p l) w = by (before_or_not start (length ss))
      where
        by : (start < length ss) ⊎ (length ss ≤ start) → start < length ss
        by (inl e) = e
        by (inr e) = absurd (subst (λ v. In (parts_in v) b) (ap viewed (nothing_past ss start e)) p.there)

    pub ends : IsReached ss start s.reached
    ends = record {
      only = h.only;
      all = λ m l w. all_in start m l (h.first (from_start m l w));
    }
