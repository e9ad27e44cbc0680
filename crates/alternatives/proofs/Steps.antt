-- Each step of the search keeps what holds on the way, and at its end all summaries are right.
use Rattle.std.proofs.Common.{◌≡◌, ◌⊎◌, ℕ, zero, suc, ◌+◌, ◌-◌, ◌<◌, ◌≤◌, List, [], ◌∷◌, ◌++◌, length, set, replicate, Bool, true, false, if◌then◌else◌, Option, Some, None, inl, inr, slice_get, slice_index_or, refl, sym, ap, subst, ◌∙◌, arith}
use Rattle.std.proofs.lemmas.Option.{slice_get-get_or}
use Rattle.lists.proofs.Lemmas.{before_or_not as less_or, never_some, push_before, push_length, push_there, replicate_length, set_length, set_there, take_length, there as there_is, within}
use Rattle.alternatives.specs.declared.Bounds.{Bounds}
use Rattle.alternatives.specs.declared.Part.{Part}
use Rattle.alternatives.specs.declared.Part.TheVariants.{Refused, Entry, Empty, Nothing, Same, Both, Either, Occurs}
use Rattle.alternatives.specs.declared.summary.Summary.{Summary}
use Rattle.alternatives.specs.Splices.{Alternatives, ways, occurring, HasAlternatives, stands, Splices, entry, empty, nothing, same, both, either, occurs, Has, has_same, has_first, has_second, has_one, has_other, has_group, LeadsTo}
use Rattle.alternatives.specs.Summaries.{IsSummary, AreSummaries}
use Rattle.alternatives.specs.Search.{State, LeadsOn, leads, leads_on, IsOnPath, IsKept, IsEnded, Keeps, unseen, or_else, next_of, entered, left, at, value, joining, occurring_so, both_summary, either_summary, gap}
use Rattle.alternatives.proofs.Once.{same_some, splices_at, join_to, no_round, once}
use Rattle.alternatives.proofs.Lists.{true_false, read_there, read_past, false_there, after_set, still_true, after_push, take_there, take_before, replicate_at, none_left, one_seen}
use Rattle.alternatives.proofs.Summing.{of_entry, of_empty, of_nothing, of_both, of_either, of_occurring, Agree}

-- what is not yet seen

is_unseen : (seen : List Bool) (n c : ℕ) → unseen seen n ≡ Some c → (n ≡ c) × (slice_index_or seen n true ≡ false)
is_unseen seen n c e = by (slice_index_or seen n true) refl e
  where
    by : (b : Bool) → slice_index_or seen n true ≡ b → (if b then None else Some n) ≡ Some c → (n ≡ c) × (slice_index_or seen n true ≡ false)
    by true p q = absurd (never_some c q)
    by false p q = (same_some n c q, p)

is_seen : (seen : List Bool) (n : ℕ) → unseen seen n ≡ None → slice_index_or seen n true ≡ true
is_seen seen n e = by (slice_index_or seen n true) refl e
  where
    by : (b : Bool) → slice_index_or seen n true ≡ b → (if b then None else Some n) ≡ None → slice_index_or seen n true ≡ true
    by true p q = p
    by false p q = absurd (never_some n (sym q))

either_some : (o p : Option ℕ) (c : ℕ) → or_else o p ≡ Some c → (o ≡ Some c) ⊎ (p ≡ Some c)
either_some (Some n) p c e = inl e
either_some None p c e = inr e

both_none : (o p : Option ℕ) → or_else o p ≡ None → (o ≡ None) × (p ≡ None)
both_none (Some n) p e = absurd (never_some n (sym e))
both_none None p e = (refl, e)

pub record IsNext (seen : List Bool) (p : Part) (c : ℕ) : Type 0 where
  pub has : Has p c
  pub unseen : slice_index_or seen c true ≡ false

one_next : (seen : List Bool) (p : Part) (n c : ℕ) → Has p n → unseen seen n ≡ Some c → IsNext seen p c
one_next seen p n c h e = let u = is_unseen seen n c e in record { has = subst (Has p) u.0 h; unseen = subst (λ k. slice_index_or seen k true ≡ false) u.0 u.1 }

pub is_next : (seen : List Bool) (p : Part) (c : ℕ) → next_of seen p ≡ Some c → IsNext seen p c
is_next seen Refused c e = absurd (never_some c e)
is_next seen (Entry b) c e = absurd (never_some c e)
is_next seen Empty c e = absurd (never_some c e)
is_next seen Nothing c e = absurd (never_some c e)
is_next seen (Same a) c e = one_next seen (Same a) a c has_same e
is_next seen (Both a b) c e = elim (either_some _ _ c e) [ inl h ↦ one_next seen (Both a b) a c has_first h | inr h ↦ one_next seen (Both a b) b c has_second h ]
is_next seen (Either a b) c e = elim (either_some _ _ c e) [ inl h ↦ one_next seen (Either a b) a c has_one h | inr h ↦ one_next seen (Either a b) b c has_other h ]
is_next seen (Occurs o a) c e = one_next seen (Occurs o a) a c has_group e

pub all_seen : (seen : List Bool) (p : Part) → next_of seen p ≡ None → (c : ℕ) → Has p c → slice_index_or seen c true ≡ true
all_seen seen Refused e c h = elim h [ ]
all_seen seen (Entry b) e c h = elim h [ ]
all_seen seen Empty e c h = elim h [ ]
all_seen seen Nothing e c h = elim h [ ]
all_seen seen (Same a) e c has_same = is_seen seen a e
all_seen seen (Both a b) e c has_first = is_seen seen a (both_none _ _ e).0
all_seen seen (Both a b) e c has_second = is_seen seen b (both_none _ _ e).1
all_seen seen (Either a b) e c has_one = is_seen seen a (both_none _ _ e).0
all_seen seen (Either a b) e c has_other = is_seen seen b (both_none _ _ e).1
all_seen seen (Occurs o a) e c has_group = is_seen seen a e

-- the summary of a part by those of the parts that it has

module _ (parts : List Part) (n : ℕ) where
  no_part : {a : ℕ} {p : Part} → slice_get parts n ≡ Some p → ((mss : Alternatives) → HasAlternatives parts a mss → ⊥) → ((mss : Alternatives) → Splices parts n p mss → (kss : Alternatives) × HasAlternatives parts a kss) → IsSummary parts n None
  no_part {p = p} e h f = λ mss d. let k = f mss (splices_at parts p d e) in h k.0 k.1

  of_same : (a : ℕ) → slice_get parts n ≡ Some (Same a) → (o : Option Summary) → IsSummary parts a o → IsSummary parts n o
  of_same a e (Some s) h = record { alternatives = h.alternatives; stands_for = stands e (same h.stands_for); described = h.described }
  of_same a e None h = no_part e h inner
    where
      inner : (mss : Alternatives) → Splices parts n (Same a) mss → (kss : Alternatives) × HasAlternatives parts a kss
      inner mss (same d) = (_, d)

  of_two : (a b : ℕ) → slice_get parts n ≡ Some (Both a b) → (o p : Option Summary) → IsSummary parts a o → IsSummary parts b p → IsSummary parts n (joining both_summary o p)
  of_two a b e (Some s) (Some t) h k = record { alternatives = ways h.alternatives k.alternatives; stands_for = stands e (both h.stands_for k.stands_for); described = of_both _ _ s t h.described k.described }
  of_two a b e None p h k = no_part e h inner
    where
      inner : (mss : Alternatives) → Splices parts n (Both a b) mss → (kss : Alternatives) × HasAlternatives parts a kss
      inner mss (both d f) = (_, d)
  of_two a b e (Some s) None h k = no_part e k inner
    where
      inner : (mss : Alternatives) → Splices parts n (Both a b) mss → (kss : Alternatives) × HasAlternatives parts b kss
      inner mss (both d f) = (_, f)

  of_choice : (a b : ℕ) → slice_get parts n ≡ Some (Either a b) → (o p : Option Summary) → IsSummary parts a o → IsSummary parts b p → IsSummary parts n (joining either_summary o p)
  of_choice a b e (Some s) (Some t) h k = record { alternatives = h.alternatives ++ k.alternatives; stands_for = stands e (either h.stands_for k.stands_for); described = of_either _ _ s t h.described k.described }
  of_choice a b e None p h k = no_part e h inner
    where
      inner : (mss : Alternatives) → Splices parts n (Either a b) mss → (kss : Alternatives) × HasAlternatives parts a kss
      inner mss (either d f) = (_, d)
  of_choice a b e (Some s) None h k = no_part e k inner
    where
      inner : (mss : Alternatives) → Splices parts n (Either a b) mss → (kss : Alternatives) × HasAlternatives parts b kss
      inner mss (either d f) = (_, f)

  of_group : (b : Bounds) (a : ℕ) → slice_get parts n ≡ Some (Occurs b a) → (o : Option Summary) → IsSummary parts a o → IsSummary parts n (occurring_so b o)
  of_group b a e None h = no_part e h inner
    where
      inner : (mss : Alternatives) → Splices parts n (Occurs b a) mss → (kss : Alternatives) × HasAlternatives parts a kss
      inner mss (occurs d f) = (_, d)
  of_group b a e (Some s) h = agreed _ _ refl (of_occurring b.least b.most h.alternatives s h.described)
    where
      refused : {mss : Alternatives} → occurring b.least b.most h.alternatives ≡ None → Splices parts n (Occurs b a) mss → ⊥
      refused {mss = mss} g (occurs {mss = kss} d f) = never_some mss (sym g ∙ (ap (occurring b.least b.most) (once parts h.stands_for d) ∙ f))

      agreed : (r : Option Alternatives) (o : Option Summary) → occurring b.least b.most h.alternatives ≡ r → Agree r o → IsSummary parts n o
      agreed (Some mss) (Some t) g d = record { alternatives = mss; stands_for = stands e (occurs h.stands_for g); described = d }
      agreed None None g d = λ mss d. refused g (splices_at parts (Occurs b a) d e)
      agreed (Some mss) None g d = absurd d
      agreed None (Some t) g d = absurd d

  pub value_is : (ss : List (Option Summary)) (p : Part) → slice_get parts n ≡ Some p → ((c : ℕ) → Has p c → IsSummary parts c (at ss c)) → IsSummary parts n (value ss p)
  value_is ss Refused e h = λ mss d. elim (splices_at parts Refused d e) [ ]
  value_is ss (Entry b) e h = record { alternatives = _; stands_for = stands e entry; described = of_entry n b }
  value_is ss Empty e h = record { alternatives = _; stands_for = stands e empty; described = of_empty }
  value_is ss Nothing e h = record { alternatives = _; stands_for = stands e nothing; described = of_nothing }
  value_is ss (Same a) e h = of_same a e (at ss a) (h a has_same)
  value_is ss (Both a b) e h = of_two a b e (at ss a) (at ss b) (h a has_first) (h b has_second)
  value_is ss (Either a b) e h = of_choice a b e (at ss a) (at ss b) (h a has_one) (h b has_other)
  value_is ss (Occurs b a) e h = of_group b a e (at ss a) (h a has_group)

-- along the path

module _ (parts : List Part) (s : State) (kept : IsKept parts s) where
  along : (k i x y : ℕ) → slice_get s.path i ≡ Some x → slice_get s.path (i + k) ≡ Some y → (x ≡ y) ⊎ LeadsOn parts x y
  along zero i x y e f = inl (same_some x y (sym e ∙ (ap (slice_get s.path) (omega arith) ∙ f)))
  along (suc k) i x y e f =
      let l = within s.path (i + suc k) y f in
      let z = there_is s.path (i + 1) (omega (arith, l)) in
      let t = kept.linked i x z.0 e z.1 in
      elim (along k (i + 1) z.0 y z.1 (ap (slice_get s.path) (omega arith) ∙ f)) [
        | inl q ↦ inr (leads (subst (LeadsTo parts x) q t))
        | inr r ↦ inr (leads_on t r)
      ]

  module _ (n : ℕ) (top : slice_get s.path (length s.path - 1) ≡ Some n) where
    pub some_path : 1 ≤ length s.path
    some_path = let l = within s.path (length s.path - 1) n top in omega (arith, l)

    pub top_seen : slice_get s.seen n ≡ Some true
    top_seen = kept.opened (length s.path - 1) n top

    pub top_within : n < length parts
    top_within = let l = within s.seen n true top_seen in let all = kept.all_seen in omega (arith, l, all)

    pub top_summary : n < length s.summaries
    top_summary = let l = top_within in let all = kept.all in omega (arith, l, all)

    comes_round : (c : ℕ) → LeadsTo parts n c → IsOnPath s.path c → LeadsOn parts c c
    comes_round c t o =
        let l = within s.path o.place c o.there in
        elim (along (length s.path - 1 - o.place) o.place c n o.there (ap (slice_get s.path) (omega (arith, l)) ∙ top)) [
          | inl q ↦ leads (subst (λ m. LeadsTo parts m c) (sym q) t)
          | inr r ↦ join_to parts r t
        ]

    module _ (p : Part) (there : slice_get parts n ≡ Some p) where
      known_there : (c : ℕ) → LeadsTo parts n c → (o : Option Summary) → slice_get s.seen c ≡ Some true → slice_get s.summaries c ≡ Some o → IsSummary parts c o
      known_there c t o e f = elim (kept.known c o e f) [
        | inl h ↦ h
        | inr h ↦ subst (IsSummary parts c) (sym h.0) (λ mss d. no_round parts d (comes_round c t h.1))
      ]

      child_within : next_of s.seen p ≡ None → (c : ℕ) → Has p c → c < length parts → IsSummary parts c (at s.summaries c)
      child_within e c h l =
          let seen_all = kept.all_seen in
          let all = kept.all in
          let b = there_is s.seen c (omega (arith, l, seen_all)) in
          let o = there_is s.summaries c (omega (arith, l, all)) in
          let b_is : b.0 ≡ true = sym (read_there s.seen c true b.0 b.1) ∙ all_seen s.seen p e c h in
          subst (IsSummary parts c) (sym (read_there s.summaries c None o.0 o.1)) (known_there c (record { part = p; there = there; has = h }) o.0 (b.1 ∙ ap Some b_is) o.1)

      child_past : (c : ℕ) → length parts ≤ c → IsSummary parts c (at s.summaries c)
      child_past c l = let all = kept.all in subst (IsSummary parts c) (sym (read_past s.summaries c None (omega (arith, l, all)))) none
        where
          none : (mss : Alternatives) → HasAlternatives parts c mss → ⊥
          none mss (stands {p = q} e d) = let k = within parts c q e in omega (arith, l, k)

      pub top_value : next_of s.seen p ≡ None → IsSummary parts n (value s.summaries p)
      top_value e = value_is parts n s.summaries p there (λ c h. elim (less_or c (length parts)) [ inl l ↦ child_within e c h l | inr l ↦ child_past c l ])

    -- the last part is left

    module _ (o : Option Summary) (right : IsSummary parts n o) where
      not_last : (x i : ℕ) → (n ≡ x → ⊥) → slice_get s.path i ≡ Some x → i < length s.path - 1
      not_last x i h e = let l = within s.path i x e in by (less i (length s.path - 1))
        where
          less : (a b : ℕ) → (a < b) ⊎ ((a ≡ b) ⊎ (b < a))
          less zero zero = inr (inl refl)
          less zero (suc b) = inl (omega arith)
          less (suc a) zero = inr (inr (omega arith))
          less (suc a) (suc b) = elim (less a b) [ inl k ↦ inl (omega (arith, k)) | inr k ↦ elim k [ inl q ↦ inr (inl (ap suc q)) | inr q ↦ inr (inr (omega (arith, q))) ] ]

          by : (i < length s.path - 1) ⊎ ((i ≡ length s.path - 1) ⊎ (length s.path - 1 < i)) → i < length s.path - 1
          by (inl k) = k
          by (inr (inl q)) = absurd (h (same_some n x (sym top ∙ (ap (slice_get s.path) (sym q) ∙ e))))
          by (inr (inr k)) = let l = within s.path i x e in let m = some_path in absurd (omega (arith, k, l, m))

      pub left_kept : IsKept parts (left n o s)
      left_kept = record {
        all_seen = kept.all_seen;
        all = set_length s.summaries n o ∙ kept.all;
        opened = λ i x e. kept.opened i x (take_there (length s.path - 1) s.path i x e);
        linked = λ i x y e f. kept.linked i x y (take_there (length s.path - 1) s.path i x e) (take_there (length s.path - 1) s.path (i + 1) y f);
        fresh = λ x p e f. elim (after_set s.summaries n x o p f) [
          | inl h ↦ true_false (same_some true false (sym (subst (λ m. slice_get s.seen m ≡ Some true) h.0 top_seen) ∙ e))
          | inr h ↦ kept.fresh x p e h.1
        ];
        known = λ x p e f. elim (after_set s.summaries n x o p f) [
          | inl h ↦ inl (subst (λ m. IsSummary parts m p) h.0 (subst (IsSummary parts n) h.1 right))
          | inr h ↦ elim (kept.known x p e h.1) [
            | inl k ↦ inl k
            | inr k ↦ inr (k.0, record { place = k.1.place; there = take_before (length s.path - 1) s.path k.1.place x k.1.there (not_last x k.1.place h.0 k.1.there) })
          ]
        ];
      }

      pub left_less : gap (left n o s) < gap s
      left_less = let l = some_path in let k = take_length (length s.path - 1) s.path (omega arith) in omega (arith, l, k)

  -- a part is entered

  module _ (c : ℕ) (new : slice_index_or s.seen c true ≡ false) (next : (x : ℕ) → slice_get s.path (length s.path - 1) ≡ Some x → LeadsTo parts x c) where
    not_seen : slice_get s.seen c ≡ Some false
    not_seen = false_there s.seen c new

    pub new_within : c < length s.seen
    new_within = within s.seen c false not_seen

    linked_on : (i x y : ℕ) → slice_get (s.path ++ c ∷ []) i ≡ Some x → slice_get (s.path ++ c ∷ []) (i + 1) ≡ Some y → LeadsTo parts x y
    linked_on i x y e f = elim (after_push s.path c (i + 1) y f) [
      | inl h ↦ elim (after_push s.path c i x e) [
        | inl k ↦ absurd (omega (arith, h.0, k.0))
        | inr k ↦ subst (LeadsTo parts x) h.1 (next x (ap (slice_get s.path) (let l = h.0 in omega (arith, l)) ∙ k))
      ]
      | inr h ↦ elim (after_push s.path c i x e) [
        | inl k ↦ absurd (let l = within s.path (i + 1) y h in omega (arith, l, k.0))
        | inr k ↦ kept.linked i x y k h
      ]
    ]

    pub entered_kept : IsKept parts (entered c s)
    entered_kept = record {
      all_seen = set_length s.seen c true ∙ kept.all_seen;
      all = kept.all;
      opened = λ i x e. elim (after_push s.path c i x e) [
        | inl h ↦ subst (λ m. slice_get (set s.seen c true) m ≡ Some true) h.1 (set_there s.seen c true new_within)
        | inr h ↦ still_true s.seen c x (kept.opened i x h)
      ];
      linked = linked_on;
      fresh = λ x p e f. elim (after_set s.seen c x true false e) [
        | inl h ↦ true_false h.1
        | inr h ↦ kept.fresh x p h.1 f
      ];
      known = λ x p e f. elim (after_set s.seen c x true true e) [
        | inl h ↦ inr (kept.fresh x p (subst (λ m. slice_get s.seen m ≡ Some false) h.0 not_seen) f, record { place = length s.path; there = push_there s.path c ∙ ap Some h.0 })
        | inr h ↦ elim (kept.known x p h.1 f) [
          | inl k ↦ inl k
          | inr k ↦ inr (k.0, record { place = k.1.place; there = push_before s.path c k.1.place x k.1.there })
        ]
      ];
    }

    pub entered_keeps : Keeps s (entered c s)
    entered_keeps = λ x e. still_true s.seen c x e

    pub entered_seen : slice_get (entered c s).seen c ≡ Some true
    entered_seen = set_there s.seen c true new_within

    pub entered_less : gap (entered c s) < gap s
    entered_less = let h = one_seen s.seen c new in let k = push_length s.path c in omega (arith, h, k)

-- what a step makes of a state

pub record IsStep (parts : List Part) (s t : State) : Type 0 where
  pub kept : IsKept parts t
  pub keeps : Keeps s t
  pub less : gap t < gap s

module _ (parts : List Part) (s : State) (kept : IsKept parts s) (n : ℕ) (top : slice_get s.path (length s.path - 1) ≡ Some n) (seen : List Bool) (seen_is : seen ≡ s.seen) where
  part_there : slice_get parts n ≡ Some (slice_index_or parts n Refused)
  part_there = slice_get-get_or parts n Refused (top_within parts s kept n top)

  module _ (c : ℕ) (found : Some c ≡ next_of seen (slice_index_or parts n Refused)) where
    next : IsNext s.seen (slice_index_or parts n Refused) c
    next = is_next s.seen (slice_index_or parts n Refused) c (ap (λ xs. next_of xs (slice_index_or parts n Refused)) (sym seen_is) ∙ sym found)

    leads_there : (x : ℕ) → slice_get s.path (length s.path - 1) ≡ Some x → LeadsTo parts x c
    leads_there x e = subst (λ m. LeadsTo parts m c) (same_some n x (sym top ∙ e)) (record { part = slice_index_or parts n Refused; there = part_there; has = next.has })

    pub next_within : c < length s.seen
    next_within = new_within parts s kept c next.unseen leads_there

    pub goes_on : IsStep parts s (entered c s)
    goes_on = record {
      kept = entered_kept parts s kept c next.unseen leads_there;
      keeps = entered_keeps parts s kept c next.unseen leads_there;
      less = entered_less parts s kept c next.unseen leads_there;
    }

  pub goes_back : None ≡ next_of seen (slice_index_or parts n Refused) → IsStep parts s (left n (value s.summaries (slice_index_or parts n Refused)) s)
  goes_back found = record {
    kept = left_kept parts s kept n top (value s.summaries (slice_index_or parts n Refused)) right;
    keeps = λ x e. e;
    less = left_less parts s kept n top (value s.summaries (slice_index_or parts n Refused)) right;
  }
    where
      right : IsSummary parts n (value s.summaries (slice_index_or parts n Refused))
      right = top_value parts s kept n top (slice_index_or parts n Refused) part_there (ap (λ xs. next_of xs (slice_index_or parts n Refused)) (sym seen_is) ∙ sym found)

-- the start and the end

module _ (parts : List Part) where
  pub begins : (s : State) → s.seen ≡ replicate (length parts) false → s.summaries ≡ replicate (length parts) None → s.path ≡ [] → IsEnded parts s
  begins s e f g = record {
    kept = record {
      all_seen = ap length e ∙ replicate_length (length parts) false;
      all = ap length f ∙ replicate_length (length parts) None;
      opened = λ i x h. absurd (none_left s.path i x g h);
      linked = λ i x y h k. absurd (none_left s.path i x g h);
      fresh = λ x o h k. sym (replicate_at (length parts) None x o (ap (λ xs. slice_get xs x) (sym f) ∙ k));
      known = λ x o h k. true_false (sym (replicate_at (length parts) false x true (ap (λ xs. slice_get xs x) (sym e) ∙ h)));
    };
    ended = g;
  }

  pub are_summaries : (s : State) → IsEnded parts s → ((n : ℕ) → n < length parts → slice_get s.seen n ≡ Some true) → AreSummaries parts s.summaries
  are_summaries s h seen = record {
    all = h.kept.all;
    each = λ n o e. let l = within s.summaries n o e in let all = h.kept.all in elim (h.kept.known n o (seen n (omega (arith, l, all))) e) [
      | inl k ↦ k
      | inr k ↦ absurd (none_left s.path k.1.place n h.ended k.1.there)
    ];
  }
