-- What a task makes of what waits: the same list comes of it, and there is less to do.
use Rattle.std.proofs.Common.{◌≡◌, ◌⊎◌, ℕ, zero, suc, ◌+◌, min, ◌<◌, ◌≤◌, List, [], ◌∷◌, ◌++◌, length, replicate, Bool, true, false, if◌then◌else◌, ◌||◌, nat_eq, nat_lt, Option, Some, None, inl, inr, slice_get, refl, sym, ap, subst, ◌∙◌, arith}
use Rattle.std.proofs.lemmas.Bool.Decides.{nat_tests}
use Rattle.lists.proofs.Lemmas.{less as below, never_some}
use Rattle.alternatives.specs.declared.Member.{Member}
use Rattle.alternatives.specs.declared.Part.{Part}
use Rattle.alternatives.specs.declared.Part.TheVariants.{Refused, Entry, Empty, Nothing, Same, Both, Either, Occurs}
use Rattle.alternatives.specs.declared.summary.Summary.{Summary}
use Rattle.alternatives.specs.declared.build.Task.{Task}
use Rattle.alternatives.specs.declared.build.Task.TheVariants.{Make, Beside, After, Occur}
use Rattle.alternatives.specs.Splices.{Alternatives, members, HasAlternatives, stands, Splices, entry, empty, nothing, same, both, either, occurs, LeadsTo, Has, has_same, has_first, has_second, has_one, has_other, has_group}
use Rattle.alternatives.specs.Summaries.{Describes, IsSummary, AreSummaries, AreTooMany, itself, inside, IsSmall}
use Rattle.alternatives.specs.Search.{at}
use Rattle.alternatives.specs.Building.{Build, is_large, split, made_deep, made, result_is, IsDone, Yields, weight, task_weight, load, IsReady, AreReady}
use Rattle.alternatives.proofs.Once.{same_some, once}
use Rattle.alternatives.proofs.Lists.{true_false}
use Rattle.alternatives.proofs.Asked.{at_is, too_many}

-- alternatives without members

no_member : (ms : List Member) → length ms ≡ 0 → ms ≡ []
no_member [] e = refl
no_member (m ∷ ms) e = absurd (omega (arith, e))

append_length : (ms ns : List Member) → length (ms ++ ns) ≡ length ms + length ns
append_length [] ns = omega arith
append_length (m ∷ ms) ns = let h = append_length ms ns in omega (arith, h)

all_empty : (mss : Alternatives) → length (members mss) ≡ 0 → mss ≡ replicate (length mss) []
all_empty [] e = refl
all_empty (ms ∷ mss) e =
    let h = append_length ms (members mss) in
    ap (λ ks. ks ∷ mss) (no_member ms (omega (arith, e, h))) ∙ ap (λ kss. [] ∷ kss) (all_empty mss (omega (arith, e, h)))

not_large : (s : Summary) → is_large s ≡ false → (s.alternatives ≤ 512) × (s.members ≤ 16384)
not_large s e = by s.alternatives s.members e
  where
    by : (a m : ℕ) → nat_lt 512 a || nat_lt 16384 m ≡ false → (a ≤ 512) × (m ≤ 16384)
    by a m h = (grind (arith, nat_tests), grind (arith, nat_tests))

none_is : (n : ℕ) → nat_eq n 0 ≡ true → n ≡ 0
none_is n e = grind (arith, nat_tests)

empty_list : (mss : Alternatives) (s : Summary) → Describes mss s → is_large s ≡ false → nat_eq s.members 0 ≡ true → mss ≡ replicate s.alternatives []
empty_list mss s d l e =
    let few = not_large s l in
    let a = d.alternatives in
    let m = d.members in
    let z = none_is s.members e in
    let as_many : length mss ≡ s.alternatives = omega (arith, a, few.0) in
    all_empty mss (omega (arith, m, z)) ∙ ap (λ n. replicate n []) as_many

-- the weight of tasks

some_weight : (k : ℕ) → 1 ≤ weight k
some_weight zero = omega arith
some_weight (suc k) = let h = some_weight k in omega (arith, h)

split_less : (p : Option Part) (n k : ℕ) (old new : Build) → split p n k old ≡ Some new → load new.tasks < weight (suc k) + load old.tasks
split_less None n k old new e = absurd (never_some new e)
split_less (Some Refused) n k old new e = absurd (never_some new e)
split_less (Some Empty) n k old new e = absurd (never_some new e)
split_less (Some Nothing) n k old new e = absurd (never_some new e)
split_less (Some (Entry o)) n k old new e = subst (λ (b : Build). load b.tasks < weight (suc k) + load old.tasks) (same_some _ _ e) (let h = some_weight k in omega (arith, h))
split_less (Some (Same a)) n k old new e = subst (λ (b : Build). load b.tasks < weight (suc k) + load old.tasks) (same_some _ _ e) (let h = some_weight k in omega (arith, h))
split_less (Some (Both a c)) n k old new e = subst (λ (b : Build). load b.tasks < weight (suc k) + load old.tasks) (same_some _ _ e) (let h = some_weight k in omega (arith, h))
split_less (Some (Either a c)) n k old new e = subst (λ (b : Build). load b.tasks < weight (suc k) + load old.tasks) (same_some _ _ e) (let h = some_weight k in omega (arith, h))
split_less (Some (Occurs o a)) n k old new e = subst (λ (b : Build). load b.tasks < weight (suc k) + load old.tasks) (same_some _ _ e) (let h = some_weight k in omega (arith, h))

deep_less : (s : Summary) (p : Option Part) (n k : ℕ) (old new : Build) → made_deep s p n k old ≡ Some new → load new.tasks < weight k + load old.tasks
deep_less s p n zero old new e = absurd (never_some new e)
deep_less s p n (suc k) old new e = split_less p n k old new e

made_less : (o : Option Summary) (p : Option Part) (n k : ℕ) (old new : Build) → made o p n k old ≡ Some new → load new.tasks < weight k + load old.tasks
made_less None p n k old new e = absurd (never_some new e)
made_less (Some s) p n k old new e = by (is_large s) (nat_eq s.members 0) e
  where
    by : (l z : Bool) → (if l then None else (if z then Some (record { tasks = old.tasks; lists = replicate s.alternatives [] ∷ old.lists }) else made_deep s p n k old)) ≡ Some new → load new.tasks < weight k + load old.tasks
    by true z f = absurd (never_some new f)
    by false true f = subst (λ (b : Build). load b.tasks < weight k + load old.tasks) (same_some _ _ f) (let h = some_weight k in omega (arith, h))
    by false false f = deep_less s p n k old new f

goes_on : (goes : Bool) (new : Build) → goes ≡ true → result_is goes new ≡ Some new
goes_on true new e = refl
goes_on false new e = true_false (sym e)

pub done_less : (parts : List Part) (ss : List (Option Summary)) (t : Task) (old new : Build) (goes : Bool) → IsDone parts ss t old goes new → goes ≡ true → load new.tasks < task_weight t + load old.tasks
done_less parts ss (Make n k) old new goes d e = made_less (at ss n) (slice_get parts n) n k old new (d ∙ goes_on goes new e)
done_less parts ss Beside old new goes d e = let h = ap load d.0 in omega (arith, h)
done_less parts ss After old new goes d e = let h = ap load d.0 in omega (arith, h)
done_less parts ss (Occur o) old new goes d e = let h = ap load d.0 in omega (arith, h)

-- the same list comes of it

module _ (parts : List Part) where
  split_yields : (n k : ℕ) (p : Part) (mss : Alternatives) (old new : Build) (all : Alternatives) → Splices parts n p mss → split (Some p) n k old ≡ Some new → Yields parts old.tasks (mss ∷ old.lists) all → Yields parts new.tasks new.lists all
  split_yields n k p mss old new all entry e y = subst (λ (b : Build). Yields parts b.tasks b.lists all) (same_some _ new e) y
  split_yields n k p mss old new all empty e y = absurd (never_some new e)
  split_yields n k p mss old new all nothing e y = absurd (never_some new e)
  split_yields n k p mss old new all (same d) e y = subst (λ (b : Build). Yields parts b.tasks b.lists all) (same_some _ new e) (mss, d, y)
  split_yields n k p mss old new all (both {mss = kss} {nss = lss} d f) e y = subst (λ (b : Build). Yields parts b.tasks b.lists all) (same_some _ new e) (kss, d, (lss, f, y))
  split_yields n k p mss old new all (either {mss = kss} {nss = lss} d f) e y = subst (λ (b : Build). Yields parts b.tasks b.lists all) (same_some _ new e) (kss, d, (lss, f, y))
  split_yields n k p mss old new all (occurs {mss = kss} d f) e y = subst (λ (b : Build). Yields parts b.tasks b.lists all) (same_some _ new e) (kss, d, (mss, f, y))

  deep_yields : (s : Summary) (n k : ℕ) (mss : Alternatives) (old new : Build) (all : Alternatives) → HasAlternatives parts n mss → made_deep s (slice_get parts n) n k old ≡ Some new → Yields parts old.tasks (mss ∷ old.lists) all → Yields parts new.tasks new.lists all
  deep_yields s n zero mss old new all d e y = absurd (never_some new e)
  deep_yields s n (suc k) mss old new all (stands {p = p} f d) e y = split_yields n k p mss old new all d (ap (λ o. split o n k old) (sym f) ∙ e) y

  made_yields : (o : Option Summary) (n k : ℕ) (mss : Alternatives) (old new : Build) (all : Alternatives) → IsSummary parts n o → HasAlternatives parts n mss → made o (slice_get parts n) n k old ≡ Some new → Yields parts old.tasks (mss ∷ old.lists) all → Yields parts new.tasks new.lists all
  made_yields None n k mss old new all h d e y = absurd (never_some new e)
  made_yields (Some s) n k mss old new all h d e y = by (is_large s) (nat_eq s.members 0) refl refl e
    where
      described : Describes mss s
      described = subst (λ kss. Describes kss s) (once parts h.stands_for d) h.described

      by : (l z : Bool) → is_large s ≡ l → nat_eq s.members 0 ≡ z → (if l then None else (if z then Some (record { tasks = old.tasks; lists = replicate s.alternatives [] ∷ old.lists }) else made_deep s (slice_get parts n) n k old)) ≡ Some new → Yields parts new.tasks new.lists all
      by true z p q f = absurd (never_some new f)
      by false true p q f = subst (λ (b : Build). Yields parts b.tasks b.lists all) (same_some _ new f) (subst (λ kss. Yields parts old.tasks (kss ∷ old.lists) all) (empty_list mss s described p q) y)
      by false false p q f = deep_yields s n k mss old new all d f y

  module _ (ss : List (Option Summary)) (are : AreSummaries parts ss) where
    pub done_yields : (t : Task) (old new : Build) (goes : Bool) (all : Alternatives) → IsDone parts ss t old goes new → Yields parts (t ∷ old.tasks) old.lists all → goes ≡ true → Yields parts new.tasks new.lists all
    done_yields (Make n k) old new goes all d y e = made_yields (at ss n) n k y.0 old new all (at_is parts ss are n) y.1 (d ∙ goes_on goes new e) y.2
    done_yields Beside old new goes all d y e = by old.lists refl y
      where
        by : (vs : List Alternatives) → old.lists ≡ vs → Yields parts (Beside ∷ old.tasks) vs all → Yields parts new.tasks new.lists all
        by [] p z = absurd z
        by (nss ∷ []) p z = absurd z
        by (nss ∷ mss ∷ vs) p z = subst (λ ts. Yields parts ts new.lists all) (sym d.0) (subst (λ us. Yields parts old.tasks us all) (sym (d.1 vs mss nss p).1) z)
    done_yields After old new goes all d y e = by old.lists refl y
      where
        by : (vs : List Alternatives) → old.lists ≡ vs → Yields parts (After ∷ old.tasks) vs all → Yields parts new.tasks new.lists all
        by [] p z = absurd z
        by (nss ∷ []) p z = absurd z
        by (nss ∷ mss ∷ vs) p z = subst (λ ts. Yields parts ts new.lists all) (sym d.0) (subst (λ us. Yields parts old.tasks us all) (sym (d.1 vs mss nss p).1) z)
    done_yields (Occur o) old new goes all d y e = by old.lists refl y
      where
        by : (vs : List Alternatives) → old.lists ≡ vs → Yields parts (Occur o ∷ old.tasks) vs all → Yields parts new.tasks new.lists all
        by [] p z = absurd z
        by (mss ∷ vs) p z = subst (λ ts. Yields parts ts new.lists all) (sym d.0) (subst (λ us. Yields parts old.tasks us all) (sym (d.1 vs mss z.0 p z.1).1) z.2)

-- no list that is to be made is too large

result_of : (b new : Build) (goes : Bool) → Some b ≡ result_is goes new → (goes ≡ true) × (b ≡ new)
result_of b new true e = (refl, same_some b new e)
result_of b new false e = absurd (never_some b (sym e))

large_is : (a m : ℕ) → nat_lt 512 a || nat_lt 16384 m ≡ true → (512 < a) ⊎ (16384 < m)
large_is a m e = by (nat_lt 512 a) refl e
  where
    by : (b : Bool) → nat_lt 512 a ≡ b → b || nat_lt 16384 m ≡ true → (512 < a) ⊎ (16384 < m)
    by true p q = inl (below 512 a p)
    by false p q = inr (below 16384 m q)

small_is : (mss : Alternatives) (s : Summary) → Describes mss s → (AreTooMany mss → ⊥) → is_large s ≡ false
small_is mss s d h = by (is_large s) refl
  where
    by : (b : Bool) → is_large s ≡ b → is_large s ≡ false
    by true p = absurd (h ((too_many mss s d).0 (large_is s.alternatives s.members p)))
    by false p = p

no_members : (mss : Alternatives) (s : Summary) → Describes mss s → length (members mss) ≡ 0 → nat_eq s.members 0 ≡ true
no_members mss s d e = ap (λ n. nat_eq n 0) (d.members ∙ ap (λ n. min n 16385) e)

module _ (parts : List Part) where
  split_ready : (n k : ℕ) (p : Part) (mss : Alternatives) (old new : Build) (goes : Bool) → Splices parts n p mss → (length (members mss) ≡ 0 → ⊥) → ((c : ℕ) (kss : Alternatives) → Has p c → HasAlternatives parts c kss → IsReady parts c k) → split (Some p) n k old ≡ result_is goes new → AreReady parts old.tasks → (goes ≡ true) × AreReady parts new.tasks
  split_ready n k p mss old new goes entry z h e r = let o = result_of _ new goes e in (o.0, subst (λ (b : Build). AreReady parts b.tasks) o.1 r)
  split_ready n k p mss old new goes empty z h e r = absurd (z refl)
  split_ready n k p mss old new goes nothing z h e r = absurd (z refl)
  split_ready n k p mss old new goes (same {a = a} d) z h e r = let o = result_of _ new goes e in (o.0, subst (λ (b : Build). AreReady parts b.tasks) o.1 (h a _ has_same d, r))
  split_ready n k p mss old new goes (both {a = a} {b = c} d f) z h e r = let o = result_of _ new goes e in (o.0, subst (λ (b : Build). AreReady parts b.tasks) o.1 (h a _ has_first d, (h c _ has_second f, r)))
  split_ready n k p mss old new goes (either {a = a} {b = c} d f) z h e r = let o = result_of _ new goes e in (o.0, subst (λ (b : Build). AreReady parts b.tasks) o.1 (h a _ has_one d, (h c _ has_other f, r)))
  split_ready n k p mss old new goes (occurs {a = a} d f) z h e r = let o = result_of _ new goes e in (o.0, subst (λ (b : Build). AreReady parts b.tasks) o.1 (h a _ has_group d, r))

  inner_small : (n c : ℕ) (mss kss : Alternatives) → HasAlternatives parts n mss → (length (members mss) ≡ 0 → ⊥) → IsSmall parts n → LeadsTo parts n c → HasAlternatives parts c kss → IsSmall parts c
  inner_small n c [] kss d z h t e = absurd (z refl)
  inner_small n c (ms ∷ mss) kss d z h t e = record { alternatives = kss; stands_for = e; small = λ x xss i f many. h.small x xss (inside d t i) f many }

  deep_ready : (s : Summary) (n k : ℕ) (mss : Alternatives) (old new : Build) (goes : Bool) → HasAlternatives parts n mss → (length (members mss) ≡ 0 → ⊥) → IsReady parts n k → made_deep s (slice_get parts n) n k old ≡ result_is goes new → AreReady parts old.tasks → (goes ≡ true) × AreReady parts new.tasks
  deep_ready s n zero mss old new goes d z h e r = absurd h.ends
  deep_ready s n (suc k) mss old new goes (stands {p = p} f d) z h e r = split_ready n k p mss old new goes d z inner (ap (λ o. split o n k old) (sym f) ∙ e) r
    where
      inner : (c : ℕ) (kss : Alternatives) → Has p c → HasAlternatives parts c kss → IsReady parts c k
      inner c kss i g = let t : LeadsTo parts n c = record { part = p; there = f; has = i } in record { small = inner_small n c mss kss (stands f d) z h.small t g; ends = h.ends c t }

  made_ready : (o : Option Summary) (n k : ℕ) (mss : Alternatives) (old new : Build) (goes : Bool) → IsSummary parts n o → HasAlternatives parts n mss → IsReady parts n k → made o (slice_get parts n) n k old ≡ result_is goes new → AreReady parts old.tasks → (goes ≡ true) × AreReady parts new.tasks
  made_ready None n k mss old new goes i d h e r = absurd (i mss d)
  made_ready (Some s) n k mss old new goes i d h e r = by (is_large s) (nat_eq s.members 0) refl refl e
    where
      described : Describes mss s
      described = subst (λ kss. Describes kss s) (once parts i.stands_for d) i.described

      by : (l z : Bool) → is_large s ≡ l → nat_eq s.members 0 ≡ z → (if l then None else (if z then Some (record { tasks = old.tasks; lists = replicate s.alternatives [] ∷ old.lists }) else made_deep s (slice_get parts n) n k old)) ≡ result_is goes new → (goes ≡ true) × AreReady parts new.tasks
      by true z p q f = true_false (sym p ∙ small_is mss s described (h.small.small n mss itself d))
      by false true p q f = let o = result_of _ new goes f in (o.0, subst (λ (b : Build). AreReady parts b.tasks) o.1 r)
      by false false p q f = deep_ready s n k mss old new goes d (λ z. true_false (sym (no_members mss s described z) ∙ q)) h f r

  module _ (ss : List (Option Summary)) (are : AreSummaries parts ss) where
    pub done_ready : (t : Task) (old new : Build) (goes : Bool) (all : Alternatives) → IsDone parts ss t old goes new → Yields parts (t ∷ old.tasks) old.lists all → AreReady parts (t ∷ old.tasks) → (goes ≡ true) × AreReady parts new.tasks
    done_ready (Make n k) old new goes all d y r = made_ready (at ss n) n k y.0 old new goes (at_is parts ss are n) y.1 r.0 d r.1
    done_ready Beside old new goes all d y r = by old.lists refl y
      where
        by : (vs : List Alternatives) → old.lists ≡ vs → Yields parts (Beside ∷ old.tasks) vs all → (goes ≡ true) × AreReady parts new.tasks
        by [] p z = absurd z
        by (nss ∷ []) p z = absurd z
        by (nss ∷ mss ∷ vs) p z = ((d.1 vs mss nss p).0, subst (AreReady parts) (sym d.0) r)
    done_ready After old new goes all d y r = by old.lists refl y
      where
        by : (vs : List Alternatives) → old.lists ≡ vs → Yields parts (After ∷ old.tasks) vs all → (goes ≡ true) × AreReady parts new.tasks
        by [] p z = absurd z
        by (nss ∷ []) p z = absurd z
        by (nss ∷ mss ∷ vs) p z = ((d.1 vs mss nss p).0, subst (AreReady parts) (sym d.0) r)
    done_ready (Occur o) old new goes all d y r = by old.lists refl y
      where
        by : (vs : List Alternatives) → old.lists ≡ vs → Yields parts (Occur o ∷ old.tasks) vs all → (goes ≡ true) × AreReady parts new.tasks
        by [] p z = absurd z
        by (mss ∷ vs) p z = ((d.1 vs mss z.0 p z.1).0, subst (AreReady parts) (sym d.0) r)
