-- What follows of the causes of rows is what may be empty.
use Rattle.std.proofs.Common.{◌≡◌, ℕ, Bool, ◌⊎◌, inl, inr, ◌<◌, List, [], ◌∷◌, ◌++◌, length, Some, refl, sym, ap, subst, ◌∙◌, slice_get}
use Rattle.lists.proofs.Lemmas.{IsIn, in_cases, there, within}
use Rattle.cddl_language.specs.Terms.{Text, Group, sole, orelse, Entries, no_entries, entries, Entry, typed, keyed, grouped, Definition, alternatives, occurrence_of}
use Rattle.cddl_language.specs.Numbers.{least_of}
use Rattle.cddl_language.specs.Kinds as K
use Rattle.cddl_language.specs.Substitution.{group_choices}
use Rattle.cddl_language.specs.Reach.{group_points, entries_points, entry_points}
use Rattle.cddl_language.specs.Free as L
use Rattle.cddl_language.specs.Free.{EntryMayBeEmpty, MayBeEmpty, SomeMayBeEmpty, none_left, all_may, this_may, later_may}
use Rattle.check_terms.specs.Table.{Table, Tree, Holds, part}
use Rattle.check_terms.specs.Trees.{IsGroup, IsEntries, IsEntry, group_tree, entries_tree, entry_tree}
use Rattle.check_instances.specs.Closed.Closed.{AreReached}
use Rattle.graphs.specs.Implications.Implications.{AreFollowing}
use Rattle.check_groups.specs.declared.causes.cause.RowCause.{RowCause}
use Rattle.check_groups.specs.declared.causes.cause.RowCause.TheVariants as CauseV
use Rattle.check_groups.specs.declared.causes.cause.GroupProperty.TheVariants as PropertyV
use Rattle.check_groups.specs.Causes.Flags.{AreCauses}
use Rattle.check_groups.specs.Causes.Rows.{alternatives_at}
use Rattle.check_groups.specs.Empty.Empty.{AreEmpty}
use Rattle.check_groups.specs.Causes.Rules.{all_rules}
use Rattle.check_groups.proofs.OfCauses.Following.{Stands, always, of_one, of_first, of_second, of_both, stands, follows}
use Rattle.check_groups.proofs.OfEmpty.Causes.{IsCauseOfGroup, of_sole, of_orelse, IsCauseOfEntries, of_none, of_more, IsCauseOfEntry, no_time, no_inner, of_inner, IsCause, cause_at, inner_alternatives}
use Rattle.check_groups.proofs.OfCauses.Reaching.{left_reached, right_reached}

none_may : (xs : List Definition) → SomeMayBeEmpty xs [] → ⊥
none_may xs h = elim h [ ]

before_more : (xs : List Definition) (ess fss : List Entries) → SomeMayBeEmpty xs ess → SomeMayBeEmpty xs (ess ++ fss)
before_more xs [] fss h = absurd (none_may xs h)
before_more xs (es ∷ ess) fss (this_may h) = this_may h
before_more xs (es ∷ ess) fss (later_may h) = later_may (before_more xs ess fss h)

after_more : (xs : List Definition) (ess fss : List Entries) → SomeMayBeEmpty xs fss → SomeMayBeEmpty xs (ess ++ fss)
after_more xs [] fss h = h
after_more xs (es ∷ ess) fss h = later_may (after_more xs ess fss h)

-- an entry may be empty where its group may
inner_may : (xs : List Definition) (e : Entry) → SomeMayBeEmpty xs (inner_alternatives xs e) → EntryMayBeEmpty xs e
inner_may xs (typed o x) h = by (K.part_of xs x) refl h
  where
    by : (k : K.Part) → K.part_of xs x ≡ k → SomeMayBeEmpty xs (alternatives_at xs k) → EntryMayBeEmpty xs (typed o x)
    by K.asks_type e h = absurd (none_may xs h)
    by (K.names_group r) e h = L.by_name e h
    by (K.opens r g) e h = L.by_opening e h
inner_may xs (keyed o k x) h = absurd (none_may xs h)
inner_may xs (grouped o g) h = L.by_group h

module _ (xs : List Definition) (root : Text) (t : Table) (causes : List RowCause) (are : AreCauses PropertyV.MayBeEmpty xs root t causes) where
  each : (n : ℕ) (c : RowCause) → slice_get causes n ≡ Some c → IsCause xs root t n c
  each n c e = cause_at xs root t causes are n c e

  -- what the row stands for may be empty
  record MayRow (n : ℕ) : Type 0 where
    group : (g : Group) → IsGroup t n g → AreReached xs root (group_points g) → SomeMayBeEmpty xs (alternatives g)
    entries : (es : Entries) → IsEntries t n es → AreReached xs root (entries_points es) → MayBeEmpty xs es
    entry : (e : Entry) → IsEntry t n e → AreReached xs root (entry_points e) → EntryMayBeEmpty xs e

  -- Of a cause.

  no_group : (g : Group) → IsCauseOfGroup t g CauseV.Always → ⊥
  no_group g h = elim h [ ]

  entries_always : (es : Entries) → IsCauseOfEntries t es CauseV.Always → MayBeEmpty xs es
  entries_always no_entries h = none_left
  entries_always (entries es e c) h = elim h [ ]

  entry_always : (e : Entry) → IsCauseOfEntry xs root t e CauseV.Always → EntryMayBeEmpty xs e
  entry_always e (no_time h) = L.no_time h

  group_one : (g : Group) (a : ℕ) → IsCauseOfGroup t g (CauseV.One a) → MayRow a → AreReached xs root (group_points g) → SomeMayBeEmpty xs (alternatives g)
  group_one (sole es) a (of_sole h) m r = this_may (m.entries es h r)
  group_one (orelse g es) a h m r = elim h [ ]

  no_entries_one : (es : Entries) (a : ℕ) → IsCauseOfEntries t es (CauseV.One a) → ⊥
  no_entries_one es a h = elim h [ ]

  entry_one : (e : Entry) (a : ℕ) → IsCauseOfEntry xs root t e (CauseV.One a) → MayRow a → EntryMayBeEmpty xs e
  entry_one e a (of_inner g i k h r) m = inner_may xs e (subst (SomeMayBeEmpty xs) (sym k) (m.group g h r))

  group_first : (g : Group) (a b : ℕ) → IsCauseOfGroup t g (CauseV.Either a b) → MayRow a → AreReached xs root (group_points g) → SomeMayBeEmpty xs (alternatives g)
  group_first (sole es) a b h m r = elim h [ ]
  group_first (orelse g es) a b (of_orelse h k) m r = before_more xs (alternatives g) (es ∷ []) (m.group g h (left_reached xs root (group_points g) (entries_points es) r))

  group_second : (g : Group) (a b : ℕ) → IsCauseOfGroup t g (CauseV.Either a b) → MayRow b → AreReached xs root (group_points g) → SomeMayBeEmpty xs (alternatives g)
  group_second (sole es) a b h m r = elim h [ ]
  group_second (orelse g es) a b (of_orelse h k) m r = after_more xs (alternatives g) (es ∷ []) (this_may (m.entries es k (right_reached xs root (group_points g) (entries_points es) r)))

  no_entries_either : (es : Entries) (a b : ℕ) → IsCauseOfEntries t es (CauseV.Either a b) → ⊥
  no_entries_either es a b h = elim h [ ]

  no_entry_either : (e : Entry) (a b : ℕ) → IsCauseOfEntry xs root t e (CauseV.Either a b) → ⊥
  no_entry_either e a b h = elim h [ ]

  no_group_both : (g : Group) (a b : ℕ) → IsCauseOfGroup t g (CauseV.Both a b) → ⊥
  no_group_both g a b h = elim h [ ]

  entries_both : (es : Entries) (a b : ℕ) → IsCauseOfEntries t es (CauseV.Both a b) → MayRow a → MayRow b → AreReached xs root (entries_points es) → MayBeEmpty xs es
  entries_both no_entries a b h m k r = elim h [ ]
  entries_both (entries es e c) a b (of_more h l) m k r = all_may (m.entries es h (left_reached xs root (entries_points es) (entry_points e) r)) (k.entry e l (right_reached xs root (entries_points es) (entry_points e) r))

  no_entry_both : (e : Entry) (a b : ℕ) → IsCauseOfEntry xs root t e (CauseV.Both a b) → ⊥
  no_entry_both e a b h = elim h [ ]

  -- What follows may be empty.
  sound : (n : ℕ) → Stands causes n → MayRow n
  sound n (always e) = record {
    group = λ g h r. absurd (no_group g ((each n CauseV.Always e).group g h));
    entries = λ es h r. entries_always es ((each n CauseV.Always e).entries es h);
    entry = λ x h r. entry_always x ((each n CauseV.Always e).entry x h r);
  }
  sound n (of_one {a = a} e s) =
      let m = sound a s in
      record {
        group = λ g h r. group_one g a ((each n (CauseV.One a) e).group g h) m r;
        entries = λ es h r. absurd (no_entries_one es a ((each n (CauseV.One a) e).entries es h));
        entry = λ x h r. entry_one x a ((each n (CauseV.One a) e).entry x h r) m;
      }
  sound n (of_first {a = a} {b = b} e s) =
      let m = sound a s in
      record {
        group = λ g h r. group_first g a b ((each n (CauseV.Either a b) e).group g h) m r;
        entries = λ es h r. absurd (no_entries_either es a b ((each n (CauseV.Either a b) e).entries es h));
        entry = λ x h r. absurd (no_entry_either x a b ((each n (CauseV.Either a b) e).entry x h r));
      }
  sound n (of_second {a = a} {b = b} e s) =
      let m = sound b s in
      record {
        group = λ g h r. group_second g a b ((each n (CauseV.Either a b) e).group g h) m r;
        entries = λ es h r. absurd (no_entries_either es a b ((each n (CauseV.Either a b) e).entries es h));
        entry = λ x h r. absurd (no_entry_either x a b ((each n (CauseV.Either a b) e).entry x h r));
      }
  sound n (of_both {a = a} {b = b} e s u) =
      let m = sound a s in
      let k = sound b u in
      record {
        group = λ g h r. absurd (no_group_both g a b ((each n (CauseV.Both a b) e).group g h));
        entries = λ es h r. entries_both es a b ((each n (CauseV.Both a b) e).entries es h) m k r;
        entry = λ x h r. absurd (no_entry_both x a b ((each n (CauseV.Both a b) e).entry x h r));
      }

  -- What may be empty follows.

  cause_there : (n : ℕ) (x : Tree) → Holds t (Some n) x → (c : RowCause) × (slice_get causes n ≡ Some c)
  cause_there n x (part e h a b) = there causes n (subst (λ l. n < l) (sym are.all) (within t.rows n _ e))

  none_stand : (n : ℕ) → IsEntries t n no_entries → Stands causes n
  none_stand n h = let c = cause_there n (entries_tree no_entries) h in by c.0 c.1 ((each n c.0 c.1).entries no_entries h)
    where
      by : (c : RowCause) → slice_get causes n ≡ Some c → IsCauseOfEntries t no_entries c → Stands causes n
      by c e of_none = always e

  more_stand : (n : ℕ) (es : Entries) (x : Entry) (d : Bool) → IsEntries t n (entries es x d) → ((a : ℕ) → IsEntries t a es → Stands causes a) → ((b : ℕ) → IsEntry t b x → Stands causes b) → Stands causes n
  more_stand n es x d h f g = let c = cause_there n (entries_tree (entries es x d)) h in by c.0 c.1 ((each n c.0 c.1).entries (entries es x d) h)
    where
      by : (c : RowCause) → slice_get causes n ≡ Some c → IsCauseOfEntries t (entries es x d) c → Stands causes n
      by c e (of_more {n = a} {m = b} k l) = of_both e (f a k) (g b l)

  alternative_stands : (n : ℕ) (g : Group) → IsGroup t n g → AreReached xs root (group_points g) → (es : Entries) → IsIn es (alternatives g) → ((m : ℕ) → IsEntries t m es → AreReached xs root (entries_points es) → Stands causes m) → Stands causes n
  alternative_stands n (sole fs) h r es i f = let c = cause_there n (group_tree (sole fs)) h in by c.0 c.1 ((each n c.0 c.1).group (sole fs) h) i
    where
      by : (c : RowCause) → slice_get causes n ≡ Some c → IsCauseOfGroup t (sole fs) c → IsIn es (fs ∷ []) → Stands causes n
      by c e (of_sole {n = a} k) (inl s) = of_one e (f a (subst (IsEntries t a) (sym s) k) (subst (λ x. AreReached xs root (entries_points x)) (sym s) r))
      by c e (of_sole k) (inr s) = absurd s
  alternative_stands n (orelse g fs) h r es i f = let c = cause_there n (group_tree (orelse g fs)) h in by c.0 c.1 ((each n c.0 c.1).group (orelse g fs) h) (in_cases (alternatives g) (fs ∷ []) es i) (λ a k j. alternative_stands a g k (left_reached xs root (group_points g) (entries_points fs) r) es j f)
    where
      by : (c : RowCause) → slice_get causes n ≡ Some c → IsCauseOfGroup t (orelse g fs) c → IsIn es (alternatives g) ⊎ IsIn es (fs ∷ []) → ((a : ℕ) → IsGroup t a g → IsIn es (alternatives g) → Stands causes a) → Stands causes n
      by c e (of_orelse {n = a} k l) (inl s) again = of_first e (again a k s)
      by c e (of_orelse {m = b} k l) (inr (inl s)) again = of_second e (f b (subst (IsEntries t b) (sym s) l) (subst (λ x. AreReached xs root (entries_points x)) (sym s) (right_reached xs root (group_points g) (entries_points fs) r)))
      by c e (of_orelse k l) (inr (inr s)) again = absurd s

  no_time_stands : (n : ℕ) (x : Entry) → IsEntry t n x → AreReached xs root (entry_points x) → least_of (occurrence_of x) ≡ 0 → Stands causes n
  no_time_stands n x h r z = let c = cause_there n (entry_tree x) h in by c.0 c.1 ((each n c.0 c.1).entry x h r)
    where
      by : (c : RowCause) → slice_get causes n ≡ Some c → IsCauseOfEntry xs root t x c → Stands causes n
      by c e (no_time k) = always e
      by c e (no_inner i k) = absurd (i z)
      by c e (of_inner g i k l a) = absurd (i z)

  inner_stands : (n : ℕ) (x : Entry) → IsEntry t n x → AreReached xs root (entry_points x) → (ess : List Entries) → inner_alternatives xs x ≡ ess → SomeMayBeEmpty xs ess → ((m : ℕ) (g : Group) → IsGroup t m g → AreReached xs root (group_points g) → ess ≡ alternatives g → Stands causes m) → Stands causes n
  inner_stands n x h r ess s may f = let c = cause_there n (entry_tree x) h in by c.0 c.1 ((each n c.0 c.1).entry x h r)
    where
      by : (c : RowCause) → slice_get causes n ≡ Some c → IsCauseOfEntry xs root t x c → Stands causes n
      by c e (no_time k) = always e
      by c e (no_inner i k) = absurd (none_may xs (subst (SomeMayBeEmpty xs) (sym s ∙ k) may))
      by c e (of_inner {n = m} g i k l a) = of_one e (f m g l a (sym s ∙ k))

  all_in : (ess fss : List Entries) → ess ≡ fss → (es : Entries) → IsIn es ess → IsIn es fss
  all_in ess fss e es i = subst (IsIn es) e i

  mutual
    entry_stands : (n : ℕ) (x : Entry) → IsEntry t n x → AreReached xs root (entry_points x) → EntryMayBeEmpty xs x → Stands causes n
    entry_stands n x h r (L.no_time z) = no_time_stands n x h r z
    entry_stands n x h r (L.by_name {r = q} e s) = inner_stands n x h r (group_choices xs q) (ap (alternatives_at xs) e) s (λ m g k a i. some_stand m g k a (group_choices xs q) (all_in (group_choices xs q) (alternatives g) i) s)
    entry_stands n x h r (L.by_opening {g = p} e s) = inner_stands n x h r (alternatives p) (ap (alternatives_at xs) e) s (λ m g k a i. some_stand m g k a (alternatives p) (all_in (alternatives p) (alternatives g) i) s)
    entry_stands n x h r (L.by_group {g = p} s) = inner_stands n x h r (alternatives p) refl s (λ m g k a i. some_stand m g k a (alternatives p) (all_in (alternatives p) (alternatives g) i) s)

    each_stands : (n : ℕ) (es : Entries) → IsEntries t n es → AreReached xs root (entries_points es) → MayBeEmpty xs es → Stands causes n
    each_stands n es h r none_left = none_stand n h
    each_stands n es h r (all_may {es = fs} {e = x} {c = d} s u) = more_stand n fs x d h (λ a k. each_stands a fs k (left_reached xs root (entries_points fs) (entry_points x) r) s) (λ b k. entry_stands b x k (right_reached xs root (entries_points fs) (entry_points x) r) u)

    some_stand : (n : ℕ) (g : Group) → IsGroup t n g → AreReached xs root (group_points g) → (ess : List Entries) → ((es : Entries) → IsIn es ess → IsIn es (alternatives g)) → SomeMayBeEmpty xs ess → Stands causes n
    some_stand n g h r ess f (this_may {es = es} s) = alternative_stands n g h r es (f es (inl refl)) (λ m k a. each_stands m es k a s)
    some_stand n g h r ess f (later_may {ess = fss} s) = some_stand n g h r fss (λ es i. f es (inr i)) s

  pub are_empty : (flags : List Bool) → AreFollowing (length causes) (all_rules 0 causes) flags → AreEmpty xs root t flags
  are_empty flags f = record {
    all = f.all ∙ are.all;
    groups = λ n g h r. ((λ e. (sound n (stands causes (length causes) n ((f.each n).0 e))).group g h r), (λ m. (f.each n).1 (follows causes n (some_stand n g h r (alternatives g) (λ es i. i) m))));
    entries = λ n es h r. ((λ e. (sound n (stands causes (length causes) n ((f.each n).0 e))).entries es h r), (λ m. (f.each n).1 (follows causes n (each_stands n es h r m))));
    entry = λ n x h r. ((λ e. (sound n (stands causes (length causes) n ((f.each n).0 e))).entry x h r), (λ m. (f.each n).1 (follows causes n (entry_stands n x h r m))));
  }
