-- What follows of the causes of rows is what can be chosen from.
use Rattle.std.proofs.Common.{◌≡◌, ℕ, zero, suc, ◌≤◌, Bool, true, false, ◌↔◌, ◌<◌, if◌then◌else◌, List, [], ◌∷◌, ◌++◌, length, Option, Some, None, is_some, refl, sym, ap, subst, ◌∙◌, slice_get}
use Rattle.lists.proofs.Lemmas.{there, within}
use Rattle.cddl_language.specs.Terms.{Text, Term, Ref, Group, sole, orelse, Entries, no_entries, entries, Entry, typed, keyed, grouped, Definition, alternatives}
use Rattle.cddl_language.specs.Numbers.{occurs_once}
use Rattle.cddl_language.specs.Kinds.{opens_group, opened, Part, asks_type, names_group, opens, part_of}
use Rattle.cddl_language.specs.Substitution.{group_choices}
use Rattle.cddl_language.specs.Reach.{Reaches, points, group_points, entries_points, entry_points, most_instances}
use Rattle.cddl_language.specs.StandsFor.{AreInstances}
use Rattle.cddl_language.specs.Choices.{chosen_each, chosen_entries, chosen_entry, chosen_group, chosen_in, chosen_part}
use Rattle.check_terms.specs.Table.{Table, Tree, Holds, part}
use Rattle.check_terms.specs.Trees.{IsGroup, IsEntries, IsEntry, group_tree, entries_tree, entry_tree}
use Rattle.check_instances.specs.Closed.Closed.{AreReached}
use Rattle.graphs.specs.Implications.Implications.{AreFollowing}
use Rattle.check_groups.specs.declared.causes.cause.RowCause.{RowCause}
use Rattle.check_groups.specs.declared.causes.cause.RowCause.TheVariants as CauseV
use Rattle.check_groups.specs.declared.causes.cause.GroupProperty.TheVariants as PropertyV
use Rattle.check_groups.specs.Causes.Flags.{AreCauses}
use Rattle.check_groups.specs.Causes.Rows.{alternatives_at}
use Rattle.check_groups.specs.Choosing.Choosing.{AreChoosable}
use Rattle.check_groups.specs.Causes.Rules.{all_rules}
use Rattle.check_groups.specs.Choosing.Signs.{HaveEntries}
use Rattle.check_groups.proofs.OfCauses.Following.{Stands, always, of_one, of_first, of_second, of_both, stands, follows}
use Rattle.check_groups.proofs.OfChoosing.Causes.{IsCauseOfGroup, of_sole, of_orelse, IsCauseOfEntries, of_none, of_more, IsCauseOfEntry, not_once, of_type, of_named, of_keyed, of_grouped, IsCause, cause_at}
use Rattle.check_groups.proofs.OfChoosing.Joining.{IsThere, both_there, first_there, second_there, from_each, to_each}
use Rattle.check_groups.proofs.OfCauses.Reaching.{left_reached, right_reached}
use Rattle.check_groups.proofs.OfChoosing.Through.{Carries, enough, in_is, named_part, names_in, opened_by_part}

nothing : false ≡ true → ⊥
nothing e = cc

no_alternatives : (g : Group) → [] ≡ alternatives g → ⊥
no_alternatives (sole es) e = cc
no_alternatives (orelse g es) e = by (alternatives g) e
  where
    by : (ess : List Entries) → [] ≡ ess ++ es ∷ [] → ⊥
    by [] e = cc
    by (fs ∷ ess) e = cc

if_there : (b : Bool) (o : Option (List Term)) → IsThere (if b then o else None) → (b ≡ true) × IsThere o
if_there true o e = (refl, e)
if_there false o e = cc

there_if : (b : Bool) (o : Option (List Term)) → b ≡ true → IsThere o → IsThere (if b then o else None)
there_if true o i e = e
there_if false o i e = absurd (nothing i)

module _ (xs : List Definition) (root : Text) (t : Table) (causes : List RowCause) (are : AreCauses PropertyV.CanChoose xs root t causes) where
  each : (n : ℕ) (c : RowCause) → slice_get causes n ≡ Some c → IsCause xs root t n c
  each n c e = cause_at xs root t causes are n c e

  -- From what follows is chosen, where one name more adds nothing.
  module _ (m : ℕ) (back : Carries xs root (names_in xs root (suc m)) (names_in xs root m)) where
    abbrev next : List Entries → Option (List Term)
    next = names_in xs root m

    record ChosenRow (n : ℕ) : Type 0 where
      group : (g : Group) → IsGroup t n g → AreReached xs root (group_points g) → IsThere (chosen_group xs next g)
      entries : (es : Entries) → IsEntries t n es → AreReached xs root (entries_points es) → IsThere (chosen_entries xs next es)
      entry : (e : Entry) → IsEntry t n e → AreReached xs root (entry_points e) → IsThere (chosen_entry xs next e)

    part_there : (x : Term) (p : Part) → part_of xs x ≡ p → AreReached xs root (points x) → IsThere (chosen_each xs next (alternatives_at xs p)) → IsThere (chosen_part xs next x p)
    part_there x asks_type i r e = refl
    part_there x (names_group q) i r e = let k = named_part xs root x q r i in back.of_name q k.0 k.1 (ap is_some (in_is xs root m (group_choices xs q)) ∙ e)
    part_there x (opens q g) i r e = let k = opened_by_part xs root x q g r i in back.of_opened q g k.0 k.1 (ap is_some (in_is xs root m (alternatives g)) ∙ e)

    typed_there : (o : Option Text) (x : Term) → occurs_once o ≡ true → AreReached xs root (points x) → IsThere (chosen_each xs next (alternatives_at xs (part_of xs x))) → IsThere (chosen_entry xs next (typed o x))
    typed_there o x i r e = there_if (occurs_once o) (chosen_part xs next x (part_of xs x)) i (part_there x (part_of xs x) refl r e)

    no_group : (g : Group) → IsCauseOfGroup t g CauseV.Always → ⊥
    no_group g h = elim h [ ]

    entries_always : (es : Entries) → IsCauseOfEntries t es CauseV.Always → IsThere (chosen_entries xs next es)
    entries_always no_entries h = refl
    entries_always (entries es e c) h = elim h [ ]

    entry_always : (e : Entry) → IsCauseOfEntry xs root t e CauseV.Always → AreReached xs root (entry_points e) → IsThere (chosen_entry xs next e)
    entry_always (typed o x) (of_type i k) r = typed_there o x i r (subst (λ ess. IsThere (chosen_each xs next ess)) (sym k) refl)
    entry_always (keyed o k x) (of_keyed i) r = there_if (occurs_once o) (Some (x ∷ [])) i refl
    entry_always (grouped o g) h r = elim h [ ]

    group_one : (g : Group) (a : ℕ) → IsCauseOfGroup t g (CauseV.One a) → ChosenRow a → AreReached xs root (group_points g) → IsThere (chosen_group xs next g)
    group_one (sole es) a (of_sole h) m r = m.entries es h r
    group_one (orelse g es) a h m r = elim h [ ]

    no_entries_one : (es : Entries) (a : ℕ) → IsCauseOfEntries t es (CauseV.One a) → ⊥
    no_entries_one es a h = elim h [ ]

    entry_one : (e : Entry) (a : ℕ) → IsCauseOfEntry xs root t e (CauseV.One a) → ChosenRow a → AreReached xs root (entry_points e) → IsThere (chosen_entry xs next e)
    entry_one (typed o x) a (of_named g i k h q) m r = typed_there o x i r (subst (λ ess. IsThere (chosen_each xs next ess)) (sym k) (to_each xs next g (m.group g h q)))
    entry_one (keyed o k x) a h m r = elim h [ ]
    entry_one (grouped o g) a (of_grouped i h) m r = there_if (occurs_once o) (chosen_group xs next g) i (m.group g h r)

    group_both : (g : Group) (a b : ℕ) → IsCauseOfGroup t g (CauseV.Both a b) → ChosenRow a → ChosenRow b → AreReached xs root (group_points g) → IsThere (chosen_group xs next g)
    group_both (sole es) a b h m k r = elim h [ ]
    group_both (orelse g es) a b (of_orelse h l) m k r = both_there (chosen_group xs next g) (chosen_entries xs next es) (m.group g h (left_reached xs root (group_points g) (entries_points es) r)) (k.entries es l (right_reached xs root (group_points g) (entries_points es) r))

    entries_both : (es : Entries) (a b : ℕ) → IsCauseOfEntries t es (CauseV.Both a b) → ChosenRow a → ChosenRow b → AreReached xs root (entries_points es) → IsThere (chosen_entries xs next es)
    entries_both no_entries a b h m k r = elim h [ ]
    entries_both (entries es e c) a b (of_more h l) m k r = both_there (chosen_entries xs next es) (chosen_entry xs next e) (m.entries es h (left_reached xs root (entries_points es) (entry_points e) r)) (k.entry e l (right_reached xs root (entries_points es) (entry_points e) r))

    no_entry_both : (e : Entry) (a b : ℕ) → IsCauseOfEntry xs root t e (CauseV.Both a b) → ⊥
    no_entry_both e a b h = elim h [ ]

    -- one of two rows is never enough
    no_group_either : (g : Group) (a b : ℕ) → IsCauseOfGroup t g (CauseV.Either a b) → ⊥
    no_group_either g a b h = elim h [ ]

    no_entries_either : (es : Entries) (a b : ℕ) → IsCauseOfEntries t es (CauseV.Either a b) → ⊥
    no_entries_either es a b h = elim h [ ]

    no_entry_either : (e : Entry) (a b : ℕ) → IsCauseOfEntry xs root t e (CauseV.Either a b) → ⊥
    no_entry_either e a b h = elim h [ ]

    never_either : (n a b : ℕ) → slice_get causes n ≡ Some (CauseV.Either a b) → ChosenRow n
    never_either n a b e = record {
      group = λ g h r. absurd (no_group_either g a b ((each n (CauseV.Either a b) e).group g h));
      entries = λ es h r. absurd (no_entries_either es a b ((each n (CauseV.Either a b) e).entries es h));
      entry = λ x h r. absurd (no_entry_either x a b ((each n (CauseV.Either a b) e).entry x h r));
    }

    sound : (n : ℕ) → Stands causes n → ChosenRow n
    sound n (always e) = record {
      group = λ g h r. absurd (no_group g ((each n CauseV.Always e).group g h));
      entries = λ es h r. entries_always es ((each n CauseV.Always e).entries es h);
      entry = λ x h r. entry_always x ((each n CauseV.Always e).entry x h r) r;
    }
    sound n (of_one {a = a} e s) =
        let m = sound a s in
        record {
          group = λ g h r. group_one g a ((each n (CauseV.One a) e).group g h) m r;
          entries = λ es h r. absurd (no_entries_one es a ((each n (CauseV.One a) e).entries es h));
          entry = λ x h r. entry_one x a ((each n (CauseV.One a) e).entry x h r) m r;
        }
    sound n (of_first {a = a} {b = b} e s) = never_either n a b e
    sound n (of_second {a = a} {b = b} e s) = never_either n a b e
    sound n (of_both {a = a} {b = b} e s u) =
        let m = sound a s in
        let k = sound b u in
        record {
          group = λ g h r. group_both g a b ((each n (CauseV.Both a b) e).group g h) m k r;
          entries = λ es h r. entries_both es a b ((each n (CauseV.Both a b) e).entries es h) m k r;
          entry = λ x h r. absurd (no_entry_both x a b ((each n (CauseV.Both a b) e).entry x h r));
        }

    pub group_chosen : (n : ℕ) (g : Group) → Stands causes n → IsGroup t n g → AreReached xs root (group_points g) → IsThere (chosen_in xs m (alternatives g))
    group_chosen n g s h r = ap is_some (in_is xs root m (alternatives g)) ∙ to_each xs next g ((sound n s).group g h r)

  -- What is chosen from follows.

  cause_there : (n : ℕ) (x : Tree) → Holds t (Some n) x → (c : RowCause) × (slice_get causes n ≡ Some c)
  cause_there n x (part e h a b) = there causes n (subst (λ l. n < l) (sym are.all) (within t.rows n _ e))

  module _ (next : List Entries → Option (List Term)) (again : (n : ℕ) (g : Group) → IsGroup t n g → AreReached xs root (group_points g) → IsThere (next (alternatives g)) → Stands causes n) where
    named_stands : (n : ℕ) (x : Term) (g : Group) → IsGroup t n g → AreReached xs root (group_points g) → (p : Part) → alternatives_at xs p ≡ alternatives g → IsThere (chosen_part xs next x p) → Stands causes n
    named_stands n x g h r asks_type k e = absurd (no_alternatives g k)
    named_stands n x g h r (names_group q) k e = again n g h r (subst (λ ess. IsThere (next ess)) k e)
    named_stands n x g h r (opens q f) k e = again n g h r (subst (λ ess. IsThere (next ess)) k e)

    mutual
      group_stands : (n : ℕ) (g : Group) → IsGroup t n g → AreReached xs root (group_points g) → IsThere (chosen_group xs next g) → Stands causes n
      group_stands n (sole es) h r e = let c = cause_there n (group_tree (sole es)) h in by (λ m k. entries_stands m es k r e) c.0 c.1 ((each n c.0 c.1).group (sole es) h)
        where
          by : ((m : ℕ) → IsEntries t m es → Stands causes m) → (c : RowCause) → slice_get causes n ≡ Some c → IsCauseOfGroup t (sole es) c → Stands causes n
          by f c i (of_sole {n = m} k) = of_one i (f m k)
      group_stands n (orelse g es) h r e = let c = cause_there n (group_tree (orelse g es)) h in by (λ m k. group_stands m g k (left_reached xs root (group_points g) (entries_points es) r) (first_there (chosen_group xs next g) (chosen_entries xs next es) e)) (λ m k. entries_stands m es k (right_reached xs root (group_points g) (entries_points es) r) (second_there (chosen_group xs next g) (chosen_entries xs next es) e)) c.0 c.1 ((each n c.0 c.1).group (orelse g es) h)
        where
          by : ((m : ℕ) → IsGroup t m g → Stands causes m) → ((m : ℕ) → IsEntries t m es → Stands causes m) → (c : RowCause) → slice_get causes n ≡ Some c → IsCauseOfGroup t (orelse g es) c → Stands causes n
          by f q c i (of_orelse {n = a} {m = b} k l) = of_both i (f a k) (q b l)

      entries_stands : (n : ℕ) (es : Entries) → IsEntries t n es → AreReached xs root (entries_points es) → IsThere (chosen_entries xs next es) → Stands causes n
      entries_stands n no_entries h r e = let c = cause_there n (entries_tree no_entries) h in by c.0 c.1 ((each n c.0 c.1).entries no_entries h)
        where
          by : (c : RowCause) → slice_get causes n ≡ Some c → IsCauseOfEntries t no_entries c → Stands causes n
          by c i of_none = always i
      entries_stands n (entries es x d) h r e = let c = cause_there n (entries_tree (entries es x d)) h in by (λ m k. entries_stands m es k (left_reached xs root (entries_points es) (entry_points x) r) (first_there (chosen_entries xs next es) (chosen_entry xs next x) e)) (λ m k. entry_stands m x k (right_reached xs root (entries_points es) (entry_points x) r) (second_there (chosen_entries xs next es) (chosen_entry xs next x) e)) c.0 c.1 ((each n c.0 c.1).entries (entries es x d) h)
        where
          by : ((m : ℕ) → IsEntries t m es → Stands causes m) → ((m : ℕ) → IsEntry t m x → Stands causes m) → (c : RowCause) → slice_get causes n ≡ Some c → IsCauseOfEntries t (entries es x d) c → Stands causes n
          by f q c i (of_more {n = a} {m = b} k l) = of_both i (f a k) (q b l)

      entry_stands : (n : ℕ) (x : Entry) → IsEntry t n x → AreReached xs root (entry_points x) → IsThere (chosen_entry xs next x) → Stands causes n
      entry_stands n (typed o x) h r e = let c = cause_there n (entry_tree (typed o x)) h in by (if_there (occurs_once o) (chosen_part xs next x (part_of xs x)) e) c.0 c.1 ((each n c.0 c.1).entry (typed o x) h r)
        where
          by : (occurs_once o ≡ true) × IsThere (chosen_part xs next x (part_of xs x)) → (c : RowCause) → slice_get causes n ≡ Some c → IsCauseOfEntry xs root t (typed o x) c → Stands causes n
          by f c i (not_once k) = absurd (nothing (sym k ∙ f.0))
          by f c i (of_type k l) = always i
          by f c i (of_named {n = m} g k l p q) = of_one i (named_stands m x g p q (part_of xs x) l f.1)
      entry_stands n (keyed o q x) h r e = let c = cause_there n (entry_tree (keyed o q x)) h in by (if_there (occurs_once o) (Some (x ∷ [])) e) c.0 c.1 ((each n c.0 c.1).entry (keyed o q x) h r)
        where
          by : (occurs_once o ≡ true) × IsThere (Some (x ∷ [])) → (c : RowCause) → slice_get causes n ≡ Some c → IsCauseOfEntry xs root t (keyed o q x) c → Stands causes n
          by f c i (not_once k) = absurd (nothing (sym k ∙ f.0))
          by f c i (of_keyed k) = always i
      entry_stands n (grouped o g) h r e = let c = cause_there n (entry_tree (grouped o g)) h in let f = if_there (occurs_once o) (chosen_group xs next g) e in by f.0 (λ m k. group_stands m g k r f.1) c.0 c.1 ((each n c.0 c.1).entry (grouped o g) h r)
        where
          by : occurs_once o ≡ true → ((m : ℕ) → IsGroup t m g → Stands causes m) → (c : RowCause) → slice_get causes n ≡ Some c → IsCauseOfEntry xs root t (grouped o g) c → Stands causes n
          by f q c i (not_once k) = absurd (nothing (sym k ∙ f))
          by f q c i (of_grouped {n = m} k l) = of_one i (q m l)

  complete : (j n : ℕ) (g : Group) → IsGroup t n g → AreReached xs root (group_points g) → IsThere (chosen_group xs (names_in xs root j) g) → Stands causes n
  complete zero n g h r e = group_stands (names_in xs root zero) (λ m f k q i. absurd (nothing i)) n g h r e
  complete (suc j) n g h r e = group_stands (names_in xs root (suc j)) (λ m f k q i. complete j m f k q (from_each xs (names_in xs root j) f (sym (ap is_some (in_is xs root j (alternatives f))) ∙ i))) n g h r e

  chosen_stands : (m n : ℕ) (g : Group) → IsGroup t n g → AreReached xs root (group_points g) → IsThere (chosen_in xs m (alternatives g)) → Stands causes n
  chosen_stands m n g h r e = complete m n g h r (from_each xs (names_in xs root m) g (sym (ap is_some (in_is xs root m (alternatives g))) ∙ e))

  module _ (have : HaveEntries xs) (refs : List Ref) (instances : AreInstances xs root refs) (opened_reached : (r : Ref) (g : Group) → Reaches xs root r → opened xs r ≡ Some (opens_group g) → AreReached xs root (group_points g)) where
    told : (m : ℕ) → length refs ≤ m → (flags : List Bool) → AreFollowing (length causes) (all_rules 0 causes) flags → (n : ℕ) (g : Group) → IsGroup t n g → AreReached xs root (group_points g) → (slice_get flags n ≡ Some true) ↔ (is_some (chosen_in xs m (alternatives g)) ≡ true)
    told m few flags f n g h r = (
      (λ e. group_chosen m (enough xs root have refs instances opened_reached m few (suc m)) n g (stands causes (length causes) n ((f.each n).0 e)) h r),
      (λ e. (f.each n).1 (follows causes n (chosen_stands m n g h r e))),
    )

    pub are_choosable : length refs ≤ most_instances → (flags : List Bool) → AreFollowing (length causes) (all_rules 0 causes) flags → AreChoosable xs root t flags
    are_choosable few flags f = record { all = f.all ∙ are.all; groups = told most_instances few flags f }
