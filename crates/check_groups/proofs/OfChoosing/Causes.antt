-- The causes of groups, of entries and of each entry, and that those of rows are.
use Rattle.std.proofs.Common.{◌≡◌, ℕ, Bool, true, false, if◌then◌else◌, List, [], Option, Some, refl, sym, ap, subst, slice_get}
use Rattle.cddl_language.specs.Terms.{Text, Term, Group, sole, orelse, Entries, no_entries, entries, Entry, typed, keyed, grouped, Key, Definition, alternatives, occurrence_of}
use Rattle.cddl_language.specs.Numbers.{occurs_once}
use Rattle.cddl_language.specs.Kinds.{part_of}
use Rattle.cddl_language.specs.Reach.{group_points}
use Rattle.check_terms.specs.Table.{Table, HoldsText, no_text, some_text}
use Rattle.check_terms.specs.Trees.{IsGroup, IsEntries, IsEntry}
use Rattle.check_instances.specs.Closed.Closed.{AreReached}
use Rattle.check_groups.specs.declared.causes.cause.RowCause.{RowCause}
use Rattle.check_groups.specs.declared.causes.cause.RowCause.TheVariants as CauseV
use Rattle.check_groups.specs.declared.causes.cause.GroupProperty.TheVariants as PropertyV
use Rattle.check_groups.specs.declared.causes.rows.GroupRow.{GroupRow}
use Rattle.check_groups.specs.Causes.Flags.{AreCauses}
use Rattle.check_groups.specs.Causes.Rows as R
use Rattle.check_groups.specs.Causes.Rows.{IsGroupOf, no_group, group_of, choices_or_none, alternatives_at, IsGroupRow, IsEntriesRow, IsEntryRow, IsAt}
use Rattle.check_groups.specs.Choosing.Causes.{cause_from, choosing_cause}
use Rattle.check_groups.specs.Choosing.Occurrences.{is_once_at, is_once_by}

-- What follows of what, of a group, of entries, and of an entry.

pub data IsCauseOfGroup (t : Table) : Group → RowCause → Type 0 where
  of_sole : {es : Entries} {n : ℕ} → IsEntries t n es → IsCauseOfGroup t (sole es) (CauseV.One n)
  of_orelse : {g : Group} {es : Entries} {n m : ℕ} → IsGroup t n g → IsEntries t m es → IsCauseOfGroup t (orelse g es) (CauseV.Both n m)

pub data IsCauseOfEntries (t : Table) : Entries → RowCause → Type 0 where
  of_none : IsCauseOfEntries t no_entries CauseV.Always
  of_more : {es : Entries} {e : Entry} {n m : ℕ} {c : Bool} → IsEntries t n es → IsEntry t m e → IsCauseOfEntries t (entries es e c) (CauseV.Both n m)

pub data IsCauseOfEntry (xs : List Definition) (root : Text) (t : Table) : Entry → RowCause → Type 0 where
  not_once : {e : Entry} → occurs_once (occurrence_of e) ≡ false → IsCauseOfEntry xs root t e CauseV.Never
  of_type : {o : Option Text} {x : Term} → occurs_once o ≡ true → alternatives_at xs (part_of xs x) ≡ [] → IsCauseOfEntry xs root t (typed o x) CauseV.Always
  of_named : {o : Option Text} {x : Term} {n : ℕ} (g : Group) → occurs_once o ≡ true → alternatives_at xs (part_of xs x) ≡ alternatives g → IsGroup t n g → AreReached xs root (group_points g) → IsCauseOfEntry xs root t (typed o x) (CauseV.One n)
  of_keyed : {o : Option Text} {k : Key} {x : Term} → occurs_once o ≡ true → IsCauseOfEntry xs root t (keyed o k x) CauseV.Always
  of_grouped : {o : Option Text} {g : Group} {n : ℕ} → occurs_once o ≡ true → IsGroup t n g → IsCauseOfEntry xs root t (grouped o g) (CauseV.One n)

module _ (xs : List Definition) (root : Text) (t : Table) where
  -- the cause of a row
  abbrev pub IsCause : ℕ → RowCause → Type 0
  IsCause n c = IsAt xs root t (IsCauseOfGroup t) (IsCauseOfEntries t) (IsCauseOfEntry xs root t) n c

  of_group : (g : Group) (r : GroupRow) → IsGroupRow t g r → IsCauseOfGroup t g (choosing_cause t.texts r)
  of_group g r (R.of_sole h) = of_sole h
  of_group g r (R.of_orelse h k) = of_orelse h k

  of_entries : (es : Entries) (r : GroupRow) → IsEntriesRow t es r → IsCauseOfEntries t es (choosing_cause t.texts r)
  of_entries es r R.of_none = of_none
  of_entries es r (R.of_more h k) = of_more h k

  once_text : (m : Option ℕ) (o : Option Text) → HoldsText t.texts m o → is_once_at t.texts m ≡ occurs_once o
  once_text m o no_text = refl
  once_text m o (some_text e) = ap is_once_by e

  -- an entry that occurs once has this cause, and another has none
  where_once : (e : Entry) (m : Option ℕ) → HoldsText t.texts m (occurrence_of e) → (c : RowCause) → (occurs_once (occurrence_of e) ≡ true → IsCauseOfEntry xs root t e c) → IsCauseOfEntry xs root t e (if is_once_at t.texts m then c else CauseV.Never)
  where_once e m h c f = by (is_once_at t.texts m) (once_text m (occurrence_of e) h)
    where
      by : (b : Bool) → b ≡ occurs_once (occurrence_of e) → IsCauseOfEntry xs root t e (if b then c else CauseV.Never)
      by true i = f (sym i)
      by false i = not_once (sym i)

  named_cause : (o : Option Text) (x : Term) → occurs_once o ≡ true → (m : Option ℕ) → IsGroupOf xs root t (alternatives_at xs (part_of xs x)) m → IsCauseOfEntry xs root t (typed o x) (cause_from m)
  named_cause o x i m (no_group k) = of_type i k
  named_cause o x i m (group_of g k h a) = of_named g i k h a

  of_entry : (e : Entry) (r : GroupRow) → IsEntryRow xs root t e r → IsCauseOfEntry xs root t e (choosing_cause t.texts r)
  of_entry e r (R.of_type {o = o} {x = x} {k = k} h g) = where_once (typed o x) k h CauseV.Always (λ i. of_type i (ap choices_or_none g))
  of_entry e r (R.of_named {o = o} {x = x} {k = k} {m = m} h g is) = where_once (typed o x) k h (cause_from m) (λ i. named_cause o x i m (subst (λ ess. IsGroupOf xs root t ess m) (sym (ap choices_or_none g)) is))
  of_entry e r (R.of_keyed {o = o} {q = q} {x = x} {k = k} h) = where_once (keyed o q x) k h CauseV.Always (λ i. of_keyed i)
  of_entry e r (R.of_grouped {o = o} {g = g} {k = k} {n = n} h is) = where_once (grouped o g) k h (CauseV.One n) (λ i. of_grouped i is)

  pub cause_at : (causes : List RowCause) → AreCauses PropertyV.CanChoose xs root t causes → (n : ℕ) (c : RowCause) → slice_get causes n ≡ Some c → IsCause n c
  cause_at causes are n c e =
      let found = are.each n c e in
      let at = found.stands in
      subst (IsCause n) (sym found.same) (record {
        group = λ g h. of_group g found.row (at.group g h);
        entries = λ es h. of_entries es found.row (at.entries es h);
        entry = λ x h k. of_entry x found.row (at.entry x h k);
      })
