-- The causes of groups, of entries and of each entry, and that those of rows are.
use Rattle.std.proofs.Common.{◌≡◌, ◌≢◌, ℕ, nat_eq, Bool, true, false, ◌⊎◌, inl, inr, if◌then◌else◌, List, [], Option, Some, refl, sym, ap, subst, ◌∙◌, slice_get, true≢false}
use Rattle.std.proofs.lemmas.Bool.Decides.{eqb_tells}
use Rattle.cddl_language.specs.Terms.{Text, Group, sole, orelse, Entries, no_entries, entries, Entry, typed, keyed, grouped, Definition, alternatives, occurrence_of}
use Rattle.cddl_language.specs.Numbers.{least_of}
use Rattle.cddl_language.specs.Kinds.{part_of}
use Rattle.cddl_language.specs.Reach.{group_points, entry_points}
use Rattle.check_terms.specs.Table.{Table, HoldsText, no_text, some_text}
use Rattle.check_terms.specs.Trees.{IsGroup, IsEntries, IsEntry}
use Rattle.check_instances.specs.Closed.Closed.{AreReached}
use Rattle.check_groups.specs.declared.causes.cause.RowCause.{RowCause}
use Rattle.check_groups.specs.declared.causes.cause.RowCause.TheVariants as CauseV
use Rattle.check_groups.specs.declared.causes.cause.GroupProperty.TheVariants as PropertyV
use Rattle.check_groups.specs.declared.causes.rows.GroupRow.{GroupRow}
use Rattle.check_groups.specs.Causes.Flags.{AreCauses}
use Rattle.check_groups.specs.Causes.Rows as R
use Rattle.check_groups.specs.Causes.Rows.{IsGroupOf, no_group, group_of, choices_or_none, alternatives_at, IsGroupRow, IsEntriesRow, IsEntryRow, IsAt}
use Rattle.check_groups.specs.Empty.Causes.{cause_from, empty_cause}
use Rattle.check_groups.specs.Empty.Occurrences.{is_optional_at, is_optional_by}

-- the alternatives of an entry without its occurrence, if it is one of a group
abbrev pub inner_alternatives : List Definition → Entry → List Entries
inner_alternatives xs (typed o x) = alternatives_at xs (part_of xs x)
inner_alternatives xs (keyed o k x) = []
inner_alternatives xs (grouped o g) = alternatives g

-- What follows of what, of a group, of entries, and of an entry.

pub data IsCauseOfGroup (t : Table) : Group → RowCause → Type 0 where
  of_sole : {es : Entries} {n : ℕ} → IsEntries t n es → IsCauseOfGroup t (sole es) (CauseV.One n)
  of_orelse : {g : Group} {es : Entries} {n m : ℕ} → IsGroup t n g → IsEntries t m es → IsCauseOfGroup t (orelse g es) (CauseV.Either n m)

pub data IsCauseOfEntries (t : Table) : Entries → RowCause → Type 0 where
  of_none : IsCauseOfEntries t no_entries CauseV.Always
  of_more : {es : Entries} {e : Entry} {n m : ℕ} {c : Bool} → IsEntries t n es → IsEntry t m e → IsCauseOfEntries t (entries es e c) (CauseV.Both n m)

pub data IsCauseOfEntry (xs : List Definition) (root : Text) (t : Table) (e : Entry) : RowCause → Type 0 where
  no_time : least_of (occurrence_of e) ≡ 0 → IsCauseOfEntry xs root t e CauseV.Always
  no_inner : least_of (occurrence_of e) ≢ 0 → inner_alternatives xs e ≡ [] → IsCauseOfEntry xs root t e CauseV.Never
  of_inner : {n : ℕ} (g : Group) → least_of (occurrence_of e) ≢ 0 → inner_alternatives xs e ≡ alternatives g → IsGroup t n g → AreReached xs root (group_points g) → IsCauseOfEntry xs root t e (CauseV.One n)

module _ (xs : List Definition) (root : Text) (t : Table) where
  -- the cause of a row
  abbrev pub IsCause : ℕ → RowCause → Type 0
  IsCause n c = IsAt xs root t (IsCauseOfGroup t) (IsCauseOfEntries t) (IsCauseOfEntry xs root t) n c

  of_group : (g : Group) (r : GroupRow) → IsGroupRow t g r → IsCauseOfGroup t g (empty_cause t.texts r)
  of_group g r (R.of_sole h) = of_sole h
  of_group g r (R.of_orelse h k) = of_orelse h k

  of_entries : (es : Entries) (r : GroupRow) → IsEntriesRow t es r → IsCauseOfEntries t es (empty_cause t.texts r)
  of_entries es r R.of_none = of_none
  of_entries es r (R.of_more h k) = of_more h k

  optional_text : (m : Option ℕ) (o : Option Text) → HoldsText t.texts m o → is_optional_at t.texts m ≡ nat_eq (least_of o) 0
  optional_text m o no_text = refl
  optional_text m o (some_text e) = ap is_optional_by e

  -- an entry that has to stand has this cause, and another may be empty
  where_needed : (e : Entry) (m : Option ℕ) → HoldsText t.texts m (occurrence_of e) → (c : RowCause) → (least_of (occurrence_of e) ≢ 0 → IsCauseOfEntry xs root t e c) → IsCauseOfEntry xs root t e (if is_optional_at t.texts m then CauseV.Always else c)
  where_needed e m h c f = by (is_optional_at t.texts m) (optional_text m (occurrence_of e) h) (eqb_tells (least_of (occurrence_of e)) 0)
    where
      by : (b : Bool) → b ≡ nat_eq (least_of (occurrence_of e)) 0 → ((nat_eq (least_of (occurrence_of e)) 0 ≡ true) × (least_of (occurrence_of e) ≡ 0)) ⊎ ((nat_eq (least_of (occurrence_of e)) 0 ≡ false) × (least_of (occurrence_of e) ≢ 0)) → IsCauseOfEntry xs root t e (if b then CauseV.Always else c)
      by true i (inl k) = no_time k.1
      by true i (inr k) = absurd (true≢false (i ∙ k.0))
      by false i (inl k) = absurd (true≢false (sym k.0 ∙ sym i))
      by false i (inr k) = f k.1

  inner_cause : (e : Entry) → least_of (occurrence_of e) ≢ 0 → (m : Option ℕ) → IsGroupOf xs root t (inner_alternatives xs e) m → IsCauseOfEntry xs root t e (cause_from m)
  inner_cause e i m (no_group k) = no_inner i k
  inner_cause e i m (group_of g k h a) = of_inner g i k h a

  of_entry : (e : Entry) (r : GroupRow) → IsEntryRow xs root t e r → AreReached xs root (entry_points e) → IsCauseOfEntry xs root t e (empty_cause t.texts r)
  of_entry e r (R.of_type {o = o} {x = x} {k = k} h g) a = where_needed (typed o x) k h CauseV.Never (λ i. no_inner i (ap choices_or_none g))
  of_entry e r (R.of_named {o = o} {x = x} {k = k} {m = m} h g is) a = where_needed (typed o x) k h (cause_from m) (λ i. inner_cause (typed o x) i m (subst (λ ess. IsGroupOf xs root t ess m) (sym (ap choices_or_none g)) is))
  of_entry e r (R.of_keyed {o = o} {q = q} {x = x} {k = k} h) a = where_needed (keyed o q x) k h CauseV.Never (λ i. no_inner i refl)
  of_entry e r (R.of_grouped {o = o} {g = g} {k = k} {n = n} h is) a = where_needed (grouped o g) k h (CauseV.One n) (λ i. of_inner g i refl is a)

  pub cause_at : (causes : List RowCause) → AreCauses PropertyV.MayBeEmpty xs root t causes → (n : ℕ) (c : RowCause) → slice_get causes n ≡ Some c → IsCause n c
  cause_at causes are n c e =
      let found = are.each n c e in
      let at = found.stands in
      subst (IsCause n) (sym found.same) (record {
        group = λ g h. of_group g found.row (at.group g h);
        entries = λ es h. of_entries es found.row (at.entries es h);
        entry = λ x h k. of_entry x found.row (at.entry x h k) k;
      })
