-- The parts of rows.
use Rattle.std.proofs.Common.{◌≡◌, ◌⊎◌, ◌+◌, inl, inr, ℕ, List, [], ◌∷◌, ◌++◌, length, Option, Some, None, sym, ap, subst, ◌∙◌, slice_get, arith}
use Rattle.lists.proofs.Lemmas.{after_push, beyond_all, push_length, push_there as pushed}
use Rattle.cddl_language.specs.Terms.{Text, Group, Entries, Entry, Definition}
use Rattle.check_terms.specs.Table.{Table, HoldsText, some_text, no_text}
use Rattle.check_terms.specs.Trees.{group_tree, entries_tree, entry_tree}
use Rattle.check_terms.specs.declared.texts.occurrences.Occurrence.{Occurrence}
use Rattle.check_terms.specs.Texts.Occurrence.{IsOccurrence}
use Rattle.alternatives.specs.declared.Bounds.{Bounds}
use Rattle.alternatives.specs.declared.Part.{Part}
use Rattle.alternatives.specs.declared.Part.TheVariants as PartV
use Rattle.check_groups.specs.declared.causes.rows.GroupRow.{GroupRow}
use Rattle.check_groups.specs.Causes.Rows as R
use Rattle.check_groups.specs.Causes.Rows.{IsGroupOf, no_group, group_of, IsGroupRow, IsEntriesRow, IsEntryRow, IsRowAt, occurrence_at}
use Rattle.check_groups.specs.Splices.Parts.{HasBounds, IsOf, no_choices, choices_of, IsPartOfGroup, of_sole, of_orelse, IsPartOfEntries, of_none, of_more, IsPartOfEntry, of_type, of_named, of_keyed, of_grouped, IsPartAt, AreParts}
use Rattle.check_groups.specs.Splices.Rows.{part_of, row_or}
use Rattle.check_groups.proofs.OfCauses.Rows.{no_row}

-- what the text of an occurrence says
pub bounds_said : (texts : List Text) (m : Option ℕ) (n : ℕ) (x : Text) (c : Occurrence) → m ≡ Some n → Some x ≡ slice_get texts n → IsOccurrence x c → (o : Option Text) → HoldsText texts m o → HasBounds o (record { least = c.least; most = c.most })
bounds_said texts m n x c e g h o no_text = absurd (never n e)
  where
    never : (n : ℕ) → None ≡ Some n → ⊥
    never n e = cc
bounds_said texts m n x c e g h o (some_text {n = k} {x = y} i) = subst (λ s. HasBounds (Some s) (record { least = c.least; most = c.most })) same (record { least = h.least_is; most = h.most_is })
  where
    at : k ≡ n
    at = cc

    same : x ≡ y
    same = one (slice_get texts n) x y g (sym (ap (slice_get texts) at) ∙ i)
      where
        one : (o : Option Text) (a b : Text) → Some a ≡ o → o ≡ Some b → a ≡ b
        one o a b e g = cc

module _ (xs : List Definition) (root : Text) (t : Table) where
  of_group : (b : Bounds) (g : Group) (r : GroupRow) → IsGroupRow t g r → IsPartOfGroup t g (part_of r b (length t.rows))
  of_group b g r (R.of_sole h) = of_sole h
  of_group b g r (R.of_orelse h k) = of_orelse h k

  of_entries : (b : Bounds) (es : Entries) (r : GroupRow) → IsEntriesRow t es r → IsPartOfEntries t es (part_of r b (length t.rows))
  of_entries b es r R.of_none = of_none
  of_entries b es r (R.of_more h k) = of_more h k

  -- the row that stands for a group, or the number after the rows
  is_of : (ess : List Entries) (m : Option ℕ) → IsGroupOf xs root t ess m → IsOf xs root t ess (row_or m (length t.rows))
  is_of ess m (no_group e) = subst (λ fss. IsOf xs root t fss (length t.rows)) (sym e) no_choices
  is_of ess m (group_of {n = n} g e h a) = subst (λ fss. IsOf xs root t fss n) (sym e) (choices_of g h a)

  of_entry : (b : Bounds) (e : Entry) (r : GroupRow) → ((o : Option Text) → HoldsText t.texts (occurrence_at r) o → HasBounds o b) → IsEntryRow xs root t e r → IsPartOfEntry xs root t e (part_of r b (length t.rows))
  of_entry b e r says (R.of_type h g) = of_type g
  of_entry b e r says (R.of_named {o = o} {m = m} {ess = ess} h g is) = of_named (says o h) g (is_of ess m is)
  of_entry b e r says (R.of_keyed {o = o} h) = of_keyed (says o h)
  of_entry b e r says (R.of_grouped {o = o} h is) = of_grouped (says o h) is

  pub part_stands : (n : ℕ) (b : Bounds) (r : GroupRow) → ((o : Option Text) → HoldsText t.texts (occurrence_at r) o → HasBounds o b) → IsRowAt xs root t n r → IsPartAt xs root t n (part_of r b (length t.rows))
  part_stands n b r says at = record {
    group = λ g h. of_group b g r (at.group g h);
    entries = λ es h. of_entries b es r (at.entries es h);
    entry = λ e h k. of_entry b e r says (at.entry e h k);
  }

  -- no row is after the rows
  none_there : slice_get t.rows (length t.rows) ≡ None
  none_there = beyond_all t.rows (length t.rows) (omega arith)

  after_rows : (n : ℕ) (p : Part) → length t.rows ≡ n → IsPartAt xs root t n p
  after_rows n p e = subst (λ m. IsPartAt xs root t m p) e (record {
    group = λ g h. absurd (no_row t (length t.rows) (group_tree g) h (none_there));
    entries = λ es h. absurd (no_row t (length t.rows) (entries_tree es) h (none_there));
    entry = λ x h k. absurd (no_row t (length t.rows) (entry_tree x) h (none_there));
  })

  -- All parts, with one more after those of the rows.
  pub are_parts : (ps : List Part) → length ps ≡ length t.rows → ((n : ℕ) (p : Part) → slice_get ps n ≡ Some p → IsPartAt xs root t n p) → AreParts xs root t (ps ++ PartV.Nothing ∷ [])
  are_parts ps e f = record {
    all = push_length ps PartV.Nothing ∙ ap (λ n. n + 1) e;
    nothing = sym (ap (slice_get (ps ++ PartV.Nothing ∷ [])) e) ∙ pushed ps PartV.Nothing;
    each = λ n p g. at n p (after_push ps PartV.Nothing n p g);
  }
    where
      at : (n : ℕ) (p : Part) → ((length ps ≡ n) × (PartV.Nothing ≡ p)) ⊎ (slice_get ps n ≡ Some p) → IsPartAt xs root t n p
      at n p (inl h) = after_rows n p (sym e ∙ h.0)
      at n p (inr h) = f n p h
