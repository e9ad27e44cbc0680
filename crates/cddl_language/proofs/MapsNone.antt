-- Where the group of a map has no alternatives, something is wrong with what is spliced into it.
use Rattle.std.specs.Prelude.{◌≡◌, ℕ, zero, suc, ◌≤◌, ◌⊎◌, List, [], ◌∷◌, ◌++◌, Contains, Option, Some, None}
use Rattle.std.proofs.Common.{inl, inr, refl, sym, ap, ◌∙◌, arith}
use Rattle.std.proofs.lemmas.List.Elements.{Contains-append_cases, Contains-append_left, Contains-append_right, Contains-push}
use Rattle.lists.proofs.Lemmas.{no_some as none_is_some, some_none as some_is_none}
use Rattle.cddl_language.proofs.Basics.{none_in}
use Rattle.cddl_language.proofs.MapsFlat.{group_each, more_names}
use Rattle.cddl_language.specs.Terms.{Text, Term, Group, sole, orelse, Entries, no_entries, entries, Entry, typed, keyed, grouped, Definition, alternatives, entry_list}
use Rattle.cddl_language.specs.Substitution.{group_choices}
use Rattle.cddl_language.specs.Kinds.{Part, asks_type, names_group, opens, part_of}
use Rattle.cddl_language.specs.Reach.{Point, at_name, at_unwrapping, most_instances}
use Rattle.cddl_language.specs.Maps.{Alternatives, alternatives_of_both, combined, occurring_so, in_part, in_group, in_entries, in_entry, in_each, alternatives_in, alternatives_of, map_alternatives}
use Rattle.cddl_language.specs.MapFaults.{all_entries, group_of_part, group_in, point_of_part, point_in, IsSplicedInto, its_own, further, LacksKey, asks, OccursBadly, with_these, GoesThrough, nowhere, onward}

one_none : (o q : Option Alternatives) → alternatives_of_both o q ≡ None → (o ≡ None) ⊎ (q ≡ None)
one_none (Some ms) (Some ns) e = absurd (some_is_none e)
one_none (Some ms) None e = inr refl
one_none None q e = inl refl

one_none_combined : (o q : Option Alternatives) → combined o q ≡ None → (o ≡ None) ⊎ (q ≡ None)
one_none_combined (Some ms) (Some ns) e = absurd (some_is_none e)
one_none_combined (Some ms) None e = inr refl
one_none_combined None q e = inl refl

-- an entry of the first choices, or of the last
in_first : (ess fss : List Entries) (e : Entry) → Contains (all_entries ess) e → Contains (all_entries (ess ++ fss)) e
in_first [] fss e c = absurd (none_in c)
in_first (es ∷ ess) fss e c = by (in_first ess fss e) (Contains-append_cases (entry_list es) (all_entries ess) e c)
  where
    by : (Contains (all_entries ess) e → Contains (all_entries (ess ++ fss)) e) → Contains (entry_list es) e ⊎ Contains (all_entries ess) e → Contains (entry_list es ++ all_entries (ess ++ fss)) e
    by more (inl i) = Contains-append_left (entry_list es) (all_entries (ess ++ fss)) e i
    by more (inr i) = Contains-append_right (entry_list es) (all_entries (ess ++ fss)) e (more i)

in_last : (ess : List Entries) (es : Entries) (e : Entry) → Contains (entry_list es) e → Contains (all_entries (ess ++ es ∷ [])) e
in_last [] es e c = Contains-append_left (entry_list es) [] e c
in_last (fs ∷ ess) es e c = Contains-append_right (entry_list fs) (all_entries (ess ++ es ∷ [])) e (in_last ess es e c)

module _ (ds : List Definition) where
  abbrev IsBad : Entry → Type 0
  IsBad e = LacksKey ds e ⊎ OccursBadly ds e

  -- a bad entry is spliced into these choices, or a way goes through so many names
  abbrev Wrong : ℕ → List Entries → Type 0
  Wrong k ess = ((e : Entry) × IsSplicedInto ds e ess × IsBad e) ⊎ GoesThrough ds k ess

  -- the entry is bad, or its group is wrong
  data IsWrong (k : ℕ) (e : Entry) : Type 0 where
    bad : IsBad e → IsWrong k e
    by_name : {fss : List Entries} {p : Point} → group_in ds e ≡ Some fss → point_in ds e ≡ Some p → Wrong k fss → IsWrong k e
    in_parens : {fss : List Entries} → group_in ds e ≡ Some fss → Wrong (suc k) fss → IsWrong k e

  wrong : (k : ℕ) (ess : List Entries) (e : Entry) → Contains (all_entries ess) e → IsWrong k e → Wrong (suc k) ess
  wrong k ess e c (bad b) = inl (e, its_own c, b)
  wrong k ess e c (by_name g p (inl b)) = inl (b.0, further c g b.1, b.2)
  wrong k ess e c (by_name g p (inr w)) = inr (onward (its_own c) p g w)
  wrong k ess e c (in_parens g (inl b)) = inl (b.0, further c g b.1, b.2)
  wrong k ess e c (in_parens g (inr (onward s p h w))) = inr (onward (further c g s) p h w)

  module _ (k : ℕ) (next : List Entries → Option Alternatives) (none : (us : List Entries) → next us ≡ None → Wrong k us) (some : (us : List Entries) (nss : Alternatives) → next us ≡ Some nss → alternatives_of ds us ≡ Some nss) (some_group : (g : Group) (nss : Alternatives) → in_group ds next g ≡ Some nss → alternatives_of ds (alternatives g) ≡ Some nss) where
    named_wrong : (o : Option Text) (t : Term) (us : List Entries) (p : Point) → group_in ds (typed o t) ≡ Some us → point_in ds (typed o t) ≡ Some p → occurring_so o (next us) ≡ None → IsWrong k (typed o t)
    named_wrong o t us p g q e = by (next us) refl e
      where
        by : (x : Option Alternatives) → next us ≡ x → occurring_so o x ≡ None → IsWrong k (typed o t)
        by (Some nss) i h = bad (inr (with_these g (some us nss i) h))
        by None i h = by_name g q (none us i)

    typed_wrong : (o : Option Text) (t : Term) (p : Part) → part_of ds t ≡ p → occurring_so o (in_part ds next p) ≡ None → IsWrong k (typed o t)
    typed_wrong o t asks_type i e = bad (inl (asks i))
    typed_wrong o t (names_group r) i e = named_wrong o t (group_choices ds r) (at_name r) (ap (group_of_part ds) i) (ap (point_of_part ds) i) e
    typed_wrong o t (opens r g) i e = named_wrong o t (alternatives g) (at_unwrapping r) (ap (group_of_part ds) i) (ap (point_of_part ds) i) e

    -- an entry of these that is wrong
    abbrev SomeWrong : List Entry → Type 0
    SomeWrong es = (e : Entry) × Contains es e × IsWrong k e

    mutual
      group_wrong : (g : Group) → in_group ds next g ≡ None → SomeWrong (all_entries (alternatives g))
      group_wrong (sole es) h = let w = entries_wrong es h in (w.0, Contains-append_left (entry_list es) [] w.0 w.1, w.2)
      group_wrong (orelse g es) h = by (group_wrong g) (entries_wrong es) (one_none (in_group ds next g) (in_entries ds next es) h)
        where
          by : (in_group ds next g ≡ None → SomeWrong (all_entries (alternatives g))) → (in_entries ds next es ≡ None → SomeWrong (entry_list es)) → (in_group ds next g ≡ None) ⊎ (in_entries ds next es ≡ None) → SomeWrong (all_entries (alternatives g ++ es ∷ []))
          by first last (inl i) = let w = first i in (w.0, in_first (alternatives g) (es ∷ []) w.0 w.1, w.2)
          by first last (inr i) = let w = last i in (w.0, in_last (alternatives g) es w.0 w.1, w.2)

      entries_wrong : (es : Entries) → in_entries ds next es ≡ None → SomeWrong (entry_list es)
      entries_wrong no_entries h = absurd (some_is_none h)
      entries_wrong (entries es e c) h = by (entries_wrong es) (entry_wrong e) (one_none_combined (in_entries ds next es) (in_entry ds next e) h)
        where
          by : (in_entries ds next es ≡ None → SomeWrong (entry_list es)) → (in_entry ds next e ≡ None → IsWrong k e) → (in_entries ds next es ≡ None) ⊎ (in_entry ds next e ≡ None) → SomeWrong (entry_list es ++ e ∷ [])
          by first last (inl i) = let w = first i in (w.0, Contains-append_left (entry_list es) (e ∷ []) w.0 w.1, w.2)
          by first last (inr i) = (e, Contains-push (entry_list es) e, last i)

      entry_wrong : (e : Entry) → in_entry ds next e ≡ None → IsWrong k e
      entry_wrong (typed o t) h = typed_wrong o t (part_of ds t) refl h
      entry_wrong (keyed o w t) h = absurd (some_is_none h)
      entry_wrong (grouped o g) h = by (group_wrong g) (in_group ds next g) refl h
        where
          by : (in_group ds next g ≡ None → SomeWrong (all_entries (alternatives g))) → (x : Option Alternatives) → in_group ds next g ≡ x → occurring_so o x ≡ None → IsWrong k (grouped o g)
          by inside (Some nss) i h = bad (inr (with_these refl (some_group g nss i) h))
          by inside None i h = let w = inside i in in_parens refl (wrong k (alternatives g) w.0 w.1 w.2)

    each_wrong : (ess : List Entries) → in_each ds next ess ≡ None → SomeWrong (all_entries ess)
    each_wrong [] h = absurd (some_is_none h)
    each_wrong (es ∷ ess) h = by (each_wrong ess) (one_none (in_entries ds next es) (in_each ds next ess) h)
      where
        by : (in_each ds next ess ≡ None → SomeWrong (all_entries ess)) → (in_entries ds next es ≡ None) ⊎ (in_each ds next ess ≡ None) → SomeWrong (entry_list es ++ all_entries ess)
        by more (inl i) = let w = entries_wrong es i in (w.0, Contains-append_left (entry_list es) (all_entries ess) w.0 w.1, w.2)
        by more (inr i) = let w = more i in (w.0, Contains-append_right (entry_list es) (all_entries ess) w.0 w.1, w.2)

  none_wrong : (k : ℕ) → k ≤ most_instances → (ess : List Entries) → alternatives_in ds k ess ≡ None → Wrong (suc k) ess
  none_wrong zero h ess e =
      let w = each_wrong zero (λ us. None) (λ us i. inr nowhere) (λ us nss i. absurd (none_is_some i)) (λ g nss i. more_names ds zero most_instances h (alternatives g) nss (sym (group_each ds (λ us. None) g) ∙ i)) ess e in
      wrong zero ess w.0 w.1 w.2
  none_wrong (suc k) h ess e =
      let w = each_wrong (suc k) (λ us. alternatives_in ds k us) (none_wrong k (omega (arith, h))) (more_names ds k most_instances (omega (arith, h))) (λ g nss i. more_names ds (suc k) most_instances h (alternatives g) nss (sym (group_each ds (λ us. alternatives_in ds k us) g) ∙ i)) ess e in
      wrong (suc k) ess w.0 w.1 w.2

  pub something_wrong : (g : Group) → map_alternatives ds g ≡ None → ((e : Entry) × IsSplicedInto ds e (alternatives g) × (LacksKey ds e ⊎ OccursBadly ds e)) ⊎ GoesThrough ds (suc most_instances) (alternatives g)
  something_wrong g h = none_wrong most_instances (omega arith) (alternatives g) h
