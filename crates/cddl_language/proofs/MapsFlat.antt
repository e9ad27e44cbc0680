-- Where the group of a map has alternatives, nothing is wrong with what is spliced into it.
use Rattle.std.specs.Prelude.{◌≡◌, ℕ, zero, suc, ◌<◌, ◌≤◌, Bool, true, false, if◌then◌else◌, ◌⊎◌, List, [], ◌∷◌, ◌++◌, Contains, Option, Some, None}
use Rattle.std.proofs.Common.{inl, inr, refl, sym, ap, ◌∙◌, subst, arith}
use Rattle.std.proofs.lemmas.List.{append-nil, append_assoc}
use Rattle.std.proofs.lemmas.List.Elements.{Contains-append_cases}
use Rattle.lists.proofs.Lemmas.{no_some as none_is_some, same_some, some_none as some_is_none}
use Rattle.cddl_meaning.specs.Forms.{Most, at_most, any_number_of}
use Rattle.cddl_language.proofs.Basics.{none_in, only}
use Rattle.cddl_language.specs.Numbers.{least_of, most_of}
use Rattle.cddl_language.specs.Terms.{Text, Term, named, unwrapped, Group, sole, orelse, Entries, no_entries, entries, Entry, typed, keyed, grouped, Definition, alternatives, entry_list, stripped, name_of, occurrence_of}
use Rattle.cddl_language.specs.Substitution.{group_choices}
use Rattle.cddl_language.specs.Kinds.{Opened, opens_group, opens_type, opened, is_group, Part, asks_type, names_group, opens, opened_part, stripped_part, part_of}
use Rattle.cddl_language.specs.Reach.{Point, at_name, at_unwrapping, at_choice, at_chosen_name, at_opened_choice, most_instances}
use Rattle.cddl_language.specs.Maps.{Alternatives, alternatives_of_both, combined, occurring, occurs, occurring_so, in_part, in_group, in_entries, in_entry, in_each, alternatives_in, map_alternatives}
use Rattle.cddl_language.specs.MapFaults.{all_entries, group_of_part, group_in, point_of_part, point_in, IsSplicedInto, its_own, further, IsLedToBy, by_itself, by_group, LacksKey, asks, OccursBadly, never, with_these, ComesBack}

-- Options of alternatives.

both_joined : (o q : Option Alternatives) (mss : Alternatives) → alternatives_of_both o q ≡ Some mss → (ms : Alternatives) × (ns : Alternatives) × (o ≡ Some ms) × (q ≡ Some ns)
both_joined (Some ms) (Some ns) mss e = (ms, ns, refl, refl)
both_joined (Some ms) None mss e = absurd (none_is_some e)
both_joined None q mss e = absurd (none_is_some e)

both_combined : (o q : Option Alternatives) (mss : Alternatives) → combined o q ≡ Some mss → (ms : Alternatives) × (ns : Alternatives) × (o ≡ Some ms) × (q ≡ Some ns)
both_combined (Some ms) (Some ns) mss e = (ms, ns, refl, refl)
both_combined (Some ms) None mss e = absurd (none_is_some e)
both_combined None q mss e = absurd (none_is_some e)

occurring_some : (o : Option Text) (q : Option Alternatives) (mss : Alternatives) → occurring_so o q ≡ Some mss → (nss : Alternatives) × (q ≡ Some nss) × (occurs o nss ≡ Some mss)
occurring_some o (Some nss) mss e = (nss, refl, e)
occurring_some o None mss e = absurd (none_is_some e)

-- what the one option has, the other has too
abbrev Follows : Option Alternatives → Option Alternatives → Type 0
Follows o q = (mss : Alternatives) → o ≡ Some mss → q ≡ Some mss

joined_follows : (o q p s : Option Alternatives) → Follows o p → Follows q s → Follows (alternatives_of_both o q) (alternatives_of_both p s)
joined_follows (Some ms) (Some ns) p s h k mss e = subst (λ x. alternatives_of_both x s ≡ Some mss) (sym (h ms refl)) (subst (λ y. alternatives_of_both (Some ms) y ≡ Some mss) (sym (k ns refl)) e)
joined_follows (Some ms) None p s h k mss e = absurd (none_is_some e)
joined_follows None q p s h k mss e = absurd (none_is_some e)

combined_follows : (o q p s : Option Alternatives) → Follows o p → Follows q s → Follows (combined o q) (combined p s)
combined_follows (Some ms) (Some ns) p s h k mss e = subst (λ x. combined x s ≡ Some mss) (sym (h ms refl)) (subst (λ y. combined (Some ms) y ≡ Some mss) (sym (k ns refl)) e)
combined_follows (Some ms) None p s h k mss e = absurd (none_is_some e)
combined_follows None q p s h k mss e = absurd (none_is_some e)

occurring_follows : (o : Option Text) (q p : Option Alternatives) → Follows q p → Follows (occurring_so o q) (occurring_so o p)
occurring_follows o (Some nss) p h mss e = subst (λ x. occurring_so o x ≡ Some mss) (sym (h nss refl)) e
occurring_follows o None p h mss e = absurd (none_is_some e)

joined_nothing : (o : Option Alternatives) → o ≡ alternatives_of_both o (Some [])
joined_nothing (Some mss) = ap Some (sym (append-nil mss))
joined_nothing None = refl

nothing_joined : (o : Option Alternatives) → alternatives_of_both o (Some []) ≡ alternatives_of_both (Some []) o
nothing_joined (Some mss) = ap Some (append-nil mss)
nothing_joined None = refl

joined_further : (o q p : Option Alternatives) → alternatives_of_both o (alternatives_of_both q p) ≡ alternatives_of_both (alternatives_of_both o q) p
joined_further (Some a) (Some b) (Some c) = ap Some (sym (append_assoc a b c))
joined_further (Some a) (Some b) None = refl
joined_further (Some a) None p = refl
joined_further None q p = refl

-- a group that may occur so has an occurrence that a group may have
never_none : (least : ℕ) (most : Most) (nss mss : Alternatives) → occurring least most nss ≡ Some mss → occurring least most [] ≡ None → ⊥
never_none zero (at_most zero) nss mss e h = none_is_some e
never_none zero (at_most (suc zero)) nss mss e h = some_is_none h
never_none zero (at_most (suc (suc n))) nss mss e h = none_is_some e
never_none zero any_number_of nss mss e h = some_is_none h
never_none (suc zero) (at_most zero) nss mss e h = none_is_some e
never_none (suc zero) (at_most (suc zero)) nss mss e h = some_is_none h
never_none (suc zero) (at_most (suc (suc n))) nss mss e h = none_is_some e
never_none (suc zero) any_number_of nss mss e h = some_is_none h
never_none (suc (suc m)) most nss mss e h = none_is_some e

module _ (ds : List Definition) where
  module _ (next : List Entries → Option Alternatives) where
    -- an entry has something
    abbrev Has : Entry → Type 0
    Has e = (mss : Alternatives) × (in_entry ds next e ≡ Some mss)

    entry_has : (es : Entries) (mss : Alternatives) → in_entries ds next es ≡ Some mss → (e : Entry) → Contains (entry_list es) e → Has e
    entry_has no_entries mss h e c = absurd (none_in c)
    entry_has (entries es d b) mss h e c = let k = both_combined (in_entries ds next es) (in_entry ds next d) mss h in by (entry_has es k.0 k.2 e) (k.1, k.3) (Contains-append_cases (entry_list es) (d ∷ []) e c)
      where
        by : (Contains (entry_list es) e → Has e) → Has d → Contains (entry_list es) e ⊎ Contains (d ∷ []) e → Has e
        by earlier last (inl i) = earlier i
        by earlier last (inr i) = subst Has (sym (only i)) last

    each_has : (ess : List Entries) (mss : Alternatives) → in_each ds next ess ≡ Some mss → (e : Entry) → Contains (all_entries ess) e → Has e
    each_has [] mss h e c = absurd (none_in c)
    each_has (es ∷ ess) mss h e c = let k = both_joined (in_entries ds next es) (in_each ds next ess) mss h in by (entry_has es k.0 k.2 e) (each_has ess k.1 k.3 e) (Contains-append_cases (entry_list es) (all_entries ess) e c)
      where
        by : (Contains (entry_list es) e → Has e) → (Contains (all_entries ess) e → Has e) → Contains (entry_list es) e ⊎ Contains (all_entries ess) e → Has e
        by here there (inl i) = here i
        by here there (inr i) = there i

    each_more : (ess : List Entries) (es : Entries) → alternatives_of_both (in_each ds next ess) (in_entries ds next es) ≡ in_each ds next (ess ++ es ∷ [])
    each_more [] es = sym (nothing_joined (in_entries ds next es))
    each_more (fs ∷ ess) es = sym (joined_further (in_entries ds next fs) (in_each ds next ess) (in_entries ds next es)) ∙ ap (λ o. alternatives_of_both (in_entries ds next fs) o) (each_more ess es)

    -- a group has what its choices have
    pub group_each : (g : Group) → in_group ds next g ≡ in_each ds next (alternatives g)
    group_each (sole es) = joined_nothing (in_entries ds next es)
    group_each (orelse g es) = ap (λ o. alternatives_of_both o (in_entries ds next es)) (group_each g) ∙ each_more (alternatives g) es

  -- Ways through more names change nothing.

  module _ (f g : List Entries → Option Alternatives) (follows : (ess : List Entries) → Follows (f ess) (g ess)) where
    part_follows : (p : Part) → Follows (in_part ds f p) (in_part ds g p)
    part_follows asks_type mss e = e
    part_follows (names_group r) mss e = follows (group_choices ds r) mss e
    part_follows (opens r h) mss e = follows (alternatives h) mss e

    mutual
      group_follows : (h : Group) → Follows (in_group ds f h) (in_group ds g h)
      group_follows (sole es) mss e = entries_follow es mss e
      group_follows (orelse h es) mss e = joined_follows (in_group ds f h) (in_entries ds f es) (in_group ds g h) (in_entries ds g es) (group_follows h) (entries_follow es) mss e

      entries_follow : (es : Entries) → Follows (in_entries ds f es) (in_entries ds g es)
      entries_follow no_entries mss e = e
      entries_follow (entries es d c) mss e = combined_follows (in_entries ds f es) (in_entry ds f d) (in_entries ds g es) (in_entry ds g d) (entries_follow es) (entry_follows d) mss e

      entry_follows : (d : Entry) → Follows (in_entry ds f d) (in_entry ds g d)
      entry_follows (typed o t) mss e = occurring_follows o (in_part ds f (part_of ds t)) (in_part ds g (part_of ds t)) (part_follows (part_of ds t)) mss e
      entry_follows (keyed o k t) mss e = e
      entry_follows (grouped o h) mss e = occurring_follows o (in_group ds f h) (in_group ds g h) (group_follows h) mss e

    each_follows : (ess : List Entries) → Follows (in_each ds f ess) (in_each ds g ess)
    each_follows [] mss e = e
    each_follows (es ∷ ess) mss e = joined_follows (in_entries ds f es) (in_each ds f ess) (in_entries ds g es) (in_each ds g ess) (entries_follow es) (each_follows ess) mss e

  pub more_names : (k n : ℕ) → k ≤ n → (ess : List Entries) → Follows (alternatives_in ds k ess) (alternatives_in ds n ess)
  more_names zero zero h ess mss e = e
  more_names zero (suc n) h ess mss e = each_follows (λ us. None) (λ us. alternatives_in ds n us) (λ us ms i. absurd (none_is_some i)) ess mss e
  more_names (suc k) zero h ess mss e = absurd (omega (arith, h))
  more_names (suc k) (suc n) h ess mss e = each_follows (λ us. alternatives_in ds k us) (λ us. alternatives_in ds n us) (more_names k n (omega (arith, h))) ess mss e

  -- Down into what is spliced: through fewer names each time that one is named.

  abbrev step : ℕ → List Entries → Option Alternatives
  step zero us = None
  step (suc k) us = alternatives_in ds k us

  by_step : (k : ℕ) (ess : List Entries) → alternatives_in ds k ess ≡ in_each ds (λ us. step k us) ess
  by_step zero ess = refl
  by_step (suc k) ess = refl

  -- the group of an entry with this occurrence, by this reference if any, has alternatives that may occur so
  record Down (k : ℕ) (o : Option Text) (q : Option Point) (fss : List Entries) : Type 0 where
    names : ℕ
    own : Alternatives
    so : Alternatives
    has : alternatives_in ds names fss ≡ Some own
    occur : occurs o own ≡ Some so
    no_more : names ≤ k
    fewer : (p : Point) → q ≡ Some p → names < k

  down_named : (k : ℕ) (o : Option Text) (q : Option Point) (ess fss : List Entries) (mss : Alternatives) → occurring_so o (step k ess) ≡ Some mss → Some ess ≡ Some fss → Down k o q fss
  down_named zero o q ess fss mss e h = absurd (none_is_some e)
  down_named (suc k) o q ess fss mss e h =
      let i = occurring_some o (alternatives_in ds k ess) mss e in
      record { names = k; own = i.0; so = mss; has = subst (λ us. alternatives_in ds k us ≡ Some (i.0)) (same_some h) i.1; occur = i.2; no_more = omega arith; fewer = λ p j. omega arith }

  down_part : (k : ℕ) (o : Option Text) (p : Part) (fss : List Entries) (mss : Alternatives) → occurring_so o (in_part ds (λ us. step k us) p) ≡ Some mss → group_of_part ds p ≡ Some fss → Down k o (point_of_part ds p) fss
  down_part k o asks_type fss mss e h = absurd (none_is_some h)
  down_part k o (names_group r) fss mss e h = down_named k o (Some (at_name r)) (group_choices ds r) fss mss e h
  down_part k o (opens r g) fss mss e h = down_named k o (Some (at_unwrapping r)) (alternatives g) fss mss e h

  down : (k : ℕ) (e : Entry) (fss : List Entries) (mss : Alternatives) → in_entry ds (λ us. step k us) e ≡ Some mss → group_in ds e ≡ Some fss → Down k (occurrence_of e) (point_in ds e) fss
  down k (typed o t) fss mss e h = down_part k o (part_of ds t) fss mss e h
  down k (keyed o w t) fss mss e h = absurd (none_is_some h)
  down k (grouped o g) fss mss e h =
      let i = occurring_some o (in_group ds (λ us. step k us) g) mss e in
      record { names = k; own = i.0; so = mss; has = by_step k fss ∙ (subst (λ us. in_each ds (λ vs. step k vs) us ≡ Some (i.0)) (same_some h) (sym (group_each (λ us. step k us) g) ∙ i.1)); occur = i.2; no_more = omega arith; fewer = λ p j. absurd (none_is_some j) }

  record Found (k : ℕ) (e : Entry) : Type 0 where
    names : ℕ
    so : Alternatives
    has : in_entry ds (λ us. step names us) e ≡ Some so
    no_more : names ≤ k

  found : {e : Entry} {ess : List Entries} → IsSplicedInto ds e ess → (k : ℕ) (mss : Alternatives) → alternatives_in ds k ess ≡ Some mss → Found k e
  found {e = e} (its_own {ess = ess} c) k mss h =
      let i = each_has (λ us. step k us) ess mss (sym (by_step k ess) ∙ h) e c in
      record { names = k; so = i.0; has = i.1; no_more = omega arith }
  found (further {ess = ess} {fss = fss} {d = d} c g s) k mss h =
      let i = each_has (λ us. step k us) ess mss (sym (by_step k ess) ∙ h) d c in
      let j = down k d fss i.0 i.1 g in
      let f = found s j.names j.own j.has in
      record { names = f.names; so = f.so; has = f.has; no_more = omega (arith, f.no_more, j.no_more) }

  -- One reference has one group.

  abbrev opened_group : Option Opened → Option (List Entries)
  opened_group (Some (opens_group g)) = Some (alternatives g)
  opened_group (Some (opens_type t)) = None
  opened_group None = None

  abbrev group_at : Point → Option (List Entries)
  group_at (at_name r) = Some (group_choices ds r)
  group_at (at_unwrapping r) = opened_group (opened ds r)
  group_at (at_choice r) = None
  group_at (at_chosen_name r) = None
  group_at (at_opened_choice r) = None

  of_stripped : (t : Term) (p : Point) → point_of_part ds (stripped_part ds t) ≡ Some p → group_of_part ds (stripped_part ds t) ≡ group_at p
  of_stripped (named r) p e = by (is_group ds (name_of r)) e
    where
      by : (b : Bool) → point_of_part ds (if b then names_group r else asks_type) ≡ Some p → group_of_part ds (if b then names_group r else asks_type) ≡ group_at p
      by true h = ap group_at (same_some h)
      by false h = absurd (none_is_some h)
  of_stripped (unwrapped r) p e = by (opened ds r) refl e
    where
      by : (o : Option Opened) → opened ds r ≡ o → point_of_part ds (opened_part r o) ≡ Some p → group_of_part ds (opened_part r o) ≡ group_at p
      by (Some (opens_group g)) i h = sym (ap opened_group i) ∙ ap group_at (same_some h)
      by (Some (opens_type t)) i h = absurd (none_is_some h)
      by None i h = absurd (none_is_some h)
  of_stripped _ p e = absurd (none_is_some e)

  of_point : (e : Entry) (p : Point) → point_in ds e ≡ Some p → group_in ds e ≡ group_at p
  of_point (typed o t) p h = of_stripped (stripped t) p h
  of_point (keyed o k t) p h = absurd (none_is_some h)
  of_point (grouped o g) p h = absurd (none_is_some h)

  same_group : (d e : Entry) (p : Point) (ess : List Entries) → point_in ds d ≡ Some p → group_in ds d ≡ Some ess → point_in ds e ≡ Some p → group_in ds e ≡ Some ess
  same_group d e p ess h i j = of_point e p j ∙ (sym (of_point d p h) ∙ i)

  -- The laws.

  lacks_none : (k : ℕ) (e : Entry) (mss : Alternatives) → in_entry ds (λ us. step k us) e ≡ Some mss → LacksKey ds e → ⊥
  lacks_none k e mss h (asks {o = o} i) = none_is_some (subst (λ p. occurring_so o (in_part ds (λ us. step k us) p) ≡ Some mss) i h)

  pub has_keys : (g : Group) (mss : Alternatives) → map_alternatives ds g ≡ Some mss → (e : Entry) → IsSplicedInto ds e (alternatives g) → LacksKey ds e → ⊥
  has_keys g mss h e s l = let f = found s most_instances mss h in lacks_none f.names e f.so f.has l

  pub occurs_well : (g : Group) (mss : Alternatives) → map_alternatives ds g ≡ Some mss → (e : Entry) → IsSplicedInto ds e (alternatives g) → OccursBadly ds e → ⊥
  occurs_well g mss h e s b = by b
    where
      f : Found most_instances e
      f = found s most_instances mss h

      by : OccursBadly ds e → ⊥
      by (never {fss = fss} i n) = let j = down f.names e fss f.so f.has i in never_none (least_of (occurrence_of e)) (most_of (occurrence_of e)) j.own j.so j.occur n
      by (with_these {fss = fss} {mss = nss} i a n) =
          let j = down f.names e fss f.so f.has i in
          let same : Some (j.own) ≡ Some nss = sym (more_names j.names most_instances (omega (arith, j.no_more, f.no_more)) fss j.own j.has) ∙ a in
          some_is_none (sym j.occur ∙ (ap (λ us. occurs (occurrence_of e) us) (same_some same) ∙ n))

  -- a round on a way that comes back is through fewer names
  record Fewer (k : ℕ) (ess : List Entries) : Type 0 where
    names : ℕ
    own : Alternatives
    has : alternatives_in ds names ess ≡ Some own
    less : names < k

  fewer_round : (k : ℕ) (p : Point) (d e : Entry) (ess : List Entries) (mss : Alternatives) → point_in ds d ≡ Some p → group_in ds d ≡ Some ess → alternatives_in ds k ess ≡ Some mss → IsSplicedInto ds e ess → IsLedToBy ds p e → Fewer k ess
  fewer_round k p d e ess mss point group has inside back = by back
    where
      f : Found k e
      f = found inside k mss has

      again : (c : Entry) → Found k c → point_in ds c ≡ Some p → Fewer k ess
      again c w i =
          let j = down w.names c ess w.so w.has (same_group d c p ess point group i) in
          let l = j.fewer p i in
          record { names = j.names; own = j.own; has = j.has; less = omega (arith, l, w.no_more) }

      by : IsLedToBy ds p e → Fewer k ess
      by (by_itself i) = again e f i
      by (by_group {d = c} {fss = fss} i s q) =
          let j = down f.names e fss f.so f.has i in
          let w = found s j.names j.own j.has in
          again c (record { names = w.names; so = w.so; has = w.has; no_more = omega (arith, w.no_more, j.no_more, f.no_more) }) q

  no_round : (n k : ℕ) (p : Point) (d e : Entry) (ess : List Entries) (mss : Alternatives) → k ≤ n → point_in ds d ≡ Some p → group_in ds d ≡ Some ess → alternatives_in ds k ess ≡ Some mss → IsSplicedInto ds e ess → IsLedToBy ds p e → ⊥
  no_round zero k p d e ess mss h point group has inside back = let w = fewer_round k p d e ess mss point group has inside back in omega (arith, h, w.less)
  no_round (suc n) k p d e ess mss h point group has inside back = let w = fewer_round k p d e ess mss point group has inside back in no_round n w.names p d e ess w.own (omega (arith, h, w.less)) point group w.has inside back

  pub comes_back_nowhere : (g : Group) (mss : Alternatives) → map_alternatives ds g ≡ Some mss → (e : Entry) → ComesBack ds (alternatives g) e → ⊥
  comes_back_nowhere g mss h e b =
      let f = found b.spliced most_instances mss h in
      let j = down f.names b.entry b.group f.so f.has b.has in
      no_round j.names j.names b.reference b.entry e b.group j.own (omega arith) b.named b.has j.has b.inside b.back
