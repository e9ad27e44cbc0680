-- Options of alternatives.
use Rattle.std.proofs.Common.{◌≡◌, true, false, List, [], ◌∷◌, ◌++◌, map, Option, Some, None, is_some, refl, sym, ap, ◌∙◌}
use Rattle.std.proofs.lemmas.List.{append-nil, append_assoc}
use Rattle.lists.proofs.Lemmas.{no_some, same_some}
use Rattle.cddl_language.specs.Terms.{Text, Group, sole, orelse, Entries, Entry, Definition, alternatives, lone}
use Rattle.cddl_language.specs.Maps.{Alternatives, Member, ways, alternatives_of_both, combined, occurs, occurring_so, in_group, in_entries, in_entry, in_each}

pub both_joined : (o q : Option Alternatives) (mss : Alternatives) → alternatives_of_both o q ≡ Some mss → (ms : Alternatives) × (ns : Alternatives) × (o ≡ Some ms) × (q ≡ Some ns) × (ms ++ ns ≡ mss)
both_joined (Some ms) (Some ns) mss e = (ms, ns, refl, refl, same_some e)
both_joined (Some ms) None mss e = absurd (no_some e)
both_joined None q mss e = absurd (no_some e)

pub both_combined : (o q : Option Alternatives) (mss : Alternatives) → combined o q ≡ Some mss → (ms : Alternatives) × (ns : Alternatives) × (o ≡ Some ms) × (q ≡ Some ns) × (ways ms ns ≡ mss)
both_combined (Some ms) (Some ns) mss e = (ms, ns, refl, refl, same_some e)
both_combined (Some ms) None mss e = absurd (no_some e)
both_combined None q mss e = absurd (no_some e)

pub occurring_some : (o : Option Text) (q : Option Alternatives) (mss : Alternatives) → occurring_so o q ≡ Some mss → (nss : Alternatives) × (q ≡ Some nss) × (occurs o nss ≡ Some mss)
occurring_some o (Some nss) mss e = (nss, refl, e)
occurring_some o None mss e = absurd (no_some e)

-- what the one option has, the other has too
abbrev pub Follows : Option Alternatives → Option Alternatives → Type 0
Follows o q = (mss : Alternatives) → o ≡ Some mss → q ≡ Some mss

pub joined_follows : (o q p s : Option Alternatives) → Follows o p → Follows q s → Follows (alternatives_of_both o q) (alternatives_of_both p s)
joined_follows (Some ms) (Some ns) p s h k mss e = ap (λ x. alternatives_of_both x s) (h ms refl) ∙ (ap (λ y. alternatives_of_both (Some ms) y) (k ns refl) ∙ e)
joined_follows (Some ms) None p s h k mss e = absurd (no_some e)
joined_follows None q p s h k mss e = absurd (no_some e)

pub combined_follows : (o q p s : Option Alternatives) → Follows o p → Follows q s → Follows (combined o q) (combined p s)
combined_follows (Some ms) (Some ns) p s h k mss e = ap (λ x. combined x s) (h ms refl) ∙ (ap (λ y. combined (Some ms) y) (k ns refl) ∙ e)
combined_follows (Some ms) None p s h k mss e = absurd (no_some e)
combined_follows None q p s h k mss e = absurd (no_some e)

pub occurring_follows : (o : Option Text) (q p : Option Alternatives) → Follows q p → Follows (occurring_so o q) (occurring_so o p)
occurring_follows o (Some nss) p h mss e = ap (occurring_so o) (h nss refl) ∙ e
occurring_follows o None p h mss e = absurd (no_some e)

-- where the one has something as soon as the other has, and has no other
pub narrowed : (o q : Option Alternatives) → Follows q o → (is_some o ≡ true → is_some q ≡ true) → Follows o q
narrowed o (Some ns) f s mss e = sym (f ns refl) ∙ e
narrowed o None f s mss e = absurd (never (s (ap is_some e)))
  where
    never : false ≡ true → ⊥
    never e = cc

-- A group has what its choices have.

joined_nothing : (o : Option Alternatives) → o ≡ alternatives_of_both o (Some [])
joined_nothing (Some mss) = ap Some (sym (append-nil mss))
joined_nothing None = refl

nothing_joined : (o : Option Alternatives) → alternatives_of_both (Some []) o ≡ o
nothing_joined (Some mss) = refl
nothing_joined None = refl

joined_further : (o q p : Option Alternatives) → alternatives_of_both o (alternatives_of_both q p) ≡ alternatives_of_both (alternatives_of_both o q) p
joined_further (Some a) (Some b) (Some c) = ap Some (sym (append_assoc a b c))
joined_further (Some a) (Some b) None = refl
joined_further (Some a) None p = refl
joined_further None q p = refl

module _ (ds : List Definition) (next : List Entries → Option Alternatives) where
  each_more : (ess : List Entries) (es : Entries) → alternatives_of_both (in_each ds next ess) (in_entries ds next es) ≡ in_each ds next (ess ++ es ∷ [])
  each_more [] es = nothing_joined (in_entries ds next es) ∙ joined_nothing (in_entries ds next es)
  each_more (fs ∷ ess) es = sym (joined_further (in_entries ds next fs) (in_each ds next ess) (in_entries ds next es)) ∙ ap (λ o. alternatives_of_both (in_entries ds next fs) o) (each_more ess es)

  pub group_each : (g : Group) → in_group ds next g ≡ in_each ds next (alternatives g)
  group_each (sole es) = joined_nothing (in_entries ds next es)
  group_each (orelse g es) = ap (λ o. alternatives_of_both o (in_entries ds next es)) (group_each g) ∙ each_more (alternatives g) es

-- An entry by itself has what it has.

same_after : (nss : Alternatives) → map (λ (ns : List Member). [] ++ ns) nss ≡ nss
same_after [] = refl
same_after (ns ∷ nss) = ap (λ mss. ns ∷ mss) (same_after nss)

by_itself : (o : Option Alternatives) → alternatives_of_both (combined (Some ([] ∷ [])) o) (Some []) ≡ o
by_itself (Some nss) = ap Some (append-nil (ways ([] ∷ []) nss) ∙ append-nil (map (λ (ns : List Member). [] ++ ns) nss) ∙ same_after nss)
by_itself None = refl

pub lone_has : (ds : List Definition) (next : List Entries → Option Alternatives) (x : Entry) → in_each ds next (lone x ∷ []) ≡ in_entry ds next x
lone_has ds next x = by_itself (in_entry ds next x)
