-- Entries of maps that are known: all references in them are instances, and each written value in them is taken for what it
-- stands for.
use Rattle.std.proofs.Common.{◌≡◌, ℕ, zero, suc, Bool, true, false, if◌then◌else◌, List, [], ◌∷◌, ◌++◌, map, Option, Some, None, refl, subst}
use Rattle.std.specs.List.{list_all}
use Rattle.lists.proofs.Lemmas.{same_some as some_same}
use Rattle.cddl_meaning.specs.Forms.{Most, at_most, any_number_of}
use Rattle.cddl_language.specs.Kinds as K
use Rattle.cddl_language.specs.Maps.{Alternatives, Member, alternatives_in, combined, each_needed, from, in_each, in_entries, in_entry, in_group, in_part, is_needed, alternatives_of_both, may_repeat, members, occurring, occurring_so, ways}
use Rattle.cddl_language.specs.Numbers.{least_of, most_of}
use Rattle.cddl_language.specs.Reach.{points, key_points, group_points, entries_points, entry_points}
use Rattle.cddl_language.specs.Substitution.{group_choices}
use Rattle.cddl_language.specs.Terms.{Text, Term, Ref, Group, sole, orelse, Entries, no_entries, entries, Entry, typed, keyed, grouped, alternatives}
use Rattle.table_making.specs.Basis.{Sense}
use Rattle.table_making.specs.Origins.{AreKnown, AreKnownAlternatives, AreKnownEntries, AreKnownMembers, IsKnown, IsKnownEntry, IsKnownGroup}
use Rattle.table_making.proofs.Knowing.{first_known, rest_known}
use Rattle.table_making.proofs.Reaching.{reached_left, reached_right}

module _ (s : Sense) where
  members_joined : (ms ns : List Member) → AreKnownMembers s ms → AreKnownMembers s ns → AreKnownMembers s (ms ++ ns)
  members_joined [] ns f g = g
  members_joined (m ∷ ms) ns f g = (f.0, members_joined ms ns f.1 g)

  all_joined : (mss nss : Alternatives) → AreKnownAlternatives s mss → AreKnownAlternatives s nss → AreKnownAlternatives s (mss ++ nss)
  all_joined [] nss f g = g
  all_joined (ms ∷ mss) nss f g = (f.0, all_joined mss nss f.1 g)

  behind_known : (ms : List Member) (nss : Alternatives) → AreKnownMembers s ms → AreKnownAlternatives s nss → AreKnownAlternatives s (map (λ (ns : List Member). ms ++ ns) nss)
  behind_known ms [] f g = tt
  behind_known ms (ns ∷ nss) f g = (members_joined ms ns f g.0, behind_known ms nss f g.1)

  ways_known : (mss nss : Alternatives) → AreKnownAlternatives s mss → AreKnownAlternatives s nss → AreKnownAlternatives s (ways mss nss)
  ways_known [] nss f g = tt
  ways_known (ms ∷ mss) nss f g = all_joined (map (λ (ns : List Member). ms ++ ns) nss) (ways mss nss) (behind_known ms nss f.0 g) (ways_known mss nss f.1 g)

  all_members_known : (mss : Alternatives) → AreKnownAlternatives s mss → AreKnownMembers s (members mss)
  all_members_known [] f = tt
  all_members_known (ms ∷ mss) f = members_joined ms (members mss) f.0 (all_members_known mss f.1)

  from_known : (n : ℕ) (ms : List Member) → AreKnownMembers s ms → AreKnownMembers s (map (from n) ms)
  from_known n [] f = tt
  from_known n (m ∷ ms) f = (f.0, from_known n ms f.1)

  each_known : (before ms : List Member) → AreKnownMembers s before → AreKnownMembers s ms → AreKnownAlternatives s (each_needed before ms)
  each_known before [] f g = tt
  each_known before (m ∷ ms) f g = (members_joined before (from 1 m ∷ map (from 0) ms) f (g.0, from_known 0 ms g.1), each_known (before ++ from 0 m ∷ []) ms (members_joined before (from 0 m ∷ []) f (g.0, tt)) g.1)

  -- a group that occurs so
  occurring_known : (least : ℕ) (most : Most) (mss nss : Alternatives) → AreKnownAlternatives s mss → occurring least most mss ≡ Some nss → AreKnownAlternatives s nss
  occurring_known zero (at_most zero) mss nss f e = cc
  occurring_known zero (at_most (suc zero)) mss nss f e = subst (AreKnownAlternatives s) (some_same e) (all_joined mss ([] ∷ []) f (tt, tt))
  occurring_known zero (at_most (suc (suc n))) mss nss f e = cc
  occurring_known zero any_number_of mss nss f e = by (list_all may_repeat mss) e
    where
      by : (b : Bool) → (if b then Some (map (from 0) (members mss) ∷ []) else None) ≡ Some nss → AreKnownAlternatives s nss
      by true e = subst (AreKnownAlternatives s) (some_same e) (from_known 0 (members mss) (all_members_known mss f), tt)
      by false e = cc
  occurring_known (suc zero) (at_most zero) mss nss f e = cc
  occurring_known (suc zero) (at_most (suc zero)) mss nss f e = subst (AreKnownAlternatives s) (some_same e) f
  occurring_known (suc zero) (at_most (suc (suc n))) mss nss f e = cc
  occurring_known (suc zero) any_number_of mss nss f e = by (list_all is_needed mss) e
    where
      by : (b : Bool) → (if b then Some (each_needed [] (members mss)) else None) ≡ Some nss → AreKnownAlternatives s nss
      by true e = subst (AreKnownAlternatives s) (some_same e) (each_known [] (members mss) tt (all_members_known mss f))
      by false e = cc
  occurring_known (suc (suc m)) (at_most zero) mss nss f e = cc
  occurring_known (suc (suc m)) (at_most (suc zero)) mss nss f e = cc
  occurring_known (suc (suc m)) (at_most (suc (suc n))) mss nss f e = cc
  occurring_known (suc (suc m)) any_number_of mss nss f e = cc

  -- Of what is refused nothing is asked.

  abbrev KnownIn : Option Alternatives → Type 0
  KnownIn o = (mss : Alternatives) → o ≡ Some mss → AreKnownAlternatives s mss

  none_known : KnownIn None
  none_known mss e = cc

  so_known : (o : Option Text) (p : Option Alternatives) → KnownIn p → KnownIn (occurring_so o p)
  so_known o None f mss e = cc
  so_known o (Some nss) f mss e = occurring_known (least_of o) (most_of o) nss mss (f nss refl) e

  joined_known : (o p : Option Alternatives) → KnownIn o → KnownIn p → KnownIn (alternatives_of_both o p)
  joined_known None p f g mss e = cc
  joined_known (Some ms) None f g mss e = cc
  joined_known (Some ms) (Some ns) f g mss e = subst (AreKnownAlternatives s) (some_same e) (all_joined ms ns (f ms refl) (g ns refl))

  combined_known : (o p : Option Alternatives) → KnownIn o → KnownIn p → KnownIn (combined o p)
  combined_known None p f g mss e = cc
  combined_known (Some ms) None f g mss e = cc
  combined_known (Some ms) (Some ns) f g mss e = subst (AreKnownAlternatives s) (some_same e) (ways_known ms ns (f ms refl) (g ns refl))

  -- what is named or opened is known
  module _ (named : (x : Term) (r : Ref) → IsKnown s x → K.part_of s.definitions x ≡ K.names_group r → AreKnown s (group_choices s.definitions r)) (opened : (x : Term) (r : Ref) (g : Group) → IsKnown s x → K.part_of s.definitions x ≡ K.opens r g → AreKnown s (alternatives g)) where
    module _ (next : List Entries → Option Alternatives) (further : (ess : List Entries) → AreKnown s ess → KnownIn (next ess)) where
      part_known : (x : Term) → IsKnown s x → (p : K.Part) → K.part_of s.definitions x ≡ p → KnownIn (in_part s.definitions next p)
      part_known x f K.asks_type e = none_known
      part_known x f (K.names_group r) e = further (group_choices s.definitions r) (named x r f e)
      part_known x f (K.opens r g) e = further (alternatives g) (opened x r g f e)

      mutual
        spliced_group : (g : Group) → IsKnownGroup s g → KnownIn (in_group s.definitions next g)
        spliced_group (sole es) f = spliced_entries es f
        spliced_group (orelse g es) f = joined_known (in_group s.definitions next g) (in_entries s.definitions next es) (spliced_group g (reached_left s (group_points g) (entries_points es) f.0, f.1.0)) (spliced_entries es (reached_right s (group_points g) (entries_points es) f.0, f.1.1))

        spliced_entries : (es : Entries) → AreKnownEntries s es → KnownIn (in_entries s.definitions next es)
        spliced_entries no_entries f = λ mss e. subst (AreKnownAlternatives s) (some_same e) (tt, tt)
        spliced_entries (entries es e c) f = combined_known (in_entries s.definitions next es) (in_entry s.definitions next e) (spliced_entries es (reached_left s (entries_points es) (entry_points e) f.0, f.1.0)) (spliced_entry e (reached_right s (entries_points es) (entry_points e) f.0, f.1.1))

        spliced_entry : (e : Entry) → IsKnownEntry s e → KnownIn (in_entry s.definitions next e)
        spliced_entry (typed o x) f = so_known o (in_part s.definitions next (K.part_of s.definitions x)) (part_known x f (K.part_of s.definitions x) refl)
        spliced_entry (keyed o k x) f = λ mss e. subst (AreKnownAlternatives s) (some_same e) ((((reached_left s (key_points k) (points x) f.0, f.1.0), (reached_right s (key_points k) (points x) f.0, f.1.1)), tt), tt)
        spliced_entry (grouped o g) f = so_known o (in_group s.definitions next g) (spliced_group g f)

      spliced_each : (ess : List Entries) → AreKnown s ess → KnownIn (in_each s.definitions next ess)
      spliced_each [] f = λ mss e. subst (AreKnownAlternatives s) (some_same e) tt
      spliced_each (es ∷ ess) f = joined_known (in_entries s.definitions next es) (in_each s.definitions next ess) (spliced_entries es (first_known s es ess f)) (spliced_each ess (rest_known s es ess f))

    pub spliced_known : (k : ℕ) (ess : List Entries) → AreKnown s ess → (mss : Alternatives) → alternatives_in s.definitions k ess ≡ Some mss → AreKnownAlternatives s mss
    spliced_known zero ess f = spliced_each (λ us. None) (λ us h. none_known) ess f
    spliced_known (suc k) ess f = spliced_each (λ us. alternatives_in s.definitions k us) (λ us h. spliced_known k us h) ess f
