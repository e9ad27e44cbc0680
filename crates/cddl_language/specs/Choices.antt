-- The types from which `&` chooses (RFC 8610 section 2.2.2.2).
use Rattle.std.specs.Prelude.{ℕ, zero, suc, Bool, if◌then◌else◌, List, [], ◌∷◌, ◌++◌, Option, Some, None, is_some}
use Rattle.cddl_language.specs.Numbers.{occurs_once}
use Rattle.cddl_language.specs.Terms.{Term, Ref, Group, sole, orelse, Entries, no_entries, entries, Entry, typed, keyed, grouped, Definition, alternatives}
use Rattle.cddl_language.specs.Substitution.{group_choices}
use Rattle.cddl_language.specs.Kinds.{Part, asks_type, names_group, opens, part_of}
use Rattle.cddl_language.specs.Reach.{most_instances}

abbrev pub types_of_both : Option (List Term) → Option (List Term) → Option (List Term)
types_of_both (Some ts) (Some us) = Some (ts ++ us)
types_of_both _ _ = None

-- They are those of the group's entries in order, through `//` and nested groups; none where an entry occurs other than
-- once, or where a group comes back to itself (RFC 8610 leaves this open).
module _ (ds : List Definition) where
  -- (`next`: the types of a group that has a name, by its alternatives.)
  module _ (next : List Entries → Option (List Term)) where
    abbrev pub chosen_part : Term → Part → Option (List Term)
    chosen_part t asks_type = Some (t ∷ [])
    chosen_part t (names_group r) = next (group_choices ds r)
    chosen_part t (opens r g) = next (alternatives g)

    abbrev mutual
      pub chosen_group : Group → Option (List Term)
      chosen_group (sole es) = chosen_entries es
      chosen_group (orelse g es) = types_of_both (chosen_group g) (chosen_entries es)

      pub chosen_entries : Entries → Option (List Term)
      chosen_entries no_entries = Some []
      chosen_entries (entries es e c) = types_of_both (chosen_entries es) (chosen_entry e)

      pub chosen_entry : Entry → Option (List Term)
      chosen_entry (typed o t) = if occurs_once o then chosen_part t (part_of ds t) else None
      chosen_entry (keyed o k t) = if occurs_once o then Some (t ∷ []) else None
      chosen_entry (grouped o g) = if occurs_once o then chosen_group g else None

    abbrev pub chosen_each : List Entries → Option (List Term)
    chosen_each [] = Some []
    chosen_each (es ∷ ess) = types_of_both (chosen_entries es) (chosen_each ess)

  -- through so many names at most
  abbrev pub chosen_in : ℕ → List Entries → Option (List Term)
  chosen_in zero ess = chosen_each (λ us. None) ess
  chosen_in (suc k) ess = chosen_each (λ us. chosen_in k us) ess

  -- Of a closed group, and of the group that a closed reference names. A way through more names than there may be
  -- instances comes back to one.
  abbrev pub chosen : Group → Option (List Term)
  chosen g = chosen_in most_instances (alternatives g)

  abbrev pub chosen_by_name : Ref → Option (List Term)
  chosen_by_name r = chosen_in most_instances (group_choices ds r)

  -- whether there is anything to choose from in these alternatives
  abbrev pub can_choose : List Entries → Bool
  can_choose ess = is_some (chosen_in most_instances ess)
