-- Whether there is something to choose from, of wholes and of their parts.
use Rattle.std.proofs.Common.{◌≡◌, true, List, [], ◌∷◌, ◌++◌, Option, Some, None, is_some, refl}
use Rattle.cddl_language.specs.Terms.{Term, Group, sole, orelse, Entries, Definition, alternatives}
use Rattle.cddl_language.specs.Choices.{chosen_each, chosen_entries, chosen_group, types_of_both}

abbrev pub IsThere : Option (List Term) → Type 0
IsThere o = is_some o ≡ true

pub both_there : (o q : Option (List Term)) → IsThere o → IsThere q → IsThere (types_of_both o q)
both_there (Some ts) (Some us) e f = refl
both_there (Some ts) None e f = cc
both_there None q e f = cc

pub first_there : (o q : Option (List Term)) → IsThere (types_of_both o q) → IsThere o
first_there (Some ts) q e = refl
first_there None q e = cc

pub second_there : (o q : Option (List Term)) → IsThere (types_of_both o q) → IsThere q
second_there o (Some us) e = refl
second_there (Some ts) None e = cc
second_there None None e = cc

module _ (ds : List Definition) (next : List Entries → Option (List Term)) where
  each_after : (ess : List Entries) (es : Entries) → IsThere (chosen_each ds next ess) → IsThere (chosen_entries ds next es) → IsThere (chosen_each ds next (ess ++ es ∷ []))
  each_after [] es e f = both_there (chosen_entries ds next es) (Some []) f refl
  each_after (fs ∷ ess) es e f = both_there (chosen_entries ds next fs) (chosen_each ds next (ess ++ es ∷ [])) (first_there (chosen_entries ds next fs) (chosen_each ds next ess) e) (each_after ess es (second_there (chosen_entries ds next fs) (chosen_each ds next ess) e) f)

  each_before : (ess : List Entries) (es : Entries) → IsThere (chosen_each ds next (ess ++ es ∷ [])) → IsThere (chosen_each ds next ess) × IsThere (chosen_entries ds next es)
  each_before [] es e = (refl, first_there (chosen_entries ds next es) (Some []) e)
  each_before (fs ∷ ess) es e =
      let h = each_before ess es (second_there (chosen_entries ds next fs) (chosen_each ds next (ess ++ es ∷ [])) e) in
      (both_there (chosen_entries ds next fs) (chosen_each ds next ess) (first_there (chosen_entries ds next fs) (chosen_each ds next (ess ++ es ∷ [])) e) h.0, h.1)

  -- A group is its alternatives.

  pub to_each : (g : Group) → IsThere (chosen_group ds next g) → IsThere (chosen_each ds next (alternatives g))
  to_each (sole es) e = both_there (chosen_entries ds next es) (Some []) e refl
  to_each (orelse g es) e = each_after (alternatives g) es (to_each g (first_there (chosen_group ds next g) (chosen_entries ds next es) e)) (second_there (chosen_group ds next g) (chosen_entries ds next es) e)

  pub from_each : (g : Group) → IsThere (chosen_each ds next (alternatives g)) → IsThere (chosen_group ds next g)
  from_each (sole es) e = first_there (chosen_entries ds next es) (Some []) e
  from_each (orelse g es) e = let h = each_before (alternatives g) es e in both_there (chosen_group ds next g) (chosen_entries ds next es) (from_each g h.0) h.1
