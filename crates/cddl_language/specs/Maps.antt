-- The alternatives that the group of a map stands for (RFC 8610 section 3.5): each is a list of entries with keys.
use Rattle.std.specs.Prelude.{ℕ, zero, suc, nat_eq, nat_le, Bool, true, false, if◌then◌else◌, ◌&&◌, ◌||◌, List, [], ◌∷◌, ◌++◌, map, flat_map, Option, Some, None}
use Rattle.std.specs.List.{list_all}
use Rattle.cddl_meaning.specs.Forms.{Most, at_most, any_number_of}
use Rattle.cddl_language.specs.Numbers.{least_of, most_of}
use Rattle.cddl_language.specs.Terms.{Text, Term, Group, sole, orelse, Entries, no_entries, entries, Entry, typed, keyed, grouped, Key, of_type, bareword, of_value, Definition, alternatives}
use Rattle.cddl_language.specs.Substitution.{group_choices}
use Rattle.cddl_language.specs.Kinds.{Part, asks_type, names_group, opens, part_of}
use Rattle.cddl_language.specs.Reach.{most_instances}

-- an entry of an alternative: how many pairs may belong to it, their key, and the type of their values
pub record Member : Type 0 where
  pub least : ℕ
  pub most : Most
  pub key : Key
  pub value : Term

-- whether a pair with this key belongs to no later entry, whatever its value (section 3.5.4)
abbrev pub cuts : Key → Bool
cuts (of_type t c) = c
cuts (bareword n) = true
cuts (of_value v) = true

abbrev pub Alternatives : Type 0
Alternatives = List (List Member)

-- all members of the alternatives, in order
abbrev pub members : Alternatives → List Member
members mss = flat_map (λ ms. ms) mss

-- all ways to take one of the first and one of the second, the first slowest
abbrev pub ways : Alternatives → Alternatives → Alternatives
ways mss nss = flat_map (λ ms. map (λ ns. ms ++ ns) nss) mss

-- Groups with an occurrence (section 3.2). RFC 8610 leaves open what one means of a whole group in a map; it is taken where
-- it can be said of the group's entries.

abbrev pub is_optional : Member → Bool
is_optional m = nat_eq m.least 0

-- its maximum is at least 1
abbrev pub is_open : Most → Bool
is_open (at_most n) = nat_le 1 n
is_open any_number_of = true

-- one member, of minimum at most 1; or of minimum 1
abbrev pub is_single : List Member → Bool
is_single (m ∷ []) = nat_le m.least 1
is_single _ = false

abbrev pub is_needed : List Member → Bool
is_needed (m ∷ []) = nat_eq m.least 1
is_needed _ = false

-- one member of minimum at most 1, or only members of minimum 0; and every maximum is at least 1
abbrev pub may_repeat : List Member → Bool
may_repeat ms = (is_single ms || list_all is_optional ms) && list_all (λ (m : Member). is_open m.most) ms

-- the member so often at least, without an end
abbrev pub from : ℕ → Member → Member
from n m = record { least = n; most = any_number_of; key = m.key; value = m.value }

-- for each of these members one alternative of them all, in which it is needed and the others are not
abbrev pub each_needed : (before : List Member) → List Member → Alternatives
each_needed before [] = []
each_needed before (m ∷ ms) = (before ++ from 1 m ∷ map (from 0) ms) ∷ each_needed (before ++ from 0 m ∷ []) ms

-- What a group with these alternatives has, where it occurs so: exactly once, `?`, `*`, `+`; it may not occur otherwise.
abbrev pub occurring : ℕ → Most → Alternatives → Option Alternatives
occurring (suc zero) (at_most (suc zero)) mss = Some mss
occurring zero (at_most (suc zero)) mss = Some (mss ++ [] ∷ [])
occurring zero any_number_of mss = if list_all may_repeat mss then Some (map (from 0) (members mss) ∷ []) else None
occurring (suc zero) any_number_of mss = if list_all is_needed mss then Some (each_needed [] (members mss)) else None
occurring _ _ mss = None

abbrev pub occurs : Option Text → Alternatives → Option Alternatives
occurs o mss = occurring (least_of o) (most_of o) mss

-- Where something is refused, all is.

abbrev pub alternatives_of_both : Option Alternatives → Option Alternatives → Option Alternatives
alternatives_of_both (Some mss) (Some nss) = Some (mss ++ nss)
alternatives_of_both _ _ = None

abbrev pub combined : Option Alternatives → Option Alternatives → Option Alternatives
combined (Some mss) (Some nss) = Some (ways mss nss)
combined _ _ = None

abbrev pub occurring_so : Option Text → Option Alternatives → Option Alternatives
occurring_so o (Some mss) = occurs o mss
occurring_so o None = None

-- None where an entry has neither a key nor a group, where a group has an occurrence that it may not have, and where a group
-- comes back to itself.
module _ (ds : List Definition) where
  -- (`next`: what a group has that has a name, by its choices.)
  module _ (next : List Entries → Option Alternatives) where
    abbrev pub in_part : Part → Option Alternatives
    in_part asks_type = None
    in_part (names_group r) = next (group_choices ds r)
    in_part (opens r g) = next (alternatives g)

    abbrev mutual
      pub in_group : Group → Option Alternatives
      in_group (sole es) = in_entries es
      in_group (orelse g es) = alternatives_of_both (in_group g) (in_entries es)

      pub in_entries : Entries → Option Alternatives
      in_entries no_entries = Some ([] ∷ [])
      in_entries (entries es e c) = combined (in_entries es) (in_entry e)

      pub in_entry : Entry → Option Alternatives
      in_entry (typed o t) = occurring_so o (in_part (part_of ds t))
      in_entry (keyed o k t) = Some ((record { least = least_of o; most = most_of o; key = k; value = t } ∷ []) ∷ [])
      in_entry (grouped o g) = occurring_so o (in_group g)

    abbrev pub in_each : List Entries → Option Alternatives
    in_each [] = Some []
    in_each (es ∷ ess) = alternatives_of_both (in_entries es) (in_each ess)

  -- through so many names at most
  abbrev pub alternatives_in : ℕ → List Entries → Option Alternatives
  alternatives_in zero ess = in_each (λ us. None) ess
  alternatives_in (suc k) ess = in_each (λ us. alternatives_in k us) ess

  -- Of the choices of a closed group, and of such a group. A way through more names than there may be instances comes back
  -- to one.
  abbrev pub alternatives_of : List Entries → Option Alternatives
  alternatives_of ess = alternatives_in most_instances ess

  abbrev pub map_alternatives : Group → Option Alternatives
  map_alternatives g = alternatives_of (alternatives g)
