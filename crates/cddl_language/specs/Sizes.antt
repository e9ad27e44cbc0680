-- The members of the controllers of `.size` and `.bits`: a literal, a range, or a choice of these, of unsigned numbers, through
-- names and parentheses (RFC 8610 section 3.8.1), and for `.bits` through `&` too (section 3.8.2).
use Rattle.std.specs.Prelude.{ℕ, zero, suc, Bool, true, false, if◌then◌else◌, List, [], ◌∷◌, ◌++◌, Option, Some, None}
use Rattle.cddl_literal.specs.Numbers.{Meaning, UintOf}
use Rattle.cddl_language.specs.Controls.{Membership, of_size, of_bits}
use Rattle.cddl_language.specs.Numbers.{occurs_once}
use Rattle.cddl_language.specs.Terms.{Term, literal, named, parens, choice_of, choice_of_name, range, control, or, Group, sole, orelse, Entries, no_entries, entries, Entry, typed, keyed, grouped, Definition, alternatives, name_of}
use Rattle.cddl_language.specs.Substitution.{group_choices, type_choices}
use Rattle.cddl_language.specs.Kinds.{Part, asks_type, names_group, opens, is_group, part_of}
use Rattle.cddl_language.specs.Reach.{most_instances}
use Rattle.cddl_language.specs.Literals.{Values, literal_of}

-- ranges of numbers, each from its least to its greatest
abbrev pub Sizes : Type 0
Sizes = List (ℕ × ℕ)

abbrev pub one_size : Option Meaning → Option Sizes
one_size (Some (UintOf n)) = Some ((n, n) ∷ [])
one_size _ = None

-- from one number to another, with or without it
abbrev pub sizes_to : Bool → ℕ → ℕ → Sizes
sizes_to true a b = (a, b) ∷ []
sizes_to false a zero = []
sizes_to false a (suc b) = (a, b) ∷ []

abbrev pub range_sizes : Bool → Option Meaning → Option Meaning → Option Sizes
range_sizes c (Some (UintOf a)) (Some (UintOf b)) = Some (sizes_to c a b)
range_sizes c _ _ = None

abbrev pub both_sizes : Option Sizes → Option Sizes → Option Sizes
both_sizes (Some rs) (Some ss) = Some (rs ++ ss)
both_sizes _ _ = None

-- what stands behind a name: a type, or the alternatives of a group
pub data Behind : Type 0 where
  a_type : Term → Behind
  a_group : List Entries → Behind

-- whether there is a way through `&`
abbrev pub opens_choices : Membership → Bool
opens_choices of_size = false
opens_choices of_bits = true

-- (`next`: those of what stands behind a name.)
module _ (next : Behind → Option Sizes) where
  abbrev pub all_sizes : List Term → Option Sizes
  all_sizes [] = Some []
  all_sizes (t ∷ ts) = both_sizes (next (a_type t)) (all_sizes ts)

  -- of a group that is named or opened; without alternatives it has none
  abbrev pub group_sizes : List Entries → Option Sizes
  group_sizes [] = Some []
  group_sizes (es ∷ ess) = next (a_group (es ∷ ess))

module _ (m : Membership) (worth : Values) (ds : List Definition) where
  module _ (next : Behind → Option Sizes) where
    -- of an entry without a key, by those of its type
    abbrev pub part_sizes : Part → Option Sizes → Option Sizes
    part_sizes asks_type o = o
    part_sizes (names_group r) o = group_sizes next (group_choices ds r)
    part_sizes (opens r g) o = group_sizes next (alternatives g)

    abbrev mutual
      pub term_sizes : Term → Option Sizes
      term_sizes (literal v) = one_size (Some (worth v))
      term_sizes (range a c b) = range_sizes c (literal_of worth ds a) (literal_of worth ds b)
      term_sizes (named r) = if is_group ds (name_of r) then None else all_sizes next (type_choices ds r)
      term_sizes (parens t) = term_sizes t
      term_sizes (or t u) = both_sizes (term_sizes t) (term_sizes u)
      term_sizes (control a n b) = one_size (literal_of worth ds (control a n b))
      term_sizes (choice_of g) = if opens_choices m then chosen_sizes g else None
      term_sizes (choice_of_name r) = if opens_choices m then group_sizes next (group_choices ds r) else None
      term_sizes _ = None

      -- of the types from which `&` chooses; an entry has to occur once
      pub chosen_sizes : Group → Option Sizes
      chosen_sizes (sole es) = entries_sizes es
      chosen_sizes (orelse g es) = both_sizes (chosen_sizes g) (entries_sizes es)

      pub entries_sizes : Entries → Option Sizes
      entries_sizes no_entries = Some []
      entries_sizes (entries es e c) = both_sizes (entries_sizes es) (entry_sizes e)

      pub entry_sizes : Entry → Option Sizes
      entry_sizes (typed o t) = if occurs_once o then part_sizes (part_of ds t) (term_sizes t) else None
      entry_sizes (keyed o k t) = if occurs_once o then term_sizes t else None
      entry_sizes (grouped o g) = if occurs_once o then chosen_sizes g else None

    abbrev pub each_sizes : List Entries → Option Sizes
    each_sizes [] = Some []
    each_sizes (es ∷ ess) = both_sizes (entries_sizes es) (each_sizes ess)

    abbrev pub behind_sizes : Behind → Option Sizes
    behind_sizes (a_type t) = term_sizes t
    behind_sizes (a_group ess) = each_sizes ess

  -- through so many names at most
  abbrev pub members_in : ℕ → Behind → Option Sizes
  members_in zero b = behind_sizes (λ c. None) b
  members_in (suc k) b = behind_sizes (λ c. members_in k c) b

  -- Of a closed type. A way through more names than there may be instances comes back to one: what needs itself has none.
  abbrev pub members_of : Term → Option Sizes
  members_of t = members_in most_instances (a_type t)

-- Those of controllers of `.size`.

abbrev pub sizes_in : Values → List Definition → ℕ → Term → Option Sizes
sizes_in worth ds k t = members_in of_size worth ds k (a_type t)

abbrev pub sizes_of : Values → List Definition → Term → Option Sizes
sizes_of worth ds t = members_of of_size worth ds t
