-- What a root leads to: the instances of a specification (RFC 8610 section 3.10).
use Rattle.std.specs.Prelude.{◌≡◌, ℕ, Bool, true, false, List, [], ◌∷◌, ◌++◌, flat_map, Contains}
use Rattle.cddl_language.specs.Terms.{Text, Term, literal, named, parens, map_of, array_of, unwrapped, choice_of, choice_of_name, tagged, tagged_by, simple_by, hash, range, control, or, Ref, call, no_terms, Group, sole, orelse, Entries, no_entries, entries, Entry, typed, keyed, grouped, Key, of_type, bareword, of_value, Body, of_types, of_entry, Definition}
use Rattle.cddl_language.specs.Substitution.{bodies}

-- A name by itself, after `~` and after `&` are three references. Two more points are none: the choice from a group by its name,
-- and from what `~name` opens, where these are entries from which `&` chooses.
pub data Point : Type 0 where
  at_name : Ref → Point
  at_unwrapping : Ref → Point
  at_choice : Ref → Point
  at_chosen_name : Ref → Point
  at_opened_choice : Ref → Point

abbrev pub ref_at : Point → Ref
ref_at (at_name r) = r
ref_at (at_unwrapping r) = r
ref_at (at_choice r) = r
ref_at (at_chosen_name r) = r
ref_at (at_opened_choice r) = r

abbrev pub is_reference : Point → Bool
is_reference (at_name r) = true
is_reference (at_unwrapping r) = true
is_reference (at_choice r) = true
is_reference (at_chosen_name r) = false
is_reference (at_opened_choice r) = false

-- The references that stand in a closed term, those in operands, controllers and keys too. What stands inside an argument
-- counts only where a body has it in the place of a parameter.
abbrev mutual
  pub points : Term → List Point
  points (literal v) = []
  points (named r) = at_name r ∷ []
  points (parens t) = points t
  points (map_of g) = group_points g
  points (array_of g) = group_points g
  points (unwrapped r) = at_unwrapping r ∷ []
  points (choice_of g) = group_points g
  points (choice_of_name r) = at_choice r ∷ []
  points (tagged n t) = points t
  points (tagged_by h t) = points h ++ points t
  points (simple_by h) = points h
  points (hash n) = []
  points (range a c b) = points a ++ points b
  points (control a n b) = points a ++ points b
  points (or t u) = points t ++ points u

  pub group_points : Group → List Point
  group_points (sole es) = entries_points es
  group_points (orelse g es) = group_points g ++ entries_points es

  pub entries_points : Entries → List Point
  entries_points no_entries = []
  entries_points (entries es e c) = entries_points es ++ entry_points e

  pub entry_points : Entry → List Point
  entry_points (typed o t) = points t
  entry_points (keyed o k t) = key_points k ++ points t
  entry_points (grouped o g) = group_points g

  pub key_points : Key → List Point
  key_points (of_type t c) = points t
  key_points (bareword n) = []
  key_points (of_value v) = []

abbrev pub body_points : Body → List Point
body_points (of_types t) = points t
body_points (of_entry e) = entry_points e

-- the references in what a closed reference means
abbrev pub points_in : List Definition → Ref → List Point
points_in ds r = flat_map body_points (bodies ds r)

-- The instances: the least set of closed references that holds the root and, with each, the references in what it means.
pub data Reaches (ds : List Definition) (root : Text) : Ref → Type 0 where
  at_root : Reaches ds root (call root no_terms)
  onward : {r s : Ref} {p : Point} → Reaches ds root r → Contains (points_in ds r) p → s ≡ ref_at p → Reaches ds root s

-- a reference of one of the three sorts that stands in what is reached, or is reached itself
pub data IsPresent (ds : List Definition) (root : Text) : Point → Type 0 where
  instance : {r : Ref} → Reaches ds root r → IsPresent ds root (at_name r)
  standing : {r : Ref} {p : Point} → Reaches ds root r → Contains (points_in ds r) p → IsPresent ds root p

-- how many instances there may be: a limit of this program
abbrev pub most_instances : ℕ
most_instances = 4096
