-- What `~` unwraps, and whether a name is a type's or a group's (RFC 8610 sections 2.2.2, 3.7 and 3.9).
use Rattle.std.specs.Prelude.{ℕ, zero, suc, Bool, true, false, if◌then◌else◌, not, ◌&&◌, List, [], ◌∷◌, Option, Some, None}
use Rattle.cddl_language.specs.Terms.{Text, Term, named, map_of, array_of, unwrapped, tagged, tagged_by, Ref, call, Group, Sign, is, type_or, group_or, Body, of_types, of_entry, Definition, term_list, stripped, name_of}
use Rattle.cddl_language.specs.Environment.{is_in, named_so, definitions_of, is_in_prelude, is_socket, is_group_socket, most_names}
use Rattle.cddl_language.specs.Substitution.{fill, fill_ref, fill_group}

-- What `~name` opens: the one choice of the name, through names and parentheses; the group of a map or an array, or the
-- content of a tag. A way through a parameter opens nothing, nor does one that comes back to a name (RFC 8610 leaves both
-- open).

pub data Opened : Type 0 where
  opens_group : Group → Opened
  opens_type : Term → Opened

-- (`next`: what `~` of a name unwraps; ps and xs are the parameters and the arguments of the name whose body this is.)
module _ (next : Ref → Option Opened) (ps : List Text) (xs : List Term) where
  abbrev pub way_through : Ref → Option Opened
  way_through r = if is_in ps (name_of r) then None else next (fill_ref ps xs r)

  abbrev pub opened_term : Term → Option Opened
  opened_term (map_of g) = Some (opens_group (fill_group ps xs g))
  opened_term (array_of g) = Some (opens_group (fill_group ps xs g))
  opened_term (tagged n t) = Some (opens_type (fill ps xs t))
  opened_term (tagged_by h t) = Some (opens_type (fill ps xs t))
  opened_term (named r) = way_through r
  opened_term _ = None

abbrev pub opened_body : (Ref → Option Opened) → List Text → List Term → Body → Option Opened
opened_body next ps xs (of_types t) = opened_term next ps xs (stripped t)
opened_body next ps xs (of_entry e) = None

abbrev pub opened_by : (Ref → Option Opened) → List Term → List Definition → Option Opened
opened_by next xs (d ∷ []) = opened_body next d.parameters xs d.body
opened_by next xs _ = None

-- through so many names at most
abbrev pub opened_in : ℕ → List Definition → Ref → Option Opened
opened_in zero ds r = None
opened_in (suc k) ds (call n ts) = if is_group_socket n then None else opened_by (λ r. opened_in k ds r) (term_list ts) (definitions_of ds n)

abbrev pub opened : List Definition → Ref → Option Opened
opened ds r = opened_in (most_names ds) ds r

-- Whether a name is a group's; else it is a type's. A body that is one name, or `~` and one name, in any number of
-- parentheses has the kind of that name, or of what is opened. A way that comes back to a name makes a type (RFC 8610
-- leaves this open).

abbrev pub is_opened_group : Option Opened → Bool
is_opened_group (Some (opens_group g)) = true
is_opened_group (Some (opens_type t)) = false
is_opened_group None = false

-- Whether a type, out of its parentheses, has the kind of a group. A parameter is a type. (`next`: the kind of a name.)
abbrev pub is_group_type : (Text → Bool) → List Definition → List Text → Term → Bool
is_group_type next ds ps (named r) = not (is_in ps (name_of r)) && next (name_of r)
is_group_type next ds ps (unwrapped r) = not (is_in ps (name_of r)) && is_opened_group (opened ds r)
is_group_type next ds ps _ = false

abbrev pub is_group_body : (Text → Bool) → List Definition → List Text → Body → Bool
is_group_body next ds ps (of_types t) = is_group_type next ds ps (stripped t)
is_group_body next ds ps (of_entry e) = true

-- the kind that a definition gives: `/=` a type's, `//=` a group's, `=` that of its body, and for `$$name` a group's
abbrev pub defines_group : (Text → Bool) → List Definition → Definition → Sign → Bool
defines_group next ds d type_or = false
defines_group next ds d group_or = true
defines_group next ds d is = if is_group_socket d.name then true else is_group_body next ds d.parameters d.body

-- the kind that the first definition gives
abbrev pub first_defines_group : (Text → Bool) → List Definition → List Definition → Bool
first_defines_group next ds [] = false
first_defines_group next ds (d ∷ es) = defines_group next ds d d.sign

-- Through so many names at most. A socket's kind is in its name, and names of the prelude are types.
abbrev pub is_group_in : ℕ → List Definition → Text → Bool
is_group_in zero ds n = false
is_group_in (suc k) ds n = if is_socket n then is_group_socket n else (if is_in_prelude n then false else first_defines_group (λ m. is_group_in k ds m) ds (named_so n ds))

abbrev pub is_group : List Definition → Text → Bool
is_group ds n = is_group_in (most_names ds) ds n

-- the kind that a definition gives
abbrev pub is_group_definition : List Definition → Definition → Bool
is_group_definition ds d = defines_group (λ n. is_group ds n) ds d d.sign

-- An entry without a key asks a type, or is one name or `~` and one name of the kind of a group.
pub data Part : Type 0 where
  asks_type : Part
  names_group : Ref → Part
  opens : Ref → Group → Part

abbrev pub opened_part : Ref → Option Opened → Part
opened_part r (Some (opens_group g)) = opens r g
opened_part r (Some (opens_type t)) = asks_type
opened_part r None = asks_type

abbrev pub stripped_part : List Definition → Term → Part
stripped_part ds (named r) = if is_group ds (name_of r) then names_group r else asks_type
stripped_part ds (unwrapped r) = opened_part r (opened ds r)
stripped_part ds _ = asks_type

-- of a closed type
abbrev pub part_of : List Definition → Term → Part
part_of ds t = stripped_part ds (stripped t)
