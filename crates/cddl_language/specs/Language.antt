-- The language of closed terms: what form of type or group each of them is (RFC 8610 sections 2 and 3). What a type then
-- says of an item is given by `Says` of `cddl_meaning`, over this language.
use Rattle.std.specs.Prelude.{ℕ, ltb, Bool, true, false, if◌then◌else◌, List, [], ◌∷◌, ◌++◌, map, Option, Some, None, option_map}
use Rattle.cbor_data.specs.Value as V
use Rattle.cbor_data.specs.Value.{Value}
use Rattle.cddl_meaning.specs.Forms as F
use Rattle.cddl_meaning.specs.Forms.{Node, Language}
use Rattle.cddl_meaning.specs.Judges.{Answer, Says}
use Rattle.cddl_language.specs.Controls.{Comparison, equal, different, less, at_most, greater, at_least, is_ordering, Control, left_alone, left_and_right, held_item, held_sequence, compared, Membership, of_size, of_bits, member, computed, control_of}
use Rattle.cddl_language.specs.Numbers.{least_of, most_of, occurs_once, tag_number, hash_form, hash_test}
use Rattle.cddl_language.specs.Terms.{Text, Term, literal, named, parens, map_of, array_of, unwrapped, choice_of, choice_of_name, tagged, tagged_by, simple_by, hash, range, control, or, Ref, Entries, Entry, typed, keyed, grouped, Key, of_type, bareword, of_value, Definition, choices, alternatives, entry_list, occurrence_of, name_of}
use Rattle.cddl_language.specs.Substitution.{type_choices, group_choices}
use Rattle.cddl_language.specs.Kinds.{Opened, opens_type, opened, is_group, Part, asks_type, names_group, opens, part_of}
use Rattle.cddl_literal.specs.Numbers.{Meaning}
use Rattle.cddl_language.specs.Literals.{Values, item_of, whole, whole_of, computed_literal, literal_of}
use Rattle.cddl_language.specs.Sizes.{Sizes, members_of}
use Rattle.cddl_language.specs.Choices.{chosen, chosen_by_name}
use Rattle.cddl_language.specs.Maps.{Alternatives, Member, cuts, map_alternatives}

-- the name of a type: a closed term, a closed reference, what `&` chooses from in these alternatives, or the text string that a
-- bareword is as a key
pub data TypeName : Type 0 where
  type : Term → TypeName
  reference : Ref → TypeName
  chosen_of : List Entries → TypeName
  word : Text → TypeName

-- the name of a group: alternatives, one of them, an entry, or one round of it
pub data GroupName : Type 0 where
  first_of : List Entries → GroupName
  each_of : Entries → GroupName
  entry : Entry → GroupName
  round : Entry → GroupName

-- a type that says no to every item (section 3.9: the empty choice)
abbrev pub nothing : Node TypeName GroupName
nothing = F.Choice []

-- These types, where there is something to choose from.
abbrev pub choice : Option (List Term) → List TypeName → Node TypeName GroupName
choice (Some ts) ns = F.Choice ns
choice None ns = nothing

-- what `~` unwraps as a type
abbrev pub content : Option Opened → Node TypeName GroupName
content (Some (opens_type t)) = F.Ref (type t)
content _ = nothing

abbrev pub between : Bool → Option Value → Option Value → Node TypeName GroupName
between closed (Some a) (Some b) = F.Plain (F.between a b closed)
between closed _ _ = nothing

-- Entries of maps (section 3.5). A bareword as a key is the text string of its name (section 3.5.1).

abbrev pub key_name : Key → TypeName
key_name (of_type t c) = type t
key_name (bareword n) = word n
key_name (of_value v) = type (literal v)

abbrev pub map_entry : Member → F.MapEntry TypeName
map_entry m = record { least = m.least; most = m.most; key_type = key_name m.key; cuts = cuts m.key; value_type = type m.value }

-- a map with one of these alternatives, where there are some
abbrev pub map_node : Option Alternatives → Node TypeName GroupName
map_node (Some mss) = F.MapOf (map (map map_entry) mss)
map_node None = nothing

-- what is asked of an item that is compared with a value
abbrev pub compared_test : Comparison → Value → F.Test
compared_test equal v = F.equals v
compared_test different v = F.differs_from v
compared_test less v = F.less_than v
compared_test at_most v = F.at_most_number v
compared_test greater v = F.greater_than v
compared_test at_least v = F.at_least_number v

-- the value with which an item is compared, where the controller has one that can be compared so
abbrev pub comparand : Bool → Option Meaning → Option Value
comparand true m = whole m
comparand false m = option_map item_of m

abbrev pub such_as_compares : Comparison → Option Value → Term → Node TypeName GroupName
such_as_compares c (Some v) a = F.Such (type a) (compared_test c v)
such_as_compares c None a = nothing

-- what is asked of an item, numbers of which have to be such members
abbrev pub membership_test : Membership → Sizes → F.Test
membership_test of_size rs = F.sized rs
membership_test of_bits rs = F.bits_among rs

-- the items to which the type on the left says yes, and of which these numbers are such members
abbrev pub such_as_member : Membership → Option Sizes → Term → Node TypeName GroupName
such_as_member m (Some rs) a = F.Such (type a) (membership_test m rs)
such_as_member m None a = nothing

-- the literal alone
abbrev pub equal_to : Option Meaning → Node TypeName GroupName
equal_to (Some m) = F.Plain (F.equals (item_of m))
equal_to None = nothing

-- What is refused is `nothing` here.
module _ (worth : Values) (ds : List Definition) where
  -- What `&` chooses from: the types of the entries in order, and for a group in them the choice of its own.

  abbrev pub chosen_part_name : Term → Part → TypeName
  chosen_part_name t asks_type = type t
  chosen_part_name t (names_group r) = chosen_of (group_choices ds r)
  chosen_part_name t (opens r g) = chosen_of (alternatives g)

  abbrev pub chosen_name : Entry → TypeName
  chosen_name (typed o t) = chosen_part_name t (part_of ds t)
  chosen_name (keyed o k t) = type t
  chosen_name (grouped o g) = chosen_of (alternatives g)

  abbrev pub chosen_names : List Entries → List TypeName
  chosen_names [] = []
  chosen_names (es ∷ ess) = map chosen_name (entry_list es) ++ chosen_names ess

  -- a control (section 3.8, RFC 9165 section 2)
  abbrev pub control_node : Option Control → Term → Term → Node TypeName GroupName
  control_node (Some left_alone) a b = F.Ref (type a)
  control_node (Some left_and_right) a b = F.Both (type a) (type b)
  control_node (Some held_item) a b = F.Holding (type a) F.one_item (type b)
  control_node (Some held_sequence) a b = F.Holding (type a) F.sequence_of_items (type b)
  control_node (Some (compared c)) a b = such_as_compares c (comparand (is_ordering c) (literal_of worth ds b)) a
  control_node (Some (member m)) a b = such_as_member m (members_of m worth ds b) a
  control_node (Some (computed c)) a b = equal_to (computed_literal c (literal_of worth ds a) (literal_of worth ds b))
  control_node None a b = nothing

  abbrev pub term_node : Term → Node TypeName GroupName
  term_node (literal v) = F.Plain (F.equals (item_of (worth v)))
  term_node (named r) = if is_group ds (name_of r) then nothing else F.Ref (reference r)
  term_node (parens t) = F.Ref (type t)
  term_node (array_of g) = F.ArrayOf (first_of (alternatives g))
  term_node (unwrapped r) = content (opened ds r)
  term_node (choice_of g) = choice (chosen ds g) (chosen_names (alternatives g))
  term_node (choice_of_name r) = choice (chosen_by_name ds r) (chosen_names (group_choices ds r))
  term_node (tagged n t) = F.TagOf (tag_number n) (type t)
  term_node (tagged_by h t) = F.TagOf (F.such_as (type h)) (type t)
  term_node (simple_by h) = F.SimpleBy (type h)
  term_node (hash n) = F.Plain (hash_test (hash_form n))
  term_node (range a c b) = between c (whole_of worth ds a) (whole_of worth ds b)
  term_node (or t u) = F.Choice (map type (choices (or t u)))
  term_node (map_of g) = map_node (map_alternatives ds g)
  term_node (control a n b) = control_node (control_of n) a b

  abbrev pub type_node : TypeName → Node TypeName GroupName
  type_node (type t) = term_node t
  type_node (reference r) = F.Choice (map type (type_choices ds r))
  type_node (chosen_of ess) = F.Choice (chosen_names ess)
  type_node (word n) = F.Plain (F.equals (V.text n))

  -- An entry asks its type of one item, or does what its group does. Keys in arrays are for the reader (section 3.4).
  abbrev pub part_form : Term → Part → F.Group TypeName GroupName
  part_form t asks_type = F.Entry (type t)
  part_form t (names_group r) = F.GroupRef (first_of (group_choices ds r))
  part_form t (opens r g) = F.GroupRef (first_of (alternatives g))

  abbrev pub round_form : Entry → F.Group TypeName GroupName
  round_form (typed o t) = part_form t (part_of ds t)
  round_form (keyed o k t) = F.Entry (type t)
  round_form (grouped o g) = F.GroupRef (first_of (alternatives g))

  -- rounds, where the minimum is not over the maximum
  abbrev pub rounds_form : Entry → ℕ → F.Most → F.Group TypeName GroupName
  rounds_form e least (F.at_most n) = if ltb n least then F.Alternatives [] else F.Repeat least (F.at_most n) (round e)
  rounds_form e least F.any_number_of = F.Repeat least F.any_number_of (round e)

  -- an entry without an occurrence, or once, has no rounds
  abbrev pub entry_form : Entry → Option Text → F.Group TypeName GroupName
  entry_form e o = if occurs_once o then round_form e else rounds_form e (least_of o) (most_of o)

  abbrev pub group_form : GroupName → F.Group TypeName GroupName
  group_form (first_of ess) = F.Alternatives (map each_of ess)
  group_form (each_of es) = F.Sequence (map entry (entry_list es))
  group_form (entry e) = entry_form e (occurrence_of e)
  group_form (round e) = round_form e

  abbrev pub language : Language TypeName GroupName
  language = record { type_at = type_node; group_at = group_form; counting = F.by_forms type_node }

-- the type says this of the item, in however many judgements
abbrev pub Saying : Language TypeName GroupName → Node TypeName GroupName → ℕ → Value → Answer → Type 0
Saying l m p x a = (w : ℕ) × Says l m p x a w

-- the closed type says this of the item
abbrev pub TermSays : Values → List Definition → Term → ℕ → Value → Answer → Type 0
TermSays worth ds t p x a = Saying (language worth ds) (type_node worth ds (type t)) p x a
