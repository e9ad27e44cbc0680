-- What is wrong with the group of a map, and at which byte (RFC 8610 section 3.5): C16 to C18.
use Rattle.std.specs.Prelude.{◌≡◌, ℕ, zero, suc, ◌<◌, ◌⊎◌, false, List, [], ◌∷◌, ◌++◌, flat_map, length, Contains, Option, Some, None}
use Rattle.cddl_token.specs.declared.Token.{Token}
use Rattle.tree_nodes.specs.Syntax.Syntax as S
use Rattle.cddl_language.specs.Terms.{Text, Term, named, Ref, Entries, Entry, typed, keyed, grouped, of_types, Definition, alternatives, entry_list, stripped, occurrence_of, name_of, arguments_of, lone}
use Rattle.cddl_language.specs.Environment.{is_in, definitions_of}
use Rattle.cddl_language.specs.Reading.{first_start, group_of, entry_of, rule_name, name_in, parameters_in, definitions_in}
use Rattle.cddl_language.specs.Substitution.{fill_ref, fill_group, fill_entry, group_choices}
use Rattle.cddl_language.specs.Kinds.{Part, asks_type, names_group, opens, part_of}
use Rattle.cddl_language.specs.Reach.{Point, at_name, at_unwrapping}
use Rattle.cddl_language.specs.Maps.{Alternatives, members, occurs, alternatives_of}
use Rattle.cddl_language.specs.Sites.{a_map, IsReached}

-- Of closed entries.

abbrev pub most_alternatives : ℕ
most_alternatives = 512

abbrev pub most_members : ℕ
most_members = 16384

-- more than may be: limits of this program
abbrev pub AreTooMany : Alternatives → Type 0
AreTooMany mss = (most_alternatives < length mss) ⊎ (most_members < length (members mss))

abbrev pub all_entries : List Entries → List Entry
all_entries ess = flat_map entry_list ess

module _ (ds : List Definition) where
  -- The choices of the group that an entry names, opens or has in parentheses, and the reference by which it does so.

  abbrev pub group_of_part : Part → Option (List Entries)
  group_of_part asks_type = None
  group_of_part (names_group r) = Some (group_choices ds r)
  group_of_part (opens r g) = Some (alternatives g)

  abbrev pub group_in : Entry → Option (List Entries)
  group_in (typed o t) = group_of_part (part_of ds t)
  group_in (keyed o k t) = None
  group_in (grouped o g) = Some (alternatives g)

  abbrev pub point_of_part : Part → Option Point
  point_of_part asks_type = None
  point_of_part (names_group r) = Some (at_name r)
  point_of_part (opens r g) = Some (at_unwrapping r)

  abbrev pub point_in : Entry → Option Point
  point_in (typed o t) = point_of_part (part_of ds t)
  point_in (keyed o k t) = None
  point_in (grouped o g) = None

  -- The entries that are spliced into a group: its own, and those of the group that one of them has.
  pub data IsSplicedInto (e : Entry) : List Entries → Type 0 where
    its_own : {ess : List Entries} → Contains (all_entries ess) e → IsSplicedInto e ess
    further : {ess fss : List Entries} {d : Entry} → Contains (all_entries ess) d → group_in d ≡ Some fss → IsSplicedInto e fss → IsSplicedInto e ess

  -- an entry leads to a reference: by itself, or by an entry that is spliced into its group
  pub data IsLedToBy (p : Point) (e : Entry) : Type 0 where
    by_itself : point_in e ≡ Some p → IsLedToBy p e
    by_group : {d : Entry} {fss : List Entries} → group_in e ≡ Some fss → IsSplicedInto d fss → point_in d ≡ Some p → IsLedToBy p e

  -- an entry without a key that asks a type
  pub data LacksKey : Entry → Type 0 where
    asks : {o : Option Text} {t : Term} → part_of ds t ≡ asks_type → LacksKey (typed o t)

  -- a group that may not occur so often, whatever it has, or with the alternatives that it has
  pub data OccursBadly (e : Entry) : Type 0 where
    never : {fss : List Entries} → group_in e ≡ Some fss → occurs (occurrence_of e) [] ≡ None → OccursBadly e
    with_these : {fss : List Entries} {mss : Alternatives} → group_in e ≡ Some fss → alternatives_of ds fss ≡ Some mss → occurs (occurrence_of e) mss ≡ None → OccursBadly e

  -- an entry in the group of a reference, which is spliced into these choices, leads back to it
  pub record ComesBack (ess : List Entries) (e : Entry) : Type 0 where
    pub reference : Point
    pub entry : Entry
    pub group : List Entries
    pub spliced : IsSplicedInto entry ess
    pub named : point_in entry ≡ Some reference
    pub has : group_in entry ≡ Some group
    pub inside : IsSplicedInto e group
    pub back : IsLedToBy reference e

  -- a way into these choices through so many names, each in the group of the one before
  pub data GoesThrough : ℕ → List Entries → Type 0 where
    nowhere : {ess : List Entries} → GoesThrough zero ess
    onward : {k : ℕ} {e : Entry} {p : Point} {ess fss : List Entries} → IsSplicedInto e ess → point_in e ≡ Some p → group_in e ≡ Some fss → GoesThrough k fss → GoesThrough (suc k) ess

  -- The parts of a group: itself, and of each entry that is spliced into it the entry by itself, and its group.
  pub data IsPartOf (ess : List Entries) : List Entries → Type 0 where
    whole : IsPartOf ess ess
    an_entry : {e : Entry} → IsSplicedInto e ess → IsPartOf ess (lone e ∷ [])
    its_group : {e : Entry} {fss : List Entries} → IsSplicedInto e ess → group_in e ≡ Some fss → IsPartOf ess fss

  pub record HasTooMany (ess : List Entries) : Type 0 where
    pub part : List Entries
    pub is_part : IsPartOf ess part
    pub alternatives : Alternatives
    pub stands_for : alternatives_of ds part ≡ Some alternatives
    pub too_many : AreTooMany alternatives

-- In the text.

abbrev pub choice_entries : S.GrpChoice → List S.GrpEnt
choice_entries S.no_entries = []
choice_entries (S.entries es e c) = choice_entries es ++ e ∷ []

abbrev pub group_entries : S.Group → List S.GrpEnt
group_entries (S.sole es) = choice_entries es
group_entries (S.orelse g s es) = group_entries g ++ choice_entries es

-- the entries of a rule, as a group's; parentheses round a whole body are the group itself
abbrev pub rule_entries : S.Rule → List S.GrpEnt
rule_entries (S.type_rule n a t) = S.typed None t ∷ []
rule_entries (S.group_rule n a (S.grouped None p g c)) = group_entries g
rule_entries (S.group_rule n a e) = e ∷ []

-- the offset of an entry's first token
abbrev pub entry_at : S.GrpEnt → ℕ
entry_at e = first_start (S.flat_entry e)

-- what an entry of the rule r is, where its instance has the arguments xs
abbrev pub closed_entry : S.Rule → List Term → S.GrpEnt → Entry
closed_entry r xs e = fill_entry (parameters_in r) xs (entry_of e)

-- the type is this one, in any number of parentheses
pub data IsBare (x : S.Type2) : S.Types → Type 0 where
  itself : IsBare x (S.only (S.one x))
  in_parens : {o c : Token} {t : S.Types} → IsBare x t → IsBare x (S.only (S.one (S.parens o t c)))

-- the group of a map or an array
abbrev pub group_between : S.Type2 → Option S.Group
group_between (S.map_of o g c) = Some g
group_between (S.array_of o g c) = Some g
group_between _ = None

module _ (rs : List S.Rule) where
  -- Where in the text the group stands that `~` of a closed reference unwraps: in which rule, with which arguments. The way
  -- through names may go through the prelude.
  pub data StandsAt : Ref → S.Rule → List Term → S.Group → Type 0 where
    at_once : {f : Ref} {n : S.RuleName} {a : S.AssignT} {t : S.Types} {x : S.Type2} {g : S.Group} → Contains rs (S.type_rule n a t) → rule_name n ≡ name_of f → IsBare x t → group_between x ≡ Some g → StandsAt f (S.type_rule n a t) (arguments_of f) g
    through : {f h : Ref} {d : Definition} {t : Term} {r : S.Rule} {xs : List Term} {g : S.Group} → definitions_of (definitions_in rs) (name_of f) ≡ d ∷ [] → d.body ≡ of_types t → stripped t ≡ named h → is_in d.parameters (name_of h) ≡ false → StandsAt (fill_ref d.parameters (arguments_of f) h) r xs g → StandsAt f r xs g

  module _ (root : Text) where
    -- An entry in the rule r, where its instance has the arguments xs, is spliced into a map that is reached; with the
    -- reference in whose group it stands, unless that is the map's own.
    pub data IsSpliced : S.Rule → List Term → Option Point → S.GrpEnt → Type 0 where
      of_map : {r : S.Rule} {xs : List Term} {t : Token} {g : S.Group} {e : S.GrpEnt} → IsReached rs root r xs (a_map t g) → Contains (group_entries g) e → IsSpliced r xs None e
      of_parens : {r : S.Rule} {xs : List Term} {q : Option Point} {o : Option Token} {p c : Token} {g : S.Group} {e : S.GrpEnt} → IsSpliced r xs q (S.grouped o p g c) → Contains (group_entries g) e → IsSpliced r xs q e
      of_name : {r s : S.Rule} {xs : List Term} {q : Option Point} {d e : S.GrpEnt} {f : Ref} → IsSpliced r xs q d → point_in (definitions_in rs) (closed_entry r xs d) ≡ Some (at_name f) → Contains rs s → name_in s ≡ name_of f → Contains (rule_entries s) e → IsSpliced s (arguments_of f) (Some (at_name f)) e
      of_opened : {r s : S.Rule} {xs ys : List Term} {q : Option Point} {d e : S.GrpEnt} {f : Ref} {g : S.Group} → IsSpliced r xs q d → point_in (definitions_in rs) (closed_entry r xs d) ≡ Some (at_unwrapping f) → StandsAt f s ys g → Contains (group_entries g) e → IsSpliced s ys (Some (at_unwrapping f)) e

    -- C16: an entry of a map that has no key and is no group.
    pub record HasNoKey (at : ℕ) : Type 0 where
      pub rule : S.Rule
      pub arguments : List Term
      pub owner : Option Point
      pub entry : S.GrpEnt
      pub spliced : IsSpliced rule arguments owner entry
      pub lacks : LacksKey (definitions_in rs) (closed_entry rule arguments entry)
      pub offset : at ≡ entry_at entry

    -- C17: an entry of a map that leads back to the reference in whose group it stands; a group that may not occur so.
    pub data HasMapShape (at : ℕ) : Type 0 where
      comes_back : {r : S.Rule} {xs : List Term} {p : Point} {e : S.GrpEnt} → IsSpliced r xs (Some p) e → IsLedToBy (definitions_in rs) p (closed_entry r xs e) → at ≡ entry_at e → HasMapShape at
      occurs_badly : {r : S.Rule} {xs : List Term} {q : Option Point} {e : S.GrpEnt} → IsSpliced r xs q e → OccursBadly (definitions_in rs) (closed_entry r xs e) → at ≡ entry_at e → HasMapShape at

    -- C18: a map whose group, or a part of it, has more alternatives than may be, or more entries in them.
    pub record HasTooManyAlternatives (at : ℕ) : Type 0 where
      pub rule : S.Rule
      pub arguments : List Term
      pub token : Token
      pub group : S.Group
      pub reached : IsReached rs root rule arguments (a_map token group)
      pub many : HasTooMany (definitions_in rs) (alternatives (fill_group (parameters_in rule) arguments (group_of group)))
      pub offset : at ≡ token.start
