-- The types that stand in the text of a rule, the words that are keys there, and the entries of groups (RFC 8610 appendix B).
use Rattle.std.specs.Prelude.{ℕ, suc, ◌+◌, List, [], ◌∷◌, ◌++◌, map, Option, Some, None}
use Rattle.cddl_token.specs.declared.Token.{Token}
use Rattle.cddl_token.specs.declared.Kind.TheVariants.{Name, ParenClose, ParenOpen}
use Rattle.tree_nodes.specs.Syntax.Syntax as S
use Rattle.cddl_language.specs.Language.{TypeName, type, word}
use Rattle.cddl_language.specs.Reading.{term_of, text_of}
use Rattle.cddl_language.specs.Sites.{ref_name}
use Rattle.cddl_language.specs.Terms.{Term, Text}

-- what is round a group: brackets, or a rule of which it is the body
pub data Around : Type 0 where
  brackets : (opening closing : Token) → Around
  the_rule : Around

-- what an entry has after its occurrence and its key: a type, or a group in parentheses
pub data Inner : Type 0 where
  of_types : S.Types → Inner
  of_group : (opening : Token) → S.Group → (closing : Token) → Inner

abbrev pub inner_of : S.GrpEnt → Inner
inner_of (S.typed o t) = of_types t
inner_of (S.keyed o k t) = of_types t
inner_of (S.grouped o p g c) = of_group p g c

-- a type; a bareword that is a key; what an entry has as its key, and the type of the value in an entry that has this key, with what is
-- round the map's group; an entry without a key, with what is round its group; or an entry of a group, with so many alternatives after
-- its own, and so many entries after it there
pub data Piece : Type 0 where
  a_type : S.Types → Piece
  a_word : Token → Piece
  a_key : Around → (key : Piece) → Piece
  a_value : Around → (key : Piece) → S.Types → Piece
  a_member : Around → S.Types → Piece
  an_entry : Around → (alternative place : ℕ) → Inner → Piece

-- an operand by itself, which is a type too
abbrev pub operand : S.Type2 → Piece
operand x = a_type (S.only (S.one x))

-- the key of an entry
abbrev pub key_piece : S.MemberKey → Piece
key_piece (S.type_key r u a) = a_type (S.only r)
key_piece (S.bareword n c) = a_word n
key_piece (S.value_key v c) = operand (S.literal v)

-- The entries of a group, by how many alternatives come after the last of these and how many entries come after the last of those.

abbrev pub entries_of : Around → (alternative place : ℕ) → S.GrpChoice → List Piece
entries_of a k i S.no_entries = []
entries_of a k i (S.entries es e s) = entries_of a k (suc i) es ++ an_entry a k i (inner_of e) ∷ []

abbrev pub entries_in : Around → (alternative : ℕ) → S.Group → List Piece
entries_in a k (S.sole es) = entries_of a k 0 es
entries_in a k (S.orelse g s es) = entries_in a (suc k) g ++ entries_of a k 0 es

-- The entries of a rule as a group, and how many alternatives they make. Parentheses round the whole body are the group itself.

abbrev pub own_entries : S.GrpEnt → List Piece
own_entries (S.typed o t) = an_entry the_rule 0 0 (of_types t) ∷ []
own_entries (S.keyed o k t) = an_entry the_rule 0 0 (of_types t) ∷ []
own_entries (S.grouped (Some o) p g c) = an_entry the_rule 0 0 (of_group p g c) ∷ []
own_entries (S.grouped None p g c) = entries_in the_rule 0 g

abbrev pub count_of : S.Group → ℕ
count_of (S.sole es) = 1
count_of (S.orelse g s es) = suc (count_of g)

abbrev pub own_count : S.GrpEnt → ℕ
own_count (S.typed o t) = 1
own_count (S.keyed o k t) = 1
own_count (S.grouped (Some o) p g c) = 1
own_count (S.grouped None p g c) = count_of g

abbrev pub alternatives_of : S.Rule → ℕ
alternatives_of (S.type_rule n a t) = 1
alternatives_of (S.group_rule n a e) = own_count e

-- Each type with those in it, in the order of the text: a whole choice, its members, their operands, and what these have in them.
-- Parentheses in a group are of that group, so what is round it is round them.
abbrev mutual
  pub in_types : S.Types → List Piece
  in_types (S.only r) = a_type (S.only r) ∷ in_type1 r
  in_types (S.or t s r) = a_type (S.or t s r) ∷ (in_members t ++ in_type1 r)

  pub in_members : S.Types → List Piece
  in_members (S.only r) = in_type1 r
  in_members (S.or t s r) = in_members t ++ in_type1 r

  pub in_type1 : S.Type1 → List Piece
  in_type1 (S.one x) = in_type2 x
  in_type1 (S.operation x o y) = a_type (S.only (S.operation x o y)) ∷ (in_type2 x ++ in_type2 y)

  pub in_type2 : S.Type2 → List Piece
  in_type2 (S.literal v) = operand (S.literal v) ∷ []
  in_type2 (S.typename r) = operand (S.typename r) ∷ in_ref r
  in_type2 (S.parens o t c) = operand (S.parens o t c) ∷ in_types t
  in_type2 (S.map_of o g c) = operand (S.map_of o g c) ∷ in_group (brackets o c) g
  in_type2 (S.array_of o g c) = operand (S.array_of o g c) ∷ (entries_in (brackets o c) 0 g ++ in_group (brackets o c) g)
  in_type2 (S.unwrapped u r) = operand (S.unwrapped u r) ∷ in_ref r
  in_type2 (S.choice_of a o g c) = operand (S.choice_of a o g c) ∷ in_group (brackets o c) g
  in_type2 (S.choice_of_name a r) = operand (S.choice_of_name a r) ∷ in_ref r
  in_type2 (S.tagged o t c) = operand (S.tagged o t c) ∷ in_types t
  in_type2 (S.tagged_by o h a p t c) = operand (S.tagged_by o h a p t c) ∷ (in_types h ++ in_types t)
  in_type2 (S.simple_by o h c) = operand (S.simple_by o h c) ∷ in_types h
  in_type2 (S.hash t) = operand (S.hash t) ∷ []

  pub in_ref : S.Ref → List Piece
  in_ref (S.name t) = []
  in_ref (S.applied o a c) = in_arguments a

  pub in_arguments : S.GenericArg → List Piece
  in_arguments (S.argument r) = in_type1 r
  in_arguments (S.arguments a c r) = in_arguments a ++ in_type1 r

  pub in_group : Around → S.Group → List Piece
  in_group a (S.sole es) = in_entries a es
  in_group a (S.orelse g s es) = in_group a g ++ in_entries a es

  pub in_entries : Around → S.GrpChoice → List Piece
  in_entries a S.no_entries = []
  in_entries a (S.entries es e c) = in_entries a es ++ in_entry a e

  pub in_entry : Around → S.GrpEnt → List Piece
  in_entry a (S.typed o t) = a_member a t ∷ in_types t
  in_entry a (S.keyed o k t) = in_key k ++ (a_key a (key_piece k) ∷ a_value a (key_piece k) t ∷ in_types t)
  in_entry a (S.grouped o p g c) = entries_in (brackets p c) 0 g ++ in_group a g

  pub in_key : S.MemberKey → List Piece
  in_key (S.type_key r u a) = in_type1 r
  in_key (S.bareword n c) = a_word n ∷ []
  in_key (S.value_key v c) = operand (S.literal v) ∷ []

abbrev pub in_rule : S.Rule → List Piece
in_rule (S.type_rule n a t) = an_entry the_rule 0 0 (of_types t) ∷ a_member the_rule t ∷ in_types t
in_rule (S.group_rule n a e) = own_entries e ++ in_entry the_rule e

-- each with the place of its rule, from the place k on
abbrev pub placed : ℕ → List Piece → List (ℕ × Piece)
placed k ps = map (λ p. (k, p)) ps

abbrev pub rule_by_rule : ℕ → List S.Rule → List (ℕ × Piece)
rule_by_rule k [] = []
rule_by_rule k (r ∷ rs) = placed k (in_rule r) ++ rule_by_rule (k + 1) rs

-- The name of a table's type that is of it, by what a term of its rule is in an instance. An entry is no type, a member may be a group,
-- and what an entry has as its key is a type or a word in a place of its own.
abbrev pub name_of_piece : (closed : Term → Term) → Piece → Option TypeName
name_of_piece closed (a_type x) = Some (type (closed (term_of x)))
name_of_piece closed (a_word t) = Some (word (text_of t))
name_of_piece closed (a_key a k) = None
name_of_piece closed (a_value a k x) = Some (type (closed (term_of x)))
name_of_piece closed (a_member a x) = None
name_of_piece closed (an_entry a k i e) = None

-- the same of what an entry has as its key in its place there, by its key
abbrev pub told_name : (closed : Term → Term) → Piece → Option TypeName
told_name closed (a_key a k) = name_of_piece closed k
told_name closed (a_type x) = Some (type (closed (term_of x)))
told_name closed (a_word t) = Some (word (text_of t))
told_name closed (a_value a k x) = Some (type (closed (term_of x)))
told_name closed (a_member a x) = None
told_name closed (an_entry a k i e) = None

-- A type without the parentheses round all of it.

abbrev pub inner_or : S.Types → Option S.Types → S.Types
inner_or x None = x
inner_or x (Some y) = y

abbrev mutual
  pub bare_types : S.Types → S.Types
  bare_types (S.only r) = bare_type1 r
  bare_types (S.or t s r) = S.or t s r

  pub bare_type1 : S.Type1 → S.Types
  bare_type1 (S.one x) = bare_type2 x
  bare_type1 (S.operation x o y) = S.only (S.operation x o y)

  pub bare_type2 : S.Type2 → S.Types
  bare_type2 (S.parens o t c) = bare_types t
  bare_type2 (S.literal v) = S.only (S.one (S.literal v))
  bare_type2 (S.typename r) = S.only (S.one (S.typename r))
  bare_type2 (S.map_of o g c) = S.only (S.one (S.map_of o g c))
  bare_type2 (S.array_of o g c) = S.only (S.one (S.array_of o g c))
  bare_type2 (S.unwrapped u r) = S.only (S.one (S.unwrapped u r))
  bare_type2 (S.choice_of a o g c) = S.only (S.one (S.choice_of a o g c))
  bare_type2 (S.choice_of_name a r) = S.only (S.one (S.choice_of_name a r))
  bare_type2 (S.tagged o t c) = S.only (S.one (S.tagged o t c))
  bare_type2 (S.tagged_by o h a p t c) = S.only (S.one (S.tagged_by o h a p t c))
  bare_type2 (S.simple_by o h c) = S.only (S.one (S.simple_by o h c))
  bare_type2 (S.hash t) = S.only (S.one (S.hash t))

-- What an entry is that is one name: this name, with arguments or without, which may be that of a group; or `~` and the name, which
-- is what is in the brackets of that rule's type (section 3.7).
pub data Called : Type 0 where
  plain : Text → Called
  unwrapped : Text → Called

abbrev pub name_of_type2 : S.Type2 → Option Called
name_of_type2 (S.typename r) = Some (plain (ref_name r))
name_of_type2 (S.unwrapped u r) = Some (unwrapped (ref_name r))
name_of_type2 (S.literal v) = None
name_of_type2 (S.parens o t c) = None
name_of_type2 (S.map_of o g c) = None
name_of_type2 (S.array_of o g c) = None
name_of_type2 (S.choice_of a o g c) = None
name_of_type2 (S.choice_of_name a r) = None
name_of_type2 (S.tagged o t c) = None
name_of_type2 (S.tagged_by o h a p t c) = None
name_of_type2 (S.simple_by o h c) = None
name_of_type2 (S.hash t) = None

abbrev pub name_of_type1 : S.Type1 → Option Called
name_of_type1 (S.one x) = name_of_type2 x
name_of_type1 (S.operation x o y) = None

abbrev pub name_of_types : S.Types → Option Called
name_of_types (S.only r) = name_of_type1 r
name_of_types (S.or t s r) = None

abbrev pub name_there : Piece → Option Called
name_there (an_entry a k i (of_types t)) = name_of_types (bare_types t)
name_there (an_entry a k i (of_group o g c)) = None
name_there (a_type x) = None
name_there (a_word t) = None
name_there (a_key a k) = None
name_there (a_value a k x) = None
name_there (a_member a x) = name_of_types (bare_types x)

-- what is reported for an entry: its type, or its group in parentheses
abbrev pub tokens_of_inner : Inner → List S.Lexeme
tokens_of_inner (of_types t) = S.flat_types (bare_types t)
tokens_of_inner (of_group o g c) = (ParenOpen, o) ∷ (S.flat_group g ++ (ParenClose, c) ∷ [])

abbrev pub tokens_of_piece : Piece → List S.Lexeme
tokens_of_piece (a_type x) = S.flat_types (bare_types x)
tokens_of_piece (a_word t) = (Name, t) ∷ []
tokens_of_piece (a_key a k) = tokens_of_piece k
tokens_of_piece (a_value a k x) = S.flat_types (bare_types x)
tokens_of_piece (a_member a x) = S.flat_types (bare_types x)
tokens_of_piece (an_entry a k i e) = tokens_of_inner e
