-- Terms: the trees of a specification without spans. A token's text stands in the place of the token, so two terms are
-- equal exactly where their trees are, spans aside (RFC 8610 sections 2 and 3, appendix B).
use Rattle.std.specs.Prelude.{ℕ, List, [], ◌∷◌, ◌++◌, Option, Bool, false}

abbrev pub Text : Type 0
Text = List ℕ

-- a value as it is written (section 3.1)
pub data Literal : Type 0 where
  number : Text → Literal
  text : Text → Literal
  bytes : Text → Literal

-- Lists of alternatives and of entries grow at their end, as in the grammar; an `Option Text` is an occurrence.
mutual
  pub data Term : Type 0 where
    literal : Literal → Term
    named : Ref → Term  -- a name and its arguments (section 3.10)
    parens : Term → Term
    map_of : Group → Term
    array_of : Group → Term
    unwrapped : Ref → Term  -- `~name` (section 3.7)
    choice_of : Group → Term  -- `&(group)` (section 2.2.2.2)
    choice_of_name : Ref → Term  -- `&name`
    tagged : Text → Term → Term  -- `#6.n(type)`, with the text of its opening (section 3.6)
    tagged_by : Term → Term → Term  -- `#6.<type>(type)`
    simple_by : Term → Term  -- `#7.<type>`
    hash : Text → Term
    range : Term → (closed : Bool) → Term → Term  -- `a..b` and `a...b` (section 2.2.2.1)
    control : Term → Text → Term → Term  -- with the name of the control (section 3.8)
    or : Term → Term → Term  -- `a / b`; the second is no choice, but in parentheses (section 2.2.2)

  pub data Ref : Type 0 where
    call : Text → Terms → Ref

  pub data Terms : Type 0 where
    no_terms : Terms
    term : Term → Terms → Terms

  pub data Group : Type 0 where
    sole : Entries → Group
    orelse : Group → Entries → Group

  -- the entries of one alternative, each with a comma after it or not
  pub data Entries : Type 0 where
    no_entries : Entries
    entries : Entries → Entry → (comma : Bool) → Entries

  pub data Entry : Type 0 where
    typed : Option Text → Term → Entry
    keyed : Option Text → Key → Term → Entry
    grouped : Option Text → Group → Entry

  pub data Key : Type 0 where
    of_type : Term → (cut : Bool) → Key
    bareword : Text → Key
    of_value : Literal → Key

-- how a definition is written: `=`, `/=` or `//=`
pub data Sign : Type 0 where
  is : Sign
  type_or : Sign
  group_or : Sign

pub data Body : Type 0 where
  of_types : Term → Body
  of_entry : Entry → Body

-- a rule: what its name means, or a part of that (sections 2.2.2 and 3.10)
pub record Definition : Type 0 where
  pub name : Text
  pub parameters : List Text
  pub sign : Sign
  pub body : Body

-- The parts as lists.

abbrev pub term_list : Terms → List Term
term_list no_terms = []
term_list (term t ts) = t ∷ term_list ts

-- the members of a choice, in order; of any other type itself
abbrev pub choices : Term → List Term
choices (or t u) = choices t ++ u ∷ []
choices t = t ∷ []

abbrev pub alternatives : Group → List Entries
alternatives (sole es) = es ∷ []
alternatives (orelse g es) = alternatives g ++ es ∷ []

abbrev pub entry_list : Entries → List Entry
entry_list no_entries = []
entry_list (entries es e c) = entry_list es ++ e ∷ []

-- the type in any number of parentheses
abbrev pub stripped : Term → Term
stripped (parens t) = stripped t
stripped t = t

abbrev pub name_of : Ref → Text
name_of (call n ts) = n

abbrev pub arguments_of : Ref → List Term
arguments_of (call n ts) = term_list ts

abbrev pub occurrence_of : Entry → Option Text
occurrence_of (typed o t) = o
occurrence_of (keyed o k t) = o
occurrence_of (grouped o g) = o

-- an alternative of one entry
abbrev pub lone : Entry → Entries
lone e = entries no_entries e false
