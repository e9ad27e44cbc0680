-- The grammar of CDDL over tokens (RFC 8610, appendix B): its trees, and the tokens that a tree prints.
use Rattle.std.specs.Prelude.{◌≡◌, ℕ, suc, max, Bool, true, false, List, [], ◌∷◌, ◌++◌, Option, Some, None}
use Rattle.cddl_token.specs.declared.Token.{Token}
use Rattle.cddl_token.specs.declared.Kind.{Kind}
use Rattle.cddl_token.specs.declared.Kind.TheVariants.{Name, NameOpen, Control, Number, Occur, Text, Bytes, Hash, TagOpen, TagHeadOpen, SimpleHeadOpen, Assign, TypeAssign, GroupAssign, Slash, DoubleSlash, Range, RangeBelow, Arrow, Cut, Colon, Comma, ParenOpen, ParenClose, BracketOpen, BracketClose, BraceOpen, BraceClose, AngleClose, Tilde, Ampersand, End}

-- A token, and the kind that the grammar has for it.
abbrev pub Lexeme : Type 0
Lexeme = Kind × Token

-- value
pub data Value : Type 0 where
  number : Token → Value
  text : Token → Value
  bytes : Token → Value

-- rangeop or ctlop
pub data Operator : Type 0 where
  range : Token → Operator
  range_below : Token → Operator
  control : Token → Operator

-- Lists grow at their end, so that a tree is built from left to right. An `Option Token` is an occur or an optcom.
mutual
  -- type: a choice of type1
  pub data Types : Type 0 where
    only : Type1 → Types
    or : Types → Token → Type1 → Types

  -- type1: one operand, or two and an operator
  pub data Type1 : Type 0 where
    one : Type2 → Type1
    operation : Type2 → Operator → Type2 → Type1

  -- type2
  pub data Type2 : Type 0 where
    literal : Value → Type2
    typename : Ref → Type2
    parens : Token → Types → Token → Type2
    map_of : Token → Group → Token → Type2
    array_of : Token → Group → Token → Type2
    unwrapped : Token → Ref → Type2
    choice_of : Token → Token → Group → Token → Type2
    choice_of_name : Token → Ref → Type2
    tagged : Token → Types → Token → Type2
    tagged_by : Token → Types → Token → Token → Types → Token → Type2
    simple_by : Token → Types → Token → Type2
    hash : Token → Type2

  -- a name, or one with its genericarg
  pub data Ref : Type 0 where
    name : Token → Ref
    applied : Token → GenericArg → Token → Ref

  -- genericarg, between its angles
  pub data GenericArg : Type 0 where
    argument : Type1 → GenericArg
    arguments : GenericArg → Token → Type1 → GenericArg

  -- group: the alternatives
  pub data Group : Type 0 where
    sole : GrpChoice → Group
    orelse : Group → Token → GrpChoice → Group

  -- grpchoice: the entries, each with its optcom
  pub data GrpChoice : Type 0 where
    no_entries : GrpChoice
    entries : GrpChoice → GrpEnt → Option Token → GrpChoice

  -- grpent: with its occur
  pub data GrpEnt : Type 0 where
    typed : Option Token → Types → GrpEnt
    keyed : Option Token → MemberKey → Types → GrpEnt
    grouped : Option Token → Token → Group → Token → GrpEnt

  -- memberkey
  pub data MemberKey : Type 0 where
    type_key : Type1 → Option Token → Token → MemberKey
    bareword : Token → Token → MemberKey
    value_key : Value → Token → MemberKey

-- genericparm, between its angles
pub data GenericParm : Type 0 where
  parameter : Token → GenericParm
  parameters : GenericParm → Token → Token → GenericParm

-- a typename or groupname that is defined, and its genericparm
pub data RuleName : Type 0 where
  plain : Token → RuleName
  generic : Token → GenericParm → Token → RuleName

-- assignt: `=` or `/=`
pub data AssignT : Type 0 where
  type_is : Token → AssignT
  type_or : Token → AssignT

-- assigng: `=` or `//=`
pub data AssignG : Type 0 where
  group_is : Token → AssignG
  group_or : Token → AssignG

pub data Rule : Type 0 where
  type_rule : RuleName → AssignT → Types → Rule
  group_rule : RuleName → AssignG → GrpEnt → Rule

pub data Rules : Type 0 where
  no_rules : Rules
  rules : Rules → Rule → Rules

-- cddl: the rules, and the end of the source
pub data Cddl : Type 0 where
  cddl : Rules → Token → Cddl

-- The tokens of a tree.

abbrev pub optional : Kind → Option Token → List Lexeme
optional k None = []
optional k (Some t) = (k, t) ∷ []

abbrev pub flat_value : Value → Lexeme
flat_value (number t) = (Number, t)
flat_value (text t) = (Text, t)
flat_value (bytes t) = (Bytes, t)

abbrev pub flat_operator : Operator → Lexeme
flat_operator (range t) = (Range, t)
flat_operator (range_below t) = (RangeBelow, t)
flat_operator (control t) = (Control, t)

abbrev mutual
  pub flat_types : Types → List Lexeme
  flat_types (only r) = flat_type1 r
  flat_types (or t s r) = flat_types t ++ (Slash, s) ∷ flat_type1 r

  pub flat_type1 : Type1 → List Lexeme
  flat_type1 (one x) = flat_type2 x
  flat_type1 (operation x o y) = flat_type2 x ++ flat_operator o ∷ flat_type2 y

  pub flat_type2 : Type2 → List Lexeme
  flat_type2 (literal v) = flat_value v ∷ []
  flat_type2 (typename r) = flat_ref r
  flat_type2 (parens o t c) = (ParenOpen, o) ∷ (flat_types t ++ (ParenClose, c) ∷ [])
  flat_type2 (map_of o g c) = (BraceOpen, o) ∷ (flat_group g ++ (BraceClose, c) ∷ [])
  flat_type2 (array_of o g c) = (BracketOpen, o) ∷ (flat_group g ++ (BracketClose, c) ∷ [])
  flat_type2 (unwrapped u r) = (Tilde, u) ∷ flat_ref r
  flat_type2 (choice_of a o g c) = (Ampersand, a) ∷ (ParenOpen, o) ∷ (flat_group g ++ (ParenClose, c) ∷ [])
  flat_type2 (choice_of_name a r) = (Ampersand, a) ∷ flat_ref r
  flat_type2 (tagged o t c) = (TagOpen, o) ∷ (flat_types t ++ (ParenClose, c) ∷ [])
  flat_type2 (tagged_by o h a p t c) = (TagHeadOpen, o) ∷ (flat_types h ++ (AngleClose, a) ∷ (ParenOpen, p) ∷ (flat_types t ++ (ParenClose, c) ∷ []))
  flat_type2 (simple_by o h c) = (SimpleHeadOpen, o) ∷ (flat_types h ++ (AngleClose, c) ∷ [])
  flat_type2 (hash t) = (Hash, t) ∷ []

  pub flat_ref : Ref → List Lexeme
  flat_ref (name t) = (Name, t) ∷ []
  flat_ref (applied o a c) = (NameOpen, o) ∷ (flat_arg a ++ (AngleClose, c) ∷ [])

  pub flat_arg : GenericArg → List Lexeme
  flat_arg (argument r) = flat_type1 r
  flat_arg (arguments a c r) = flat_arg a ++ (Comma, c) ∷ flat_type1 r

  pub flat_group : Group → List Lexeme
  flat_group (sole es) = flat_choice es
  flat_group (orelse g s es) = flat_group g ++ (DoubleSlash, s) ∷ flat_choice es

  pub flat_choice : GrpChoice → List Lexeme
  flat_choice no_entries = []
  flat_choice (entries es e c) = flat_choice es ++ (flat_entry e ++ optional Comma c)

  pub flat_entry : GrpEnt → List Lexeme
  flat_entry (typed o t) = optional Occur o ++ flat_types t
  flat_entry (keyed o k t) = optional Occur o ++ (flat_key k ++ flat_types t)
  flat_entry (grouped o p g c) = optional Occur o ++ (ParenOpen, p) ∷ (flat_group g ++ (ParenClose, c) ∷ [])

  pub flat_key : MemberKey → List Lexeme
  flat_key (type_key r u a) = flat_type1 r ++ (optional Cut u ++ (Arrow, a) ∷ [])
  flat_key (bareword n c) = (Name, n) ∷ (Colon, c) ∷ []
  flat_key (value_key v c) = flat_value v ∷ (Colon, c) ∷ []

abbrev pub flat_parm : GenericParm → List Lexeme
flat_parm (parameter n) = (Name, n) ∷ []
flat_parm (parameters p c n) = flat_parm p ++ (Comma, c) ∷ (Name, n) ∷ []

abbrev pub flat_name : RuleName → List Lexeme
flat_name (plain n) = (Name, n) ∷ []
flat_name (generic o p c) = (NameOpen, o) ∷ (flat_parm p ++ (AngleClose, c) ∷ [])

abbrev pub flat_assignt : AssignT → Lexeme
flat_assignt (type_is t) = (Assign, t)
flat_assignt (type_or t) = (TypeAssign, t)

abbrev pub flat_assigng : AssignG → Lexeme
flat_assigng (group_is t) = (Assign, t)
flat_assigng (group_or t) = (GroupAssign, t)

abbrev pub flat_rule : Rule → List Lexeme
flat_rule (type_rule n a t) = flat_name n ++ flat_assignt a ∷ flat_types t
flat_rule (group_rule n a e) = flat_name n ++ flat_assigng a ∷ flat_entry e

abbrev pub flat_rules : Rules → List Lexeme
flat_rules no_rules = []
flat_rules (rules rs r) = flat_rules rs ++ flat_rule r

abbrev pub flat : Cddl → List Lexeme
flat (cddl rs e) = flat_rules rs ++ (End, e) ∷ []

-- The normal form: of two trees for the same tokens it has the one with the type.

-- An entry that is a type, without occur and key.
abbrev pub is_bare : GrpEnt → Bool
is_bare (typed None t) = true
is_bare _ = false

-- One bare entry without a comma: in parentheses it is a type.
abbrev pub is_type : Group → Bool
is_type (sole (entries no_entries (typed None t) None)) = true
is_type _ = false

-- Parentheses that may be a type's are a type's.
abbrev mutual
  pub NormalTypes : Types → Type 0
  NormalTypes (only r) = NormalType1 r
  NormalTypes (or t s r) = NormalTypes t × NormalType1 r

  pub NormalType1 : Type1 → Type 0
  NormalType1 (one x) = NormalType2 x
  NormalType1 (operation x o y) = NormalType2 x × NormalType2 y

  pub NormalType2 : Type2 → Type 0
  NormalType2 (literal v) = Unit {0}
  NormalType2 (typename r) = NormalRef r
  NormalType2 (parens o t c) = NormalTypes t
  NormalType2 (map_of o g c) = NormalGroup g
  NormalType2 (array_of o g c) = NormalGroup g
  NormalType2 (unwrapped u r) = NormalRef r
  NormalType2 (choice_of a o g c) = NormalGroup g
  NormalType2 (choice_of_name a r) = NormalRef r
  NormalType2 (tagged o t c) = NormalTypes t
  NormalType2 (tagged_by o h a p t c) = NormalTypes h × NormalTypes t
  NormalType2 (simple_by o h c) = NormalTypes h
  NormalType2 (hash t) = Unit {0}

  pub NormalRef : Ref → Type 0
  NormalRef (name t) = Unit {0}
  NormalRef (applied o a c) = NormalArg a

  pub NormalArg : GenericArg → Type 0
  NormalArg (argument r) = NormalType1 r
  NormalArg (arguments a c r) = NormalArg a × NormalType1 r

  pub NormalGroup : Group → Type 0
  NormalGroup (sole es) = NormalChoice es
  NormalGroup (orelse g s es) = NormalGroup g × NormalChoice es

  pub NormalChoice : GrpChoice → Type 0
  NormalChoice no_entries = Unit {0}
  NormalChoice (entries es e c) = NormalChoice es × NormalEntry e

  pub NormalEntry : GrpEnt → Type 0
  NormalEntry (typed o t) = NormalTypes t
  NormalEntry (keyed o k t) = NormalKey k × NormalTypes t
  NormalEntry (grouped o p g c) = (is_type g ≡ false) × NormalGroup g

  pub NormalKey : MemberKey → Type 0
  NormalKey (type_key r u a) = NormalType1 r
  NormalKey (bareword n c) = Unit {0}
  NormalKey (value_key v c) = Unit {0}

-- A body after `=` that is a type makes a type rule.
abbrev pub NormalRule : Rule → Type 0
NormalRule (type_rule n a t) = NormalTypes t
NormalRule (group_rule n (group_is a) e) = (is_bare e ≡ false) × NormalEntry e
NormalRule (group_rule n (group_or a) e) = NormalEntry e

abbrev pub NormalRules : Rules → Type 0
NormalRules no_rules = Unit {0}
NormalRules (rules rs r) = NormalRules rs × NormalRule r

abbrev pub Normal : Cddl → Type 0
Normal (cddl rs e) = NormalRules rs

-- The nesting of a tree: how many of its opening tokens are open at once, at most.
abbrev mutual
  pub nesting_types : Types → ℕ
  nesting_types (only r) = nesting_type1 r
  nesting_types (or t s r) = max (nesting_types t) (nesting_type1 r)

  pub nesting_type1 : Type1 → ℕ
  nesting_type1 (one x) = nesting_type2 x
  nesting_type1 (operation x o y) = max (nesting_type2 x) (nesting_type2 y)

  pub nesting_type2 : Type2 → ℕ
  nesting_type2 (literal v) = 0
  nesting_type2 (typename r) = nesting_ref r
  nesting_type2 (parens o t c) = suc (nesting_types t)
  nesting_type2 (map_of o g c) = suc (nesting_group g)
  nesting_type2 (array_of o g c) = suc (nesting_group g)
  nesting_type2 (unwrapped u r) = nesting_ref r
  nesting_type2 (choice_of a o g c) = suc (nesting_group g)
  nesting_type2 (choice_of_name a r) = nesting_ref r
  nesting_type2 (tagged o t c) = suc (nesting_types t)
  nesting_type2 (tagged_by o h a p t c) = max (suc (nesting_types h)) (suc (nesting_types t))
  nesting_type2 (simple_by o h c) = suc (nesting_types h)
  nesting_type2 (hash t) = 0

  pub nesting_ref : Ref → ℕ
  nesting_ref (name t) = 0
  nesting_ref (applied o a c) = suc (nesting_arg a)

  pub nesting_arg : GenericArg → ℕ
  nesting_arg (argument r) = nesting_type1 r
  nesting_arg (arguments a c r) = max (nesting_arg a) (nesting_type1 r)

  pub nesting_group : Group → ℕ
  nesting_group (sole es) = nesting_choice es
  nesting_group (orelse g s es) = max (nesting_group g) (nesting_choice es)

  pub nesting_choice : GrpChoice → ℕ
  nesting_choice no_entries = 0
  nesting_choice (entries es e c) = max (nesting_choice es) (nesting_entry e)

  pub nesting_entry : GrpEnt → ℕ
  nesting_entry (typed o t) = nesting_types t
  nesting_entry (keyed o k t) = max (nesting_key k) (nesting_types t)
  nesting_entry (grouped o p g c) = suc (nesting_group g)

  pub nesting_key : MemberKey → ℕ
  nesting_key (type_key r u a) = nesting_type1 r
  nesting_key (bareword n c) = 0
  nesting_key (value_key v c) = 0

abbrev pub nesting_name : RuleName → ℕ
nesting_name (plain n) = 0
nesting_name (generic o p c) = 1

abbrev pub nesting_rule : Rule → ℕ
nesting_rule (type_rule n a t) = max (nesting_name n) (nesting_types t)
nesting_rule (group_rule n a e) = max (nesting_name n) (nesting_entry e)

abbrev pub nesting_rules : Rules → ℕ
nesting_rules no_rules = 0
nesting_rules (rules rs r) = max (nesting_rules rs) (nesting_rule r)

abbrev pub nesting : Cddl → ℕ
nesting (cddl rs e) = nesting_rules rs
