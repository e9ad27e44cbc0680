-- A machine that reads tokens from left to right, one step a token: a tool of proofs, tied to the trees by its laws.
use Rattle.std.specs.Prelude.{ℕ, suc, List, [], ◌∷◌, Option, Some, None}
use Rattle.cddl_token.specs.declared.Token.{Token}
use Rattle.cddl_token.specs.declared.Kind.{Kind}
use Rattle.cddl_token.specs.declared.Kind.TheVariants.{Name, NameOpen, Control, Number, Occur, Text, Bytes, Hash, TagOpen, TagHeadOpen, SimpleHeadOpen, Assign, TypeAssign, GroupAssign, Slash, DoubleSlash, Range, RangeBelow, Arrow, Cut, Colon, Comma, ParenOpen, ParenClose, BracketOpen, BracketClose, BraceOpen, BraceClose, AngleClose, Tilde, Ampersand, End}
use Rattle.tree_nodes.specs.Syntax.Syntax.{Lexeme, number, text, bytes, Operator, range, range_below, control, Types, only, or, Type1, one, operation, Type2, literal, typename, parens, map_of, array_of, unwrapped, choice_of, choice_of_name, tagged, tagged_by, simple_by, hash, Ref, name, applied, GenericArg, argument, arguments, Group, sole, orelse, GrpChoice, no_entries, entries, GrpEnt, typed, keyed, grouped, MemberKey, type_key, bareword, value_key, GenericParm, parameter, parameters, RuleName, plain, generic, type_is, type_or, AssignG, group_is, group_or, Rule, type_rule, group_rule, Rules, no_rules, rules, Cddl, cddl}

-- The alternatives of a group before the one that is open, and the `//` after them.
pub data Before : Type 0 where
  nothing : Before
  earlier : Group → Token → Before

-- The arguments, or the parameters, before the one that is open, and the comma after them.
pub data ArgBefore : Type 0 where
  no_arg : ArgBefore
  earlier_arg : GenericArg → Token → ArgBefore

pub data ParmBefore : Type 0 where
  no_parm : ParmBefore
  earlier_parm : GenericParm → Token → ParmBefore

-- What is directly before a reference.
pub data Prefix : Type 0 where
  bare : Prefix
  tilde : Token → Prefix
  ampersand : Token → Prefix

-- What opened a type in brackets.
pub data TypeOpening : Type 0 where
  paren : Token → TypeOpening
  tag : Token → TypeOpening
  tag_head : Token → TypeOpening
  tag_content : Token → Types → Token → Token → TypeOpening
  simple_head : Token → TypeOpening

-- What opened a group in brackets.
pub data GroupOpening : Type 0 where
  brace : Token → GroupOpening
  bracket : Token → GroupOpening
  choice : Token → Token → GroupOpening

-- What is left of a type2, a type1, a type, an entry, an alternative: all that is open, and what is whole in it.
mutual
  pub data AtType2 : Type 0 where
    lower : AtType1 → AtType2
    upper : AtType1 → Type2 → Operator → AtType2

  pub data AtType1 : Type 0 where
    head : AtTypes → AtType1
    next : AtTypes → Types → Token → AtType1
    argument_of : AtType2 → Prefix → Token → ArgBefore → AtType1

  pub data AtTypes : Type 0 where
    body : Rules → RuleName → Token → AtTypes  -- after `/=`
    inside : AtType2 → TypeOpening → AtTypes
    start : AtEntry → Option Token → AtTypes  -- at the beginning of an entry, where a key may come
    value_of : AtEntry → Option Token → MemberKey → AtTypes

  pub data AtEntry : Type 0 where
    group_body : Rules → RuleName → AssignG → AtEntry
    member : AtGroup → Before → GrpChoice → AtEntry

  -- inside a bracket, or inside parentheses at the beginning of an entry
  pub data AtGroup : Type 0 where
    within : AtType2 → GroupOpening → AtGroup
    in_entry : AtEntry → Option Token → Token → AtGroup

pub data State : Type 0 where
  begin : State
  awaits_parm : Rules → Token → ParmBefore → State
  have_parm : Rules → Token → GenericParm → State
  awaits_assign : Rules → RuleName → State
  want : AtType2 → State  -- awaits a type2
  want_ref : AtType2 → Prefix → State
  want_content : AtType2 → Token → Types → Token → State  -- awaits the `(` after `#6.<`, a type and `>`
  have : AtType1 → Type1 → State
  want_arrow : AtEntry → Option Token → Type1 → Token → State  -- awaits the `=>` after `^`
  have_group : AtEntry → GrpEnt → State
  done : Cddl → State
  stuck : State

abbrev pub got : AtType2 → Type2 → State
got (lower k) x = have k (one x)
got (upper k x o) y = have k (operation x o y)

abbrev pub open_types : AtTypes → State
open_types k = want (lower (head k))

-- An entry is awaited: it begins with a type, unless a parenthesis or an occur comes.
abbrev pub open_entry : AtEntry → State
open_entry p = open_types (start p None)

abbrev pub open_group : AtGroup → State
open_group k = open_entry (member k nothing no_entries)

abbrev pub open_argument : AtType2 → Prefix → Token → ArgBefore → State
open_argument k p o b = want (lower (argument_of k p o b))

abbrev pub open_value : AtEntry → Option Token → MemberKey → State
open_value p oc m = open_types (value_of p oc m)

abbrev pub group_of : Before → GrpChoice → Group
group_of nothing es = sole es
group_of (earlier g s) es = orelse g s es

abbrev pub arg_of : ArgBefore → Type1 → GenericArg
arg_of no_arg r = argument r
arg_of (earlier_arg a c) r = arguments a c r

abbrev pub parm_of : ParmBefore → Token → GenericParm
parm_of no_parm n = parameter n
parm_of (earlier_parm p c) n = parameters p c n

abbrev pub prefixed : Prefix → Ref → Type2
prefixed bare r = typename r
prefixed (tilde u) r = unwrapped u r
prefixed (ampersand a) r = choice_of_name a r

-- A body after `=` that is a type makes a type rule.
abbrev pub rule_of : RuleName → AssignG → GrpEnt → Rule
rule_of n (group_is a) (typed None t) = type_rule n (type_is a) t
rule_of n a e = group_rule n a e

-- A token after whole rules.
abbrev pub next_rule : Rules → Kind → Token → State
next_rule rs Name t = awaits_assign rs (plain t)
next_rule rs NameOpen t = awaits_parm rs t no_parm
next_rule rs End t = done (cddl rs t)
next_rule rs _ t = stuck

abbrev pub after_parm : Rules → Token → GenericParm → Kind → Token → State
after_parm rs o p Comma t = awaits_parm rs o (earlier_parm p t)
after_parm rs o p AngleClose t = awaits_assign rs (generic o p t)
after_parm rs o p _ t = stuck

abbrev pub assigned : Rules → RuleName → Kind → Token → State
assigned rs n Assign t = open_entry (group_body rs n (group_is t))
assigned rs n TypeAssign t = open_types (body rs n t)
assigned rs n GroupAssign t = open_entry (group_body rs n (group_or t))
assigned rs n _ t = stuck

-- A closing parenthesis after a group at the beginning of an entry.
abbrev pub shut_paren : AtEntry → Option Token → Token → Group → Token → State
shut_paren p oc o (sole (entries no_entries (typed None t) None)) c = got (lower (head (start p oc))) (parens o t c)
shut_paren p oc o g c = have_group p (grouped oc o g c)

-- A closing token after a group.
abbrev pub shut_group : AtGroup → Group → Kind → Token → State
shut_group (within k (brace o)) g BraceClose c = got k (map_of o g c)
shut_group (within k (bracket o)) g BracketClose c = got k (array_of o g c)
shut_group (within k (choice a o)) g ParenClose c = got k (choice_of a o g c)
shut_group (in_entry p oc o) g ParenClose c = shut_paren p oc o g c
shut_group _ g _ c = stuck

-- A token after the entries of an alternative.
abbrev pub ends : AtGroup → Before → GrpChoice → Kind → Token → State
ends k b es DoubleSlash t = open_entry (member k (earlier (group_of b es) t) no_entries)
ends k b es q t = shut_group k (group_of b es) q t

abbrev pub ends_want : AtType2 → Kind → Token → State
ends_want (lower (head (start (member k b es) None))) q t = ends k b es q t
ends_want _ q t = stuck

abbrev pub occur_want : AtType2 → Token → State
occur_want (lower (head (start p None))) t = open_types (start p (Some t))
occur_want _ t = stuck

-- An opening parenthesis where a type2 is awaited.
abbrev pub open_paren : AtType2 → Token → State
open_paren (lower (head (start p oc))) t = open_group (in_entry p oc t)
open_paren k t = open_types (inside k (paren t))

abbrev pub step_want : AtType2 → Kind → Token → State
step_want k Number t = got k (literal (number t))
step_want k Text t = got k (literal (text t))
step_want k Bytes t = got k (literal (bytes t))
step_want k Name t = got k (typename (name t))
step_want k Hash t = got k (hash t)
step_want k NameOpen t = open_argument k bare t no_arg
step_want k Tilde t = want_ref k (tilde t)
step_want k Ampersand t = want_ref k (ampersand t)
step_want k ParenOpen t = open_paren k t
step_want k BraceOpen t = open_group (within k (brace t))
step_want k BracketOpen t = open_group (within k (bracket t))
step_want k TagOpen t = open_types (inside k (tag t))
step_want k TagHeadOpen t = open_types (inside k (tag_head t))
step_want k SimpleHeadOpen t = open_types (inside k (simple_head t))
step_want k Occur t = occur_want k t
step_want k q t = ends_want k q t

-- A parenthesis after `&`.
abbrev pub open_choice : AtType2 → Prefix → Token → State
open_choice k (ampersand a) t = open_group (within k (choice a t))
open_choice k _ t = stuck

abbrev pub step_want_ref : AtType2 → Prefix → Kind → Token → State
step_want_ref k p Name t = got k (prefixed p (name t))
step_want_ref k p NameOpen t = open_argument k p t no_arg
step_want_ref k p ParenOpen t = open_choice k p t
step_want_ref k p _ t = stuck

-- A token after an entry.
abbrev pub after_entry : AtEntry → GrpEnt → Kind → Token → State
after_entry (group_body rs n a) e q t = next_rule (rules rs (rule_of n a e)) q t
after_entry (member k b es) e Comma t = open_entry (member k b (entries es e (Some t)))
after_entry (member k b es) e q t = step_want (lower (head (start (member k b (entries es e None)) None))) q t

-- What is before an arrow is a type1.
abbrev pub arrow : AtEntry → Option Token → Types → Token → State
arrow p oc (only r) t = open_value p oc (type_key r None t)
arrow p oc _ t = stuck

abbrev pub cut : AtEntry → Option Token → Types → Token → State
cut p oc (only r) t = want_arrow p oc r t
cut p oc _ t = stuck

-- What is before a colon is a name or a value.
abbrev pub colon : AtEntry → Option Token → Types → Token → State
colon p oc (only (one (typename (name n)))) t = open_value p oc (bareword n t)
colon p oc (only (one (literal v))) t = open_value p oc (value_key v t)
colon p oc _ t = stuck

-- A closing token after a type in brackets.
abbrev pub shut_types : AtType2 → TypeOpening → Types → Kind → Token → State
shut_types k (paren o) ts ParenClose t = got k (parens o ts t)
shut_types k (tag o) ts ParenClose t = got k (tagged o ts t)
shut_types k (tag_head o) ts AngleClose t = want_content k o ts t
shut_types k (tag_content o h a p) ts ParenClose t = got k (tagged_by o h a p ts t)
shut_types k (simple_head o) ts AngleClose t = got k (simple_by o ts t)
shut_types k _ ts _ t = stuck

-- A token after a type at the beginning of an entry.
abbrev pub after_start : AtEntry → Option Token → Types → Kind → Token → State
after_start p oc ts Arrow t = arrow p oc ts t
after_start p oc ts Cut t = cut p oc ts t
after_start p oc ts Colon t = colon p oc ts t
after_start p oc ts q t = after_entry p (typed oc ts) q t

abbrev pub after_types : AtTypes → Types → Kind → Token → State
after_types (body rs n a) ts q t = next_rule (rules rs (type_rule n (type_or a) ts)) q t
after_types (inside k o) ts q t = shut_types k o ts q t
after_types (start p oc) ts q t = after_start p oc ts q t
after_types (value_of p oc m) ts q t = after_entry p (keyed oc m ts) q t

abbrev pub after_argument : AtType2 → Prefix → Token → GenericArg → Kind → Token → State
after_argument k p o a Comma t = open_argument k p o (earlier_arg a t)
after_argument k p o a AngleClose t = got k (prefixed p (applied o a t))
after_argument k p o a _ t = stuck

abbrev pub slash : AtType1 → Type1 → Token → State
slash (head k) r t = want (lower (next k (only r) t))
slash (next k ts s) r t = want (lower (next k (or ts s r) t))
slash (argument_of k p o b) r t = stuck

abbrev pub operated : AtType1 → Type1 → Operator → State
operated k (one x) o = want (upper k x o)
operated k _ o = stuck

abbrev pub after_type1 : AtType1 → Type1 → Kind → Token → State
after_type1 (head k) r q t = after_types k (only r) q t
after_type1 (next k ts s) r q t = after_types k (or ts s r) q t
after_type1 (argument_of k p o b) r q t = after_argument k p o (arg_of b r) q t

abbrev pub step_have : AtType1 → Type1 → Kind → Token → State
step_have k r Range t = operated k r (range t)
step_have k r RangeBelow t = operated k r (range_below t)
step_have k r Control t = operated k r (control t)
step_have k r Slash t = slash k r t
step_have k r q t = after_type1 k r q t

abbrev pub step : State → Kind → Token → State
step begin q t = next_rule no_rules q t
step (awaits_parm rs o b) Name t = have_parm rs o (parm_of b t)
step (have_parm rs o p) q t = after_parm rs o p q t
step (awaits_assign rs n) q t = assigned rs n q t
step (want k) q t = step_want k q t
step (want_ref k p) q t = step_want_ref k p q t
step (want_content k o h a) ParenOpen t = open_types (inside k (tag_content o h a t))
step (have k r) q t = step_have k r q t
step (want_arrow p oc r u) Arrow t = open_value p oc (type_key r (Some u) t)
step (have_group p e) q t = after_entry p e q t
step _ q t = stuck

abbrev pub run : State → List Lexeme → State
run s [] = s
run s (t ∷ ts) = run (step s t.0 t.1) ts

-- How many opening tokens are open in a state.
abbrev mutual
  pub open_in_type2 : AtType2 → ℕ
  open_in_type2 (lower k) = open_in_type1 k
  open_in_type2 (upper k x o) = open_in_type1 k

  pub open_in_type1 : AtType1 → ℕ
  open_in_type1 (head k) = open_in_types k
  open_in_type1 (next k ts s) = open_in_types k
  open_in_type1 (argument_of k p o b) = suc (open_in_type2 k)

  pub open_in_types : AtTypes → ℕ
  open_in_types (body rs n a) = 0
  open_in_types (inside k o) = suc (open_in_type2 k)
  open_in_types (start p oc) = open_in_entry p
  open_in_types (value_of p oc m) = open_in_entry p

  pub open_in_entry : AtEntry → ℕ
  open_in_entry (group_body rs n a) = 0
  open_in_entry (member k b es) = open_in_group k

  pub open_in_group : AtGroup → ℕ
  open_in_group (within k o) = suc (open_in_type2 k)
  open_in_group (in_entry p oc o) = suc (open_in_entry p)

abbrev pub open_in : State → ℕ
open_in begin = 0
open_in (awaits_parm rs o b) = 1
open_in (have_parm rs o p) = 1
open_in (awaits_assign rs n) = 0
open_in (want k) = open_in_type2 k
open_in (want_ref k p) = open_in_type2 k
open_in (want_content k o h a) = open_in_type2 k
open_in (have k r) = open_in_type1 k
open_in (want_arrow p oc r u) = open_in_entry p
open_in (have_group p e) = open_in_entry p
open_in (done x) = 0
open_in stuck = 0
