-- The terms of a tree: what is left of it without spans.
use Rattle.std.specs.Prelude.{ℕ, List, [], ◌∷◌, ◌++◌, Option, option_map, is_some, true, false}
use Rattle.cddl_token.specs.declared.Token.{Token}
use Rattle.tree_nodes.specs.Syntax.Syntax as S
use Rattle.cddl_language.specs.Numbers.{before, after}
use Rattle.cddl_language.specs.Terms.{Text, Literal, number, text, bytes, Term, literal, named, parens, map_of, array_of, unwrapped, choice_of, choice_of_name, tagged, tagged_by, simple_by, hash, range, control, or, Ref, call, Terms, no_terms, term, Group, sole, orelse, Entries, no_entries, entries, Entry, typed, keyed, grouped, Key, of_type, bareword, of_value, Sign, is, type_or, group_or, Body, of_types, of_entry, Definition}

abbrev pub text_of : Token → Text
text_of t = t.text.now

-- the offset of the first of these tokens
abbrev pub first_start : List S.Lexeme → ℕ
first_start [] = 0
first_start (l ∷ ls) = (l.1).start

-- the name before `<`
abbrev pub opened_name : Token → Text
opened_name t = before 60 (text_of t)

-- the name of a control, after `.`
abbrev pub control_name : Token → Text
control_name t = after 46 (text_of t)

abbrev pub occurrence : Option Token → Option Text
occurrence o = option_map text_of o

abbrev pub literal_of : S.Value → Literal
literal_of (S.number t) = number (text_of t)
literal_of (S.text t) = text (text_of t)
literal_of (S.bytes t) = bytes (text_of t)

abbrev pub operation : Term → S.Operator → Term → Term
operation x (S.range t) y = range x true y
operation x (S.range_below t) y = range x false y
operation x (S.control t) y = control x (control_name t) y

-- the terms and one more after them
abbrev pub followed : Terms → Term → Terms
followed no_terms u = term u no_terms
followed (term t ts) u = term t (followed ts u)

abbrev mutual
  pub term_of : S.Types → Term
  term_of (S.only r) = term_of1 r
  term_of (S.or t s r) = or (term_of t) (term_of1 r)

  pub term_of1 : S.Type1 → Term
  term_of1 (S.one x) = term_of2 x
  term_of1 (S.operation x o y) = operation (term_of2 x) o (term_of2 y)

  pub term_of2 : S.Type2 → Term
  term_of2 (S.literal v) = literal (literal_of v)
  term_of2 (S.typename r) = named (ref_of r)
  term_of2 (S.parens o t c) = parens (term_of t)
  term_of2 (S.map_of o g c) = map_of (group_of g)
  term_of2 (S.array_of o g c) = array_of (group_of g)
  term_of2 (S.unwrapped u r) = unwrapped (ref_of r)
  term_of2 (S.choice_of a o g c) = choice_of (group_of g)
  term_of2 (S.choice_of_name a r) = choice_of_name (ref_of r)
  term_of2 (S.tagged o t c) = tagged (text_of o) (term_of t)
  term_of2 (S.tagged_by o h a p t c) = tagged_by (term_of h) (term_of t)
  term_of2 (S.simple_by o h c) = simple_by (term_of h)
  term_of2 (S.hash t) = hash (text_of t)

  pub ref_of : S.Ref → Ref
  ref_of (S.name t) = call (text_of t) no_terms
  ref_of (S.applied o a c) = call (opened_name o) (terms_of a)

  pub terms_of : S.GenericArg → Terms
  terms_of (S.argument r) = term (term_of1 r) no_terms
  terms_of (S.arguments a c r) = followed (terms_of a) (term_of1 r)

  pub group_of : S.Group → Group
  group_of (S.sole es) = sole (entries_of es)
  group_of (S.orelse g s es) = orelse (group_of g) (entries_of es)

  pub entries_of : S.GrpChoice → Entries
  entries_of S.no_entries = no_entries
  entries_of (S.entries es e c) = entries (entries_of es) (entry_of e) (is_some c)

  pub entry_of : S.GrpEnt → Entry
  entry_of (S.typed o t) = typed (occurrence o) (term_of t)
  entry_of (S.keyed o k t) = keyed (occurrence o) (key_of k) (term_of t)
  entry_of (S.grouped o p g c) = grouped (occurrence o) (group_of g)

  pub key_of : S.MemberKey → Key
  key_of (S.type_key r u a) = of_type (term_of1 r) (is_some u)
  key_of (S.bareword n c) = bareword (text_of n)
  key_of (S.value_key v c) = of_value (literal_of v)

abbrev pub parameters_of : S.GenericParm → List Token
parameters_of (S.parameter n) = n ∷ []
parameters_of (S.parameters p c n) = parameters_of p ++ n ∷ []

-- the token of a rule's name, the name, and the tokens of its parameters
abbrev pub name_token : S.RuleName → Token
name_token (S.plain n) = n
name_token (S.generic o p c) = o

abbrev pub rule_name : S.RuleName → Text
rule_name (S.plain n) = text_of n
rule_name (S.generic o p c) = opened_name o

abbrev pub parameter_tokens : S.RuleName → List Token
parameter_tokens (S.plain n) = []
parameter_tokens (S.generic o p c) = parameters_of p

abbrev pub texts_of : List Token → List Text
texts_of [] = []
texts_of (t ∷ ts) = text_of t ∷ texts_of ts

abbrev pub type_sign : S.AssignT → Sign
type_sign (S.type_is t) = is
type_sign (S.type_or t) = type_or

abbrev pub group_sign : S.AssignG → Sign
group_sign (S.group_is t) = is
group_sign (S.group_or t) = group_or

abbrev pub rule_head : S.Rule → S.RuleName
rule_head (S.type_rule n a t) = n
rule_head (S.group_rule n a e) = n

abbrev pub name_in : S.Rule → Text
name_in r = rule_name (rule_head r)

-- the offset of the name that a rule defines
abbrev pub name_at : S.Rule → ℕ
name_at r = (name_token (rule_head r)).start

abbrev pub parameters_in : S.Rule → List Text
parameters_in r = texts_of (parameter_tokens (rule_head r))

abbrev pub sign_of : S.Rule → Sign
sign_of (S.type_rule n a t) = type_sign a
sign_of (S.group_rule n a e) = group_sign a

abbrev pub body_of : S.Rule → Body
body_of (S.type_rule n a t) = of_types (term_of t)
body_of (S.group_rule n a e) = of_entry (entry_of e)

abbrev pub definition_of : S.Rule → Definition
definition_of r = record { name = name_in r; parameters = parameters_in r; sign = sign_of r; body = body_of r }

abbrev pub rule_list : S.Rules → List S.Rule
rule_list S.no_rules = []
rule_list (S.rules rs r) = rule_list rs ++ r ∷ []

-- the rules of a specification, in the order of the text
abbrev pub rules_of : S.Cddl → List S.Rule
rules_of (S.cddl rs e) = rule_list rs

abbrev pub definitions_in : List S.Rule → List Definition
definitions_in [] = []
definitions_in (r ∷ rs) = definition_of r ∷ definitions_in rs
