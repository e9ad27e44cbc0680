-- Small specifications, as trees with their tokens, on which faults are tried.
use Rattle.std.specs.Prelude.{ℕ, zero, suc, ◌+◌, length, [], None, Some, codes}
use Rattle.cddl_token.specs.declared.Token.{Token}
use Rattle.cddl_token.specs.declared.Kind.{Kind}
use Rattle.cddl_token.specs.declared.Kind.TheVariants.{Name, NameOpen, Control, Number, Occur, Text as TextToken, Hash, Assign, GroupAssign, Slash, DoubleSlash, Range, Comma, Colon, ParenOpen, ParenClose, BracketOpen, BracketClose, BraceOpen, BraceClose, Arrow, AngleClose, Tilde, Ampersand, End}
use Rattle.tree_nodes.specs.Syntax.Syntax as S
use Rattle.cddl_language.specs.Terms.{Text}
use Rattle.cddl_language.specs.Faults.{Specification}

-- the token of this kind that begins at the offset
abbrev pub token : Kind → ℕ → Text → Token
token k at t = record { kind = k; start = at; end = at + length t; text = record { ref_ptr = (0, 0); now = t } }

-- the name at the offset
abbrev pub a_ref : ℕ → Text → S.Ref
a_ref at n = S.name (token Name at n)

abbrev pub name : ℕ → Text → S.Type2
name at n = S.typename (a_ref at n)

abbrev pub is_type : S.Type2 → S.Types
is_type x = S.only (S.one x)

-- `n = type` and `n = entry`, the name at the offset
abbrev pub type_is : ℕ → Text → S.Types → S.Rule
type_is at n t = S.type_rule (S.plain (token Name at n)) (S.type_is (token Assign (at + 2) (codes "="))) t

abbrev pub group_is : ℕ → Text → S.GrpEnt → S.Rule
group_is at n e = S.group_rule (S.plain (token Name at n)) (S.group_is (token Assign (at + 2) (codes "="))) e

-- `n<t> = type`, with names of one letter
abbrev pub generic_is : ℕ → Text → S.Types → S.Rule
generic_is at n t = S.type_rule (S.generic (token NameOpen at n) (S.parameter (token Name (at + 2) (codes "t"))) (token AngleClose (at + 3) (codes ">"))) (S.type_is (token Assign (at + 5) (codes "="))) t

-- `n<type>` of a name of one letter
abbrev pub applied : ℕ → Text → S.Type2 → S.Ref
applied at n x = S.applied (token NameOpen at n) (S.argument (S.one x)) (token AngleClose (at + 100) (codes ">"))

-- an entry without a key, with an occurrence or not, and no comma; and two, with a comma between them
abbrev pub one_entry : S.GrpEnt → S.Group
one_entry e = S.sole (S.entries S.no_entries e None)

abbrev pub two_entries : S.GrpEnt → S.GrpEnt → S.Group
two_entries d e = S.sole (S.entries (S.entries S.no_entries d (Some (token Comma 0 (codes ",")))) e None)

abbrev pub once : S.Type2 → S.GrpEnt
once x = S.typed None (is_type x)

abbrev pub occurring : ℕ → Text → S.Type2 → S.GrpEnt
occurring at o x = S.typed (Some (token Occur at o)) (is_type x)

-- `[group]` and `(group)`, the bracket at the offset
abbrev pub array : ℕ → S.Group → S.Type2
array at g = S.array_of (token BracketOpen at (codes "[")) g (token BracketClose (at + 100) (codes "]"))

abbrev pub a_group : ℕ → S.Group → S.GrpEnt
a_group at g = S.grouped None (token ParenOpen at (codes "(")) g (token ParenClose (at + 100) (codes ")"))

-- `~name`, the `~` at the offset
abbrev pub unwrapped : ℕ → Text → S.Type2
unwrapped at n = S.unwrapped (token Tilde at (codes "~")) (a_ref (at + 1) n)

-- `a..b`
abbrev pub range : S.Type2 → S.Type2 → S.Types
range x y = S.only (S.operation x (S.range (token Range 0 (codes ".."))) y)

abbrev pub number : ℕ → Text → S.Type2
number at n = S.literal (S.number (token Number at n))

-- The rules of a text; no root is given.

abbrev pub rules_in : S.Rules → Specification
rules_in rs = record { tree = S.cddl rs (token End 1000 []); given = None }

abbrev pub empty : Specification
empty = rules_in S.no_rules

abbrev pub one_rule : S.Rule → Specification
one_rule r = rules_in (S.rules S.no_rules r)

abbrev pub two_rules : S.Rule → S.Rule → Specification
two_rules q r = rules_in (S.rules (S.rules S.no_rules q) r)

-- `a = int` and `a = tstr`
abbrev pub twice : Specification
twice = two_rules (type_is 0 (codes "a") (is_type (name 4 (codes "int")))) (type_is 8 (codes "a") (is_type (name 12 (codes "tstr"))))

-- `(b: int)`
abbrev pub b_int : ℕ → S.GrpEnt
b_int at = a_group at (one_entry (S.keyed None (S.bareword (token Name (at + 1) (codes "b")) (token Colon (at + 2) (codes ":"))) (is_type (name (at + 4) (codes "int")))))

-- `a = int` and `a //= (b: int)`
abbrev pub type_and_group : Specification
type_and_group = two_rules (type_is 0 (codes "a") (is_type (name 4 (codes "int")))) (S.group_rule (S.plain (token Name 8 (codes "a"))) (S.group_or (token GroupAssign 10 (codes "//="))) (b_int 14))

-- `a = b`
abbrev pub undefined : Specification
undefined = one_rule (type_is 0 (codes "a") (is_type (name 4 (codes "b"))))

-- `a = s<int>` and `s = [int]`
abbrev pub with_argument : Specification
with_argument = two_rules (type_is 0 (codes "a") (is_type (S.typename (applied 4 (codes "s<") (name 6 (codes "int")))))) (type_is 11 (codes "s") (is_type (array 15 (one_entry (once (name 16 (codes "int")))))))

-- `a = (b: int)`
abbrev pub group_root : Specification
group_root = one_rule (group_is 0 (codes "a") (b_int 4))

-- `a = g / int` and `g = (b: int)`
abbrev pub group_in_choice : Specification
group_in_choice = two_rules (type_is 0 (codes "a") (S.or (is_type (name 4 (codes "g"))) (token Slash 6 (codes "/")) (S.one (name 8 (codes "int"))))) (group_is 12 (codes "g") (b_int 16))

-- `a = &int`
abbrev pub choice_of_type : Specification
choice_of_type = one_rule (type_is 0 (codes "a") (is_type (S.choice_of_name (token Ampersand 4 (codes "&")) (a_ref 5 (codes "int")))))

-- `a = #6.32`
abbrev pub bare_tag : Specification
bare_tag = one_rule (type_is 0 (codes "a") (is_type (S.hash (token Hash 4 (codes "#6.32")))))

-- `a = tstr .regexp "x"`
abbrev pub with_regexp : Specification
with_regexp = one_rule (type_is 0 (codes "a") (S.only (S.operation (name 4 (codes "tstr")) (S.control (token Control 9 (codes ".regexp"))) (S.literal (S.text (token TextToken 17 (codes "\"x\"")))))))

-- `r = a<int>` and `a<t> = [t, ? a<[t]>]`
abbrev pub endless : Specification
endless = two_rules (type_is 0 (codes "r") (is_type (S.typename (applied 4 (codes "a<") (name 6 (codes "int")))))) (generic_is 11 (codes "a<") (is_type (array 18 (two_entries (once (name 19 (codes "t"))) (occurring 22 (codes "?") (S.typename (applied 24 (codes "a<") (array 26 (one_entry (once (name 27 (codes "t"))))))))))))

-- `a = [~int]`
abbrev pub unwrapped_int : Specification
unwrapped_int = one_rule (type_is 0 (codes "a") (is_type (array 4 (one_entry (once (unwrapped 5 (codes "int")))))))

-- `a = s<~int>` and `s<t> = t`
abbrev pub unwrapped_argument : Specification
unwrapped_argument = two_rules (type_is 0 (codes "a") (is_type (S.typename (applied 4 (codes "s<") (unwrapped 6 (codes "int")))))) (generic_is 12 (codes "s<") (is_type (name 19 (codes "t"))))

-- `a = &(? int)`
abbrev pub choice_of_maybe : Specification
choice_of_maybe = one_rule (type_is 0 (codes "a") (is_type (S.choice_of (token Ampersand 4 (codes "&")) (token ParenOpen 5 (codes "(")) (one_entry (occurring 6 (codes "?") (name 8 (codes "int")))) (token ParenClose 11 (codes ")")))))

-- `t = t / int`
abbrev pub first_itself : Specification
first_itself = one_rule (type_is 0 (codes "t") (S.or (is_type (name 4 (codes "t"))) (token Slash 6 (codes "/")) (S.one (name 8 (codes "int")))))

-- `t = [b: &(~t)]`
abbrev pub chosen_itself : Specification
chosen_itself = one_rule (type_is 0 (codes "t") (is_type (array 4 (one_entry (S.keyed None (S.bareword (token Name 5 (codes "b")) (token Colon 6 (codes ":"))) (is_type (S.choice_of (token Ampersand 8 (codes "&")) (token ParenOpen 9 (codes "(")) (one_entry (once (unwrapped 10 (codes "t")))) (token ParenClose 12 (codes ")")))))))))

-- `b = (x: t)`, the name at the offset
abbrev x_is_t : ℕ → S.Rule
x_is_t at = group_is at (codes "b") (a_group (at + 4) (one_entry (S.keyed None (S.bareword (token Name (at + 5) (codes "x")) (token Colon (at + 6) (codes ":"))) (is_type (name (at + 8) (codes "t"))))))

-- `t = &b` and `b = (x: t)`
abbrev pub chosen_by_name : Specification
chosen_by_name = two_rules (type_is 0 (codes "t") (is_type (S.choice_of_name (token Ampersand 4 (codes "&")) (a_ref 5 (codes "b"))))) (x_is_t 7)

-- `t = &(b)` and `b = (x: t)`
abbrev pub chosen_through : Specification
chosen_through = two_rules (type_is 0 (codes "t") (is_type (S.choice_of (token Ampersand 4 (codes "&")) (token ParenOpen 5 (codes "(")) (one_entry (once (name 6 (codes "b")))) (token ParenClose 7 (codes ")"))))) (x_is_t 9)

-- `r = [g]`, and what follows
abbrev pub r_of_g : S.Rule
r_of_g = type_is 0 (codes "r") (is_type (array 4 (one_entry (once (name 5 (codes "g"))))))

-- `g = (? int, g)`
abbrev pub maybe_int_then_g : S.Rule
maybe_int_then_g = group_is 8 (codes "g") (a_group 12 (two_entries (occurring 13 (codes "?") (name 15 (codes "int"))) (once (name 20 (codes "g")))))

-- `g = (int, ? g)`
abbrev pub int_then_maybe_g : S.Rule
int_then_maybe_g = group_is 8 (codes "g") (a_group 12 (two_entries (once (name 13 (codes "int"))) (occurring 18 (codes "?") (name 20 (codes "g")))))

-- `a = 5..tstr`
abbrev pub to_text : Specification
to_text = one_rule (type_is 0 (codes "a") (range (number 4 (codes "5")) (name 7 (codes "tstr"))))

-- `a = s<tstr>` and `s<t> = 0..t`
abbrev pub to_parameter : Specification
to_parameter = two_rules (type_is 0 (codes "a") (is_type (S.typename (applied 4 (codes "s<") (name 6 (codes "tstr")))))) (generic_is 12 (codes "s<") (range (number 19 (codes "0")) (name 22 (codes "t"))))

-- `a = [3*2 int]`
abbrev pub three_to_two : Specification
three_to_two = one_rule (type_is 0 (codes "a") (is_type (array 4 (one_entry (occurring 5 (codes "3*2") (name 9 (codes "int")))))))

-- `t = [* t]`
abbrev pub lists : Specification
lists = one_rule (type_is 0 (codes "t") (is_type (array 4 (one_entry (occurring 5 (codes "*") (name 7 (codes "t")))))))

-- `{group}`, the brace at the offset
abbrev pub map : ℕ → S.Group → S.Type2
map at g = S.map_of (token BraceOpen at (codes "{")) g (token BraceClose (at + 100) (codes "}"))

-- `n => int`, the number at the offset
abbrev pub to_int : ℕ → Text → S.GrpEnt
to_int at n = S.keyed None (S.type_key (S.one (number at n)) None (token Arrow (at + 2) (codes "=>"))) (is_type (name (at + 5) (codes "int")))

-- `a = {int}`
abbrev pub map_of_int : Specification
map_of_int = one_rule (type_is 0 (codes "a") (is_type (map 4 (one_entry (once (name 5 (codes "int")))))))

-- `m = { * (1 => int, 2 => int) }`
abbrev pub map_of_pairs : Specification
map_of_pairs = one_rule (type_is 0 (codes "m") (is_type (map 4 (one_entry (S.grouped (Some (token Occur 6 (codes "*"))) (token ParenOpen 8 (codes "(")) (two_entries (to_int 9 (codes "1")) (to_int 19 (codes "2"))) (token ParenClose 27 (codes ")")))))))

-- `m = { g }`, and what follows
abbrev pub map_of_g : S.Rule
map_of_g = type_is 0 (codes "m") (is_type (map 4 (one_entry (once (name 6 (codes "g"))))))

-- `a: int`
abbrev pub a_int : ℕ → S.GrpEnt
a_int at = S.keyed None (S.bareword (token Name at (codes "a")) (token Colon (at + 1) (codes ":"))) (is_type (name (at + 3) (codes "int")))

-- `g = (a: int, ? g)`
abbrev pub g_of_itself : S.Rule
g_of_itself = group_is 10 (codes "g") (a_group 14 (two_entries (a_int 15) (occurring 23 (codes "?") (name 25 (codes "g")))))

-- `g = (a: int, (? g))`
abbrev pub g_in_parens : S.Rule
g_in_parens = group_is 10 (codes "g") (a_group 14 (two_entries (a_int 15) (a_group 23 (one_entry (occurring 24 (codes "?") (name 26 (codes "g")))))))

-- so many times `(1 => int // 2 => int)`
abbrev pub either_so_often : ℕ → S.GrpChoice
either_so_often zero = S.no_entries
either_so_often (suc k) = S.entries (either_so_often k) (a_group 6 (S.orelse (one_entry (to_int 7 (codes "1"))) (token DoubleSlash 16 (codes "//")) (S.entries S.no_entries (to_int 19 (codes "2")) None))) (Some (token Comma 28 (codes ",")))

-- `m = { (1 => int // 2 => int), .. }`, ten times
abbrev pub map_of_ten : Specification
map_of_ten = one_rule (type_is 0 (codes "m") (is_type (map 4 (S.sole (either_so_often 10)))))

-- `m = { ~a }` and `a = ([int, int])`
abbrev pub map_of_opened : S.Rule
map_of_opened = type_is 0 (codes "m") (is_type (map 4 (one_entry (once (unwrapped 6 (codes "a"))))))

abbrev pub two_ints : S.Rule
two_ints = type_is 10 (codes "a") (is_type (S.parens (token ParenOpen 14 (codes "(")) (is_type (array 15 (two_entries (once (name 16 (codes "int"))) (once (name 21 (codes "int")))))) (token ParenClose 25 (codes ")"))))

-- `m = { ~bytes }` and `bstr = {int}`
abbrev pub map_of_bytes : S.Rule
map_of_bytes = type_is 0 (codes "m") (is_type (map 4 (one_entry (once (unwrapped 6 (codes "bytes"))))))

abbrev pub bstr_is_map : S.Rule
bstr_is_map = type_is 15 (codes "bstr") (is_type (map 22 (one_entry (once (name 23 (codes "int"))))))

-- `m = { 2*2 (1 => int) }`
abbrev pub map_of_twice : Specification
map_of_twice = one_rule (type_is 0 (codes "m") (is_type (map 4 (one_entry (S.grouped (Some (token Occur 6 (codes "2*2"))) (token ParenOpen 10 (codes "(")) (one_entry (to_int 11 (codes "1"))) (token ParenClose 19 (codes ")")))))))
