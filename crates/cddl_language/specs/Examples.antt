-- Small specifications, as definitions, on which the definitions here are tried.
use Rattle.std.specs.Prelude.{ℕ, zero, suc, true, false, List, [], ◌∷◌, ◌++◌, Option, Some, None, codes}
use Rattle.cddl_language.specs.Terms.{Text, Term, number, text, bytes, literal, range, control, choice_of, named, parens, map_of, array_of, unwrapped, tagged, or, Ref, call, no_terms, term, Group, sole, orelse, Entries, no_entries, entries, Entry, typed, keyed, grouped, of_type, bareword, is, type_or, group_or, of_types, of_entry, Definition, lone, hash}
use Rattle.cddl_meaning.specs.Forms as F
use Rattle.cddl_meaning.specs.Forms.{Node, Language, at_most, any_number_of}
use Rattle.cddl_literal.specs.Numbers.{UintOf, TextOf, BytesOf}
use Rattle.cddl_language.specs.Literals.{Values}
use Rattle.cddl_language.specs.Maps.{Member}
use Rattle.cddl_language.specs.Numbers.{uint_in}
use Rattle.cddl_language.specs.Prelude.{definition, plain}
use Rattle.cddl_meaning.specs.Ranks.Ranked.{Name, a_type}

abbrev pub a_ref : Text → Ref
a_ref n = call n no_terms

-- `n = entry`, `n /= type`, `n //= entry`, `n<p> = type`
abbrev pub group_is : Text → Entry → Definition
group_is n e = record { name = n; parameters = []; sign = is; body = of_entry e }

abbrev pub also_type : Text → Term → Definition
also_type n t = record { name = n; parameters = []; sign = type_or; body = of_types t }

abbrev pub also_group : Text → Entry → Definition
also_group n e = record { name = n; parameters = []; sign = group_or; body = of_entry e }

abbrev pub generic : Text → Text → Term → Definition
generic n p t = record { name = n; parameters = p ∷ []; sign = is; body = of_types t }

abbrev pub int : Term
int = plain (codes "int")

abbrev pub tstr : Term
tstr = plain (codes "tstr")

-- `(x: int)`
abbrev pub x_int : Group
x_int = sole (entries no_entries (keyed None (bareword (codes "x")) int) false)

abbrev pub a_group : Entry
a_group = grouped None x_int

-- `a = b`, `b = a`
abbrev pub in_circle : List Definition
in_circle = definition (codes "a") (plain (codes "b")) ∷ definition (codes "b") (plain (codes "a")) ∷ []

-- `a = (b)`, `b = (x: int)`, `m = {x: int}`, `c = ~d`, `d = (m)`, `t = #6.1(int)`, `e = ~t`, `f = ~g`, `g = [x: int] / int`
abbrev pub some_names : List Definition
some_names =
    definition (codes "a") (parens (plain (codes "b")))
    ∷ group_is (codes "b") a_group
    ∷ definition (codes "m") (map_of x_int)
    ∷ definition (codes "c") (unwrapped (a_ref (codes "d")))
    ∷ definition (codes "d") (parens (plain (codes "m")))
    ∷ definition (codes "t") (tagged (codes "#6.1(") int)
    ∷ definition (codes "e") (unwrapped (a_ref (codes "t")))
    ∷ definition (codes "f") (unwrapped (a_ref (codes "g")))
    ∷ definition (codes "g") (or (array_of x_int) int)
    ∷ []

-- `p<t> = t`, `q<t> = [t]`, `r<t> = q<t>`
abbrev pub generics : List Definition
generics =
    generic (codes "p") (codes "t") (plain (codes "t"))
    ∷ generic (codes "q") (codes "t") (array_of (sole (entries no_entries (typed None (plain (codes "t"))) false)))
    ∷ generic (codes "r") (codes "t") (named (call (codes "q") (term (plain (codes "t")) no_terms)))
    ∷ []

abbrev pub of_int : Text → Ref
of_int n = call n (term int no_terms)

-- `g = (int, h)`, `h = (x: tstr // k)`, `k = (int)`: the last is a type
abbrev pub nested : List Definition
nested =
    group_is (codes "g") (grouped None (sole (entries (entries no_entries (typed None int) true) (typed None (plain (codes "h"))) false)))
    ∷ group_is (codes "h") (grouped None (orelse (sole (entries no_entries (keyed None (bareword (codes "x")) tstr) false)) (entries no_entries (typed None (plain (codes "k"))) false)))
    ∷ definition (codes "k") (parens int)
    ∷ []

-- a group of one name
abbrev pub group_of_name : Text → Group
group_of_name n = sole (entries no_entries (typed None (plain n)) false)

-- `g = (? int)`, `h = (h)` written as a group: `h = (h,)`
abbrev pub not_to_choose : List Definition
not_to_choose =
    group_is (codes "g") (grouped None (sole (entries no_entries (typed (Some (codes "?")) int) false)))
    ∷ group_is (codes "h") (grouped None (sole (entries no_entries (typed None (plain (codes "h"))) true)))
    ∷ []

-- `x = (y)`, `y = z<5>`, `z<t> = t`
abbrev pub five : List Definition
five =
    definition (codes "x") (parens (plain (codes "y")))
    ∷ definition (codes "y") (named (call (codes "z") (term (literal (number (codes "5"))) no_terms)))
    ∷ generic (codes "z") (codes "t") (plain (codes "t"))
    ∷ []

-- an array of one entry
abbrev pub array_with : Entry → Term
array_with e = array_of (sole (lone e))

-- `[* int, int]`
abbrev pub ints_then_int : Term
ints_then_int = array_of (sole (entries (entries no_entries (typed (Some (codes "*")) int) true) (typed None int) false))

-- `u = #6.32(tstr)`
abbrev pub tagged_text : List Definition
tagged_text = definition (codes "u") (tagged (codes "#6.32(") tstr) ∷ []

-- `[~u]`
abbrev pub opened_text : Term
opened_text = array_with (typed None (unwrapped (a_ref (codes "u"))))

-- `&(x: int, y: tstr)`
abbrev pub one_of_two : Term
one_of_two = choice_of (sole (entries (entries no_entries (keyed None (bareword (codes "x")) int) true) (keyed None (bareword (codes "y")) tstr) false))

-- `1...3`
abbrev pub below_three : Term
below_three = range (literal (number (codes "1"))) false (literal (number (codes "3")))

-- `w<t> = [~t]`
abbrev pub opens_parameter : List Definition
opens_parameter = generic (codes "w") (codes "t") (array_with (typed None (unwrapped (a_ref (codes "t"))))) ∷ []

-- `a = #`, and its table: a choice of one type, and that type
abbrev pub anything : List Definition
anything = definition (codes "a") (hash (codes "#")) ∷ []

abbrev pub node_at : ℕ → Node ℕ ℕ
node_at zero = F.Choice (1 ∷ [])
node_at (suc n) = F.Plain F.anything

abbrev pub one_test : Language ℕ ℕ
one_test = record { type_at = node_at; group_at = λ g. F.Alternatives []; counting = F.by_forms node_at }

abbrev pub rank_at : Name ℕ ℕ → ℕ
rank_at (a_type zero) = 1
rank_at _ = 0

-- two entries with a comma between them
abbrev pub two : Entry → Entry → Entries
two d e = entries (entries no_entries d true) e false

-- `n: 1` for such a number, `n => int`, and the members that these make
abbrev pub word : Text → Text → Entry
word n v = keyed None (bareword n) (literal (number v))

abbrev pub to_int : Option Text → Text → Entry
to_int o v = keyed o (of_type (literal (number v)) false) int

abbrev pub of_word : Text → Text → Member
of_word n v = record { least = 1; most = at_most 1; key = bareword n; value = literal (number v) }

abbrev pub ints_from : ℕ → Text → Member
ints_from n v = record { least = n; most = any_number_of; key = of_type (literal (number v)) false; value = int }

abbrev pub x_member : Member
x_member = record { least = 1; most = at_most 1; key = bareword (codes "x"); value = int }

-- `(a: 1 // b: 2), c: 3`
abbrev pub a_or_b_then_c : Group
a_or_b_then_c = sole (two (grouped None (orelse (sole (lone (word (codes "a") (codes "1")))) (lone (word (codes "b") (codes "2"))))) (word (codes "c") (codes "3")))

-- `(a: 1 // b: 2), (c: 3 // d: 4)`
abbrev pub two_of_four : Group
two_of_four = sole (two (grouped None (orelse (sole (lone (word (codes "a") (codes "1")))) (lone (word (codes "b") (codes "2"))))) (grouped None (orelse (sole (lone (word (codes "c") (codes "3")))) (lone (word (codes "d") (codes "4"))))))

-- `? (a: 1, b: 2)`
abbrev pub maybe_both : Group
maybe_both = sole (lone (grouped (Some (codes "?")) (sole (two (word (codes "a") (codes "1")) (word (codes "b") (codes "2"))))))

-- `* (? 1 => int, * 2 => int)`, `* (1 => int, 2 => int)`, and `+ (1 => int // 2 => int)`
abbrev pub any_of_free : Group
any_of_free = sole (lone (grouped (Some (codes "*")) (sole (two (to_int (Some (codes "?")) (codes "1")) (to_int (Some (codes "*")) (codes "2"))))))

abbrev pub any_of_both : Group
any_of_both = sole (lone (grouped (Some (codes "*")) (sole (two (to_int None (codes "1")) (to_int None (codes "2"))))))

abbrev pub some_of_either : Group
some_of_either = sole (lone (grouped (Some (codes "+")) (orelse (sole (lone (to_int None (codes "1")))) (lone (to_int None (codes "2"))))))

-- `+ (? 1 => int)`, and `+ (1 => int, 2 => int)`
abbrev pub some_of_maybe : Group
some_of_maybe = sole (lone (grouped (Some (codes "+")) (sole (lone (to_int (Some (codes "?")) (codes "1"))))))

abbrev pub some_of_both : Group
some_of_both = sole (lone (grouped (Some (codes "+")) (sole (two (to_int None (codes "1")) (to_int None (codes "2"))))))

-- `a, c`; with `some_names` both are groups
abbrev pub two_names : Group
two_names = sole (two (typed None (plain (codes "a"))) (typed None (plain (codes "c"))))

-- `* n`
abbrev pub any_of : Text → Group
any_of n = sole (lone (typed (Some (codes "*")) (plain n)))

-- `g = (a: 1, ? g)`
abbrev pub of_itself : List Definition
of_itself = group_is (codes "g") (grouped None (sole (two (word (codes "a") (codes "1")) (typed (Some (codes "?")) (plain (codes "g")))))) ∷ []

-- values that stand for what is written in them, as far as the examples go: unsigned numbers, and texts without escapes
abbrev pub without_last : List ℕ → List ℕ
without_last [] = []
without_last (c ∷ []) = []
without_last (c ∷ d ∷ s) = c ∷ without_last (d ∷ s)

abbrev pub between_quotes : List ℕ → List ℕ
between_quotes [] = []
between_quotes (c ∷ s) = without_last s

abbrev pub worth : Values
worth (number t) = UintOf (uint_in t)
worth (text t) = TextOf (between_quotes t)
worth (bytes t) = BytesOf (between_quotes t)

abbrev pub a_number : Text → Term
a_number t = literal (number t)

-- a text without escapes, in its quotes
abbrev pub a_text : Text → Term
a_text t = literal (text (codes "\"" ++ t ++ codes "\""))

-- `(1 / 3..5)`, `3...5`, `0...0`
abbrev pub one_or_three_to_five : Term
one_or_three_to_five = parens (or (a_number (codes "1")) (range (a_number (codes "3")) true (a_number (codes "5"))))

abbrev pub three_below_five : Term
three_below_five = range (a_number (codes "3")) false (a_number (codes "5"))

abbrev pub below_nought : Term
below_nought = range (a_number (codes "0")) false (a_number (codes "0"))

-- `s = 1`, `s /= 2 .plus 3`
abbrev pub of_two_sizes : List Definition
of_two_sizes = definition (codes "s") (a_number (codes "1")) ∷ also_type (codes "s") (control (a_number (codes "2")) (codes "plus") (a_number (codes "3"))) ∷ []

-- `&(a: 0, b: 9)`, `&(a: 0, ? b: 9)`, `&(b: 9) / (4..7)`
abbrev pub nought_or_nine : Term
nought_or_nine = choice_of (sole (two (word (codes "a") (codes "0")) (word (codes "b") (codes "9"))))

abbrev pub nought_or_not : Term
nought_or_not = choice_of (sole (two (word (codes "a") (codes "0")) (keyed (Some (codes "?")) (bareword (codes "b")) (a_number (codes "9")))))

abbrev pub nine_or_four_to_seven : Term
nine_or_four_to_seven = or (choice_of (sole (lone (word (codes "b") (codes "9"))))) (parens (range (a_number (codes "4")) true (a_number (codes "7"))))

-- `g = (a: 0, h)`, `h = (b: 2 // c: s)`, `s = 4..7`
abbrev pub bits_by_names : List Definition
bits_by_names =
    group_is (codes "g") (grouped None (sole (two (word (codes "a") (codes "0")) (typed None (plain (codes "h"))))))
    ∷ group_is (codes "h") (grouped None (orelse (sole (lone (word (codes "b") (codes "2")))) (lone (keyed None (bareword (codes "c")) (plain (codes "s"))))))
    ∷ definition (codes "s") (range (a_number (codes "4")) true (a_number (codes "7")))
    ∷ []

-- `c = "b"`, `"a" .cat c`
abbrev pub of_b : List Definition
of_b = definition (codes "c") (a_text (codes "b")) ∷ []

abbrev pub a_then_b : Term
a_then_b = control (a_text (codes "a")) (codes "cat") (plain (codes "c"))

-- a line that is indented, after `a`
abbrev pub a_then_line : Term
a_then_line = control (a_text (codes "a")) (codes "det") (a_text (codes "\n  b"))

-- `1 .plus 2`, `1 .plus "a"`
abbrev pub one_and_two : Term
one_and_two = control (a_number (codes "1")) (codes "plus") (a_number (codes "2"))

abbrev pub one_and_text : Term
one_and_text = control (a_number (codes "1")) (codes "plus") (a_text (codes "a"))
