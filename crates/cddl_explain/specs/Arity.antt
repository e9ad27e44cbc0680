-- How many arguments or parameters a name has, and how many it is to have (RFC 8610 section 3.10).
use Rattle.std.specs.Prelude.{ℕ, ◌+◌, ◌==◌, ◌&&◌, ◌||◌, nat_eq, Bool, true, false, List, [], ◌∷◌, ◌++◌, codes, decimal, if◌then◌else◌}
use Rattle.std.specs.Cmp.Lexicographic.{pointwise}
use Rattle.cddl_token.specs.declared.Kind.{Kind}
use Rattle.cddl_token.specs.declared.Kind.TheVariants.{Comma}
use Rattle.cddl_token.specs.declared.Token.{Token}
use Rattle.tree_nodes.specs.Syntax.Answers.{opened_after}
use Rattle.cddl_explain.specs.Known.{prelude_names}
use Rattle.cddl_explain.specs.Origins.{first_rule}
use Rattle.cddl_explain.specs.Parts.{is_open}
use Rattle.cddl_explain.specs.Rules.{begins_rule, in_list_of, name_of_token}
use Rattle.cddl_explain.specs.declared.arity.Bearer.{Bearer}
use Rattle.cddl_explain.specs.declared.arity.Bearer.TheVariants.{Parameter, Prelude, Rule}
use Rattle.cddl_explain.specs.declared.predicates.TheConstants as text
use Rattle.cddl_explain.specs.declared.rules.InList.{InList}
use Rattle.cddl_explain.specs.declared.rules.InList.TheVariants as in_list

abbrev pub is_comma : Kind → Bool
is_comma Comma = true
is_comma _ = false

abbrev pub one_where : Bool → ℕ
one_where true = 1
one_where false = 0

-- how many commas stand inside one opening token, where so many are open, until none is
abbrev pub commas : ℕ → List Token → ℕ
commas depth [] = 0
commas depth (t ∷ ts) =
    one_where (depth == 1 && is_comma t.kind) + (if opened_after t.kind depth == 0 then 0 else commas (opened_after t.kind depth) ts)

-- how many arguments or parameters the first of these tokens has, which is a name: what commas part after its `<`
abbrev pub arity : List Token → ℕ
arity [] = 0
arity (t ∷ ts) = if is_open t.kind then 1 + commas 0 (t ∷ ts) else 0

abbrev pub listed_by : InList → Bool → Bool → Bool
listed_by in_list.Last same later = false
listed_by in_list.Within same later = same || later
listed_by in_list.Foreign same later = false

-- a list of parameters goes on with these tokens, and has this name
abbrev pub lists : List ℕ → List Token → Bool
lists name [] = false
lists name (t ∷ ts) = listed_by (in_list_of t.kind) (pointwise nat_eq t.text.now name) (lists name ts)

-- the rule that begins with these tokens has this parameter
abbrev pub has_parameter : List ℕ → List Token → Bool
has_parameter name [] = false
has_parameter name (t ∷ ts) = is_open t.kind && lists name ts

-- the tokens from the last rule on that begins among these; else those that were found before
abbrev pub last_rule : List Token → List Token → List Token
last_rule found [] = found
last_rule found (t ∷ ts) = last_rule (if begins_rule (t ∷ ts) then t ∷ ts else found) ts

abbrev pub is_among : List ℕ → List (List ℕ) → Bool
is_among name [] = false
is_among name (w ∷ ws) = pointwise nat_eq w name || is_among name ws

-- What says how many a name is to have: it is a parameter of the rule that goes on here, a name of the prelude, or the name of a rule.
abbrev pub bearer_of : List ℕ → List Token → List Token → Bearer
bearer_of name around ts =
    if has_parameter name around then Parameter
    else if is_among name prelude_names then Prelude
    else Rule (arity (first_rule name ts))

abbrev pub counted : ℕ → List ℕ → List ℕ
counted n noun =
    if n == 0 then codes "no " ++ (noun ++ codes "s")
    else if n == 1 then codes "1 " ++ noun
    else decimal n ++ (codes " " ++ (noun ++ codes "s"))

abbrev pub bearer_words : Bearer → List ℕ
bearer_words Parameter = codes "is a parameter and takes none"
bearer_words Prelude = codes "is of the prelude and takes none"
bearer_words (Rule n) = codes "its first rule has " ++ counted n (codes "parameter")

abbrev pub arity_words : ℕ → List ℕ → Bearer → List ℕ
arity_words n noun b = codes "has " ++ (counted n noun ++ (codes " here, but " ++ bearer_words b))

-- What is wrong with the name that the first of these tokens is, where the tokens before it are these: it has parameters, where a rule begins with it,
-- and else arguments; and a rule's own name is none of its parameters.
abbrev pub arity_of_name : List Token → List Token → List Token → List ℕ
arity_of_name before [] ts = text.ARITY.now
arity_of_name before (t ∷ rest) ts =
    if begins_rule (t ∷ rest) then arity_words (arity (t ∷ rest)) (codes "parameter") (bearer_of (name_of_token t.text.now) [] ts)
    else arity_words (arity (t ∷ rest)) (codes "argument") (bearer_of (name_of_token t.text.now) (last_rule [] before) ts)
