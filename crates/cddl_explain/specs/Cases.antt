-- What is wrong with a token, where its code leaves several cases: by the token, by the one before it, or by the rules of its name.
use Rattle.std.specs.Prelude.{ℕ, ◌==◌, nat_eq, Bool, true, false, List, [], ◌∷◌, codes, Option, Some, None, length, if◌then◌else◌}
use Rattle.std.specs.List.{starts_with}
use Rattle.cddl_token.specs.declared.Kind.{Kind}
use Rattle.cddl_token.specs.declared.Kind.TheVariants.{Occur, TypeAssign, GroupAssign, Ampersand}
use Rattle.cddl_token.specs.declared.Token.{Token}
use Rattle.cddl_explain.specs.Origins.{first_rule}
use Rattle.cddl_explain.specs.Parts.{is_open}
use Rattle.cddl_explain.specs.Rules.{is_assignment, name_of_token}
use Rattle.cddl_explain.specs.declared.cases.TheConstants as text

abbrev pub is_ampersand : Kind → Bool
is_ampersand Ampersand = true
is_ampersand _ = false

abbrev pub is_occur : Kind → Bool
is_occur Occur = true
is_occur _ = false

-- of the root, by the first token of its first rule: it has parameters, or it is a group
abbrev pub root_case : List Token → List ℕ
root_case [] = text.GROUP_ROOT.now
root_case (t ∷ ts) = if is_open t.kind then text.OPEN_ROOT.now else text.GROUP_ROOT.now

-- of a name of the wrong kind, by the token before it: after `&` it is a type, and else a group
abbrev pub kind_case : Option Token → List ℕ
kind_case None = text.GROUP_FOR_TYPE.now
kind_case (Some t) = if is_ampersand t.kind then text.TYPE_FOR_GROUP.now else text.GROUP_FOR_TYPE.now

abbrev pub of_hash : List ℕ → List ℕ
of_hash written =
    if starts_with nat_eq written (codes "#6.") then text.EMPTY_TAG.now
    else if starts_with nat_eq written (codes "#7.") then text.NO_SIMPLE_VALUE.now
    else if length written == 2 then text.NO_MAJOR_TYPE.now
    else text.NO_NUMBER.now

-- of `#` and digits: a tag that holds nothing; no simple value; no major type; or a number where none may be
abbrev pub hash_case : List Token → List ℕ
hash_case [] = text.NO_NUMBER.now
hash_case (t ∷ ts) = of_hash t.text.now

-- of `~` and of `&`
abbrev pub opening_case : List Token → List ℕ
opening_case [] = text.OPENS_NOTHING.now
opening_case (t ∷ ts) = if is_ampersand t.kind then text.CANNOT_CHOOSE.now else text.OPENS_NOTHING.now

-- of an occurrence, and of an end of a range
abbrev pub range_case : List Token → List ℕ
range_case [] = text.NO_END.now
range_case (t ∷ ts) = if is_occur t.kind then text.OVER_MAXIMUM.now else text.NO_END.now

-- the sign of the rule that begins with these tokens
abbrev pub sign_of_rule : List Token → Option Kind
sign_of_rule [] = None
sign_of_rule (t ∷ ts) = if is_assignment t.kind then Some t.kind else sign_of_rule ts

abbrev pub adds_type : Option Kind → Bool
adds_type (Some TypeAssign) = true
adds_type _ = false

abbrev pub adds_group : Option Kind → Bool
adds_group (Some GroupAssign) = true
adds_group _ = false

-- of a rule with this sign, where the first rule of its name has the other
abbrev pub clash_of : Option Kind → Option Kind → List ℕ
clash_of sign first =
    if adds_type sign then text.TYPE_TO_GROUP.now
    else if adds_group sign then text.GROUP_TO_TYPE.now
    else if adds_group first then text.TYPE_OF_GROUP.now
    else text.GROUP_OF_TYPE.now

-- the name that the first of these tokens is
abbrev pub name_here : List Token → List ℕ
name_here [] = []
name_here (t ∷ ts) = name_of_token t.text.now

-- of a rule that clashes with its name
abbrev pub clash_case : List Token → List Token → List ℕ
clash_case here ts = clash_of (sign_of_rule here) (sign_of_rule (first_rule (name_here here) ts))
