-- The names that a text defines, by its tokens.
use Rattle.std.specs.Prelude.{ℕ, ◌==◌, Bool, true, false, List, [], ◌∷◌, Option, Some, None, slice_get, if◌then◌else◌}
use Rattle.std.specs.List.{before_first}
use Rattle.cddl_token.specs.declared.Kind.{Kind}
use Rattle.cddl_token.specs.declared.Kind.TheVariants.{Name, NameOpen, Assign, TypeAssign, GroupAssign, Comma, AngleClose}
use Rattle.cddl_token.specs.declared.Token.{Token}
use Rattle.cddl_explain.specs.declared.rules.Head.{Head}
use Rattle.cddl_explain.specs.declared.rules.Head.TheVariants as head
use Rattle.cddl_explain.specs.declared.rules.InList.{InList}
use Rattle.cddl_explain.specs.declared.rules.InList.TheVariants as in_list

abbrev pub is_assignment : Kind → Bool
is_assignment Assign = true
is_assignment TypeAssign = true
is_assignment GroupAssign = true
is_assignment _ = false

abbrev pub is_assigning : Option Token → Bool
is_assigning None = false
is_assigning (Some t) = is_assignment t.kind

-- an assignment comes first
abbrev pub assigns : List Token → Bool
assigns ts = is_assigning (slice_get ts 0)

-- what a token is in a list of parameters: its end, a name or a comma, or nothing that may stand there
abbrev pub in_list_of : Kind → InList
in_list_of AngleClose = in_list.Last
in_list_of Name = in_list.Within
in_list_of Comma = in_list.Within
in_list_of _ = in_list.Foreign

abbrev pub closes_by : InList → Bool → Bool → Bool
closes_by in_list.Last now later = now
closes_by in_list.Within now later = later
closes_by in_list.Foreign now later = false

-- a list of parameters ends, and an assignment comes right after it
abbrev pub closes : List Token → Bool
closes [] = false
closes (t ∷ ts) = closes_by (in_list_of t.kind) (assigns ts) (closes ts)

-- how a rule may begin: with a name, or with a name and `<`
abbrev pub head_of : Kind → Head
head_of Name = head.Plain
head_of NameOpen = head.Generic
head_of _ = head.Other

abbrev pub begins_by : Head → List Token → Bool
begins_by head.Plain ts = assigns ts
begins_by head.Generic ts = closes ts
begins_by head.Other ts = false

-- the first of these tokens is the name of a rule, which begins here
abbrev pub begins_rule : List Token → Bool
begins_rule [] = false
begins_rule (t ∷ ts) = begins_by (head_of t.kind) ts

-- the name that a token is: its text, up to `<`
abbrev pub name_of_token : List ℕ → List ℕ
name_of_token text = before_first (λ b. b == 60) text

-- the names of the rules, as often as they stand
abbrev pub rule_names : List Token → List (List ℕ)
rule_names [] = []
rule_names (t ∷ ts) = if begins_rule (t ∷ ts) then name_of_token t.text.now ∷ rule_names ts else rule_names ts
