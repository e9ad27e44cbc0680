-- What could be meant by a root that is none.
use Rattle.std.specs.Prelude.{ℕ, ◌==◌, ◌&&◌, not, Bool, true, false, List, [], ◌∷◌, ◌++◌, codes, Option, Some, None, if◌then◌else◌}
use Rattle.cddl_token.specs.declared.Kind.{Kind}
use Rattle.cddl_token.specs.declared.Kind.TheVariants.{Arrow, Assign, BracketOpen, BraceOpen, TagOpen}
use Rattle.cddl_token.specs.declared.Token.{Token}
use Rattle.tree_nodes.specs.Syntax.Answers.{opened_after}
use Rattle.cddl_explain.specs.Meant.{is_plain}
use Rattle.cddl_explain.specs.Parts.{is_open}
use Rattle.cddl_explain.specs.Rules.{begins_rule}
use Rattle.cddl_explain.specs.declared.roots.TheConstants as text

abbrev pub is_equals : Kind → Bool
is_equals Assign = true
is_equals _ = false

abbrev pub is_arrow : Kind → Bool
is_arrow Arrow = true
is_arrow _ = false

-- what opens an array, a map or a tag
abbrev pub is_container : Kind → Bool
is_container BracketOpen = true
is_container BraceOpen = true
is_container TagOpen = true
is_container _ = false

-- where so many are open: an arrow outside of brackets comes before the next rule, so that what stands before it is a key
abbrev pub ends_as_key : ℕ → List Token → Bool
ends_as_key depth [] = false
ends_as_key depth (t ∷ ts) =
    if depth == 0 && is_arrow t.kind then true
    else if depth == 0 && begins_rule (t ∷ ts) then false
    else ends_as_key (opened_after t.kind depth) ts

-- a rule without parameters begins, by `=`, that is an array, a map or a tag, or a choice that begins with one; and it does not begin at the offset
abbrev pub begins_container : ℕ → List Token → Bool
begins_container here (t ∷ u ∷ v ∷ ts) = not (t.start == here) && is_plain t.kind && is_equals u.kind && is_container v.kind && not (ends_as_key 1 ts)
begins_container here _ = false

-- the name of the first such rule
abbrev pub first_container : ℕ → List Token → Option (List ℕ)
first_container here [] = None
first_container here (t ∷ ts) = if begins_container here (t ∷ ts) then Some t.text.now else first_container here ts

-- of the root, with which these tokens begin: how a group is made a type, and that another name may be the root
abbrev pub other_words : List Token → List ℕ
other_words [] = text.ANOTHER_ROOT.now
other_words (t ∷ ts) = if is_open t.kind then text.ANOTHER_ROOT.now else text.TYPE_OR_ROOT.now

-- the name of a rule that could be meant, and else how the root could be
abbrev pub root_words : Option (List ℕ) → List Token → List ℕ
root_words None here = other_words here
root_words (Some name) here = codes "; did you mean --root " ++ (name ++ codes "?")
