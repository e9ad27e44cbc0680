-- Where `~` unwraps nothing, or a group where a type is demanded.
use Rattle.std.specs.Prelude.{◌≡◌, ℕ, Bool, true, false, if◌then◌else◌, List, Option, Some, None}
use Rattle.tree_nodes.specs.Syntax.Syntax as S
use Rattle.cddl_language.specs.Kinds.{opened}
use Rattle.cddl_language.specs.Sites.{is_parameter}
use Rattle.cddl_language.specs.Terms.{Definition, Text, call, no_terms}
use Rattle.check_names.specs.Kinds.Kinds.{Sort, a_content, a_group, sort_of}
use Rattle.check_reading.specs.Words.{Said}
use Rattle.check_reading.specs.declared.words.word.Role.{Role}
use Rattle.check_reading.specs.declared.words.word.Role.TheVariants as RoleV

-- what `~` of the name gives in the rule r: it has one sort for all arguments, and a parameter gives nothing
abbrev pub sort_named : List Definition → S.Rule → Text → Option Sort
sort_named ds r n = if is_parameter r n then None else sort_of (opened ds (call n no_terms))

-- it is nothing, or a group where a type is demanded
abbrev pub is_wrong : (demanded : Bool) → Option Sort → Bool
is_wrong demanded None = true
is_wrong demanded (Some a_group) = demanded
is_wrong demanded (Some a_content) = false

abbrev pub UnwrapsWrongly : List Definition → S.Rule → Text → Role → ℕ → Type 0
UnwrapsWrongly ds r n (RoleV.Unwrapped b u) at = (is_wrong b (sort_named ds r n) ≡ true) × (at ≡ u)
UnwrapsWrongly ds r n _ at = ⊥

-- at a word of the rule r
abbrev pub IsWrongTilde : List Definition → S.Rule → Said → ℕ → Type 0
IsWrongTilde ds r x at = UnwrapsWrongly ds r x.text x.role at
