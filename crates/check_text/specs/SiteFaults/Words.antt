-- What is wrong with one word.
use Rattle.std.specs.Prelude.{◌≡◌, ◌≢◌, ℕ, Bool, true, false, if◌then◌else◌, not, nat_eq, List, [], length, Option, Some, None}
use Rattle.tree_nodes.specs.Syntax.Syntax as S
use Rattle.cddl_language.specs.Terms.{Definition, Text}
use Rattle.cddl_language.specs.Controls.{control_of}
use Rattle.cddl_language.specs.Environment.{definitions_of, is_socket}
use Rattle.cddl_language.specs.Faults.{HasBadHash, HasGroupAsType, HasName, HasUnknownControl, IsBadHash, IsUndefined, Specification, definitions, parameter_count}
use Rattle.cddl_language.specs.Kinds.{is_group}
use Rattle.cddl_language.specs.Numbers.{hash_form}
use Rattle.cddl_language.specs.Sites.{arguments, is_parameter, ref_name, ref_token}
use Rattle.check_reading.specs.Words.{Said}
use Rattle.check_reading.specs.declared.words.word.Role.{Role}
use Rattle.check_reading.specs.declared.words.word.Role.TheVariants as RoleV
use Rattle.check_text.specs.declared.site_faults.code.SiteCode.{SiteCode}
use Rattle.check_text.specs.declared.site_faults.code.SiteCode.TheVariants.{Undefined, Arity, GroupAsType, HashForm, UnknownControl}

-- of a name, however it is used
abbrev pub OfName : Type 0 → Role → Type 0
OfName B (RoleV.Name b) = B
OfName B (RoleV.Unwrapped b u) = B
OfName B RoleV.ChosenFrom = B
OfName B _ = ⊥

-- a name that nothing of these definitions defines, in the rule r
abbrev pub IsUndefinedName : List Definition → S.Rule → Text → Type 0
IsUndefinedName ds r n = (is_parameter r n ≡ false) × (is_socket n ≡ false) × (definitions_of ds n ≡ [])

-- a wrong number of arguments; a parameter has none

abbrev pub count_wanted : List Definition → S.Rule → Text → Option ℕ
count_wanted ds r n = if is_parameter r n then Some 0 else parameter_count ds n

abbrev pub is_other_than : Option ℕ → ℕ → Bool
is_other_than None m = false
is_other_than (Some k) m = not (nat_eq m k)

-- a name that has to be of one kind alone, and is of the other
abbrev pub kind_of_name : List Definition → S.Rule → Text → Bool
kind_of_name ds r n = if is_parameter r n then false else is_group ds n

abbrev pub IsWrongKind : List Definition → S.Rule → Text → Role → Type 0
IsWrongKind ds r n (RoleV.Name true) = kind_of_name ds r n ≡ true
IsWrongKind ds r n RoleV.ChosenFrom = kind_of_name ds r n ≡ false
IsWrongKind ds r n _ = ⊥

-- a `#` that stands for nothing
abbrev pub IsWrongHash : Text → Role → Type 0
IsWrongHash n RoleV.Hash = IsBadHash (hash_form n)
IsWrongHash n _ = ⊥

-- a control that is not known
abbrev pub IsWrongControl : Text → Role → Type 0
IsWrongControl n RoleV.Control = control_of n ≡ None
IsWrongControl n _ = ⊥

-- the code stands at this word of a rule, where the text has these definitions
abbrev pub IsWrongWord : SiteCode → List Definition → S.Rule → Said → Type 0
IsWrongWord Undefined ds r x = OfName (IsUndefinedName ds r x.text) x.role
IsWrongWord Arity ds r x = OfName (is_other_than (count_wanted ds r x.text) x.arguments ≡ true) x.role
IsWrongWord GroupAsType ds r x = IsWrongKind ds r x.text x.role
IsWrongWord HashForm ds r x = IsWrongHash x.text x.role
IsWrongWord UnknownControl ds r x = IsWrongControl x.text x.role

abbrev pub IsToldAtWord : SiteCode → List Definition → S.Rule → Said → ℕ → Type 0
IsToldAtWord code ds r x at = IsWrongWord code ds r x × (at ≡ x.at)

-- C4, of what is reported at names
pub data HasWrongArityAtName (s : Specification) (at : ℕ) : Type 0 where
  by_name : {r : S.Rule} {f : S.Ref} {k : ℕ} → HasName s r f → is_parameter r (ref_name f) ≡ false → parameter_count (definitions s) (ref_name f) ≡ Some k → length (arguments f) ≢ k → at ≡ (ref_token f).start → HasWrongArityAtName s at
  by_parameter : {r : S.Rule} {f : S.Ref} → HasName s r f → is_parameter r (ref_name f) ≡ true → arguments f ≢ [] → at ≡ (ref_token f).start → HasWrongArityAtName s at

-- the code stands anywhere in the text
abbrev pub IsToldAtSites : SiteCode → Specification → ℕ → Type 0
IsToldAtSites Undefined s at = IsUndefined s at
IsToldAtSites Arity s at = HasWrongArityAtName s at
IsToldAtSites GroupAsType s at = HasGroupAsType s at
IsToldAtSites HashForm s at = HasBadHash s at
IsToldAtSites UnknownControl s at = HasUnknownControl s at
