-- What is wrong with a specification, and at which byte. The faults to `UnknownControl` are looked for in the whole text,
-- the others in what the root reaches. The sections are RFC 8610's.
use Rattle.std.specs.Prelude.{◌≡◌, ◌≢◌, ℕ, ◌<◌, ◌≤◌, ◌⊎◌, Bool, true, false, if◌then◌else◌, ◌&&◌, List, [], ◌∷◌, length, Contains, AllPairs, Option, Some, None, is_some, Err, slice_get}
use Rattle.cddl_token.specs.declared.Token.{Token}
use Rattle.cddl_token.specs.declared.Code.{Code}
use Rattle.cddl_token.specs.declared.Code.TheVariants.{Duplicate, KindClash, Undefined, Arity, NoRoot, BadRoot, GroupAsType, HashForm, UnknownControl, TooManyInstances, NotUnwrappable, Recursion, NotLiteral, BadRange, BadController, NoKey, MapShape, TooManyAlternatives}
use Rattle.tree_nodes.specs.Syntax.Syntax as S
use Rattle.cddl_meaning.specs.Forms.{Most, at_most, any_number_of}
use Rattle.cddl_language.specs.Numbers as N
use Rattle.cddl_language.specs.Numbers.{hash_form, least_of, most_of}
use Rattle.cddl_language.specs.Terms.{Text, Term, Ref, Group, Definition, name_of}
use Rattle.cddl_language.specs.Reading.{text_of, first_start, control_name, occurrence, term_of2, ref_of, group_of, rule_head, name_in, name_at, parameters_in, parameter_tokens, sign_of, definition_of, rules_of, definitions_in}
use Rattle.cddl_literal.specs.Numbers.{Meaning}
use Rattle.cddl_literal.specs.declared.operators.Fault.TheVariants.{OutOfRange, NotUtf8}
use Rattle.cddl_literal.specs.Operators.Joins.{string_of}
use Rattle.cddl_literal.specs.Operators.Sums.{number_of as summand}
use Rattle.cddl_language.specs.Controls.{Comparison, is_ordering, control_of, comparison_in, Computation, sum, join, computation_in, Membership, membership_in}
use Rattle.cddl_language.specs.Environment.{is_same, is_equals, named_so, definitions_of, is_in_prelude, is_socket}
use Rattle.cddl_language.specs.Substitution.{fill, fill_ref, fill_group}
use Rattle.cddl_language.specs.Kinds.{Opened, opens_group, opened, is_group, is_group_definition}
use Rattle.cddl_language.specs.Reach.{Reaches, Point, ref_at, most_instances}
use Rattle.cddl_language.specs.Literals.{Values, whole, whole_of, computed_from, literal_of}
use Rattle.cddl_language.specs.Sizes.{Sizes, members_of}
use Rattle.cddl_language.specs.Choices.{chosen, chosen_by_name}
use Rattle.cddl_language.specs.Free.{IsOnCycle}
use Rattle.cddl_language.specs.MapFaults.{HasNoKey, HasMapShape, HasTooManyAlternatives}
use Rattle.cddl_language.specs.Sites.{Site, a_name, an_unwrapping, a_choice_of, a_choice_of_name, a_hash, an_operation, an_entry, arguments, ref_token, ref_name, sites, ref_at_site, is_parameter, IsReached}

-- a tree, and the name that was given as its root, if one was
pub record Specification : Type 0 where
  pub tree : S.Cddl
  pub given : Option Text

abbrev pub rules : Specification → List S.Rule
rules s = rules_of s.tree

abbrev pub definitions : Specification → List Definition
definitions s = definitions_in (rules s)

-- The root: the name that was given, or that of the first rule.
abbrev pub first_name : List S.Rule → Option Text
first_name [] = None
first_name (r ∷ rs) = Some (name_in r)

abbrev pub root_or : Option Text → List S.Rule → Option Text
root_or None rs = first_name rs
root_or (Some n) rs = Some n

abbrev pub root_of : Specification → Option Text
root_of s = root_or s.given (rules s)

-- the first rule of a name, and its first by `=`
abbrev pub first_rule : List S.Rule → Text → Option S.Rule
first_rule [] n = None
first_rule (r ∷ rs) n = if is_same (name_in r) n then Some r else first_rule rs n

abbrev pub first_equals : List S.Rule → Text → Option S.Rule
first_equals [] n = None
first_equals (r ∷ rs) n = if is_same (name_in r) n && is_equals (sign_of r) then Some r else first_equals rs n

-- a site anywhere in the text, in the rule r
pub record HasSite (s : Specification) (r : S.Rule) (p : Site) : Type 0 where
  pub rule : Contains (rules s) r
  pub site : Contains (sites r) p

-- a name anywhere in the text: by itself, after `~` or after `&`
pub record HasName (s : Specification) (r : S.Rule) (f : S.Ref) : Type 0 where
  pub at : Site
  pub found : HasSite s r at
  pub name : ref_at_site at ≡ Some f

-- C1: a further `=` that says something else than the name's first one (section 2.2.2 has one for each name); or a
-- parameter twice in one list.
pub data IsDuplicate (s : Specification) (at : ℕ) : Type 0 where
  other_equals : {q r : S.Rule} → Contains (rules s) r → is_equals (sign_of r) ≡ true → first_equals (rules s) (name_in r) ≡ Some q → definition_of r ≢ definition_of q → at ≡ name_at r → IsDuplicate s at
  parameter_twice : {r : S.Rule} {t u : Token} {j k : ℕ} → Contains (rules s) r → j < k → slice_get (parameter_tokens (rule_head r)) j ≡ Some t → slice_get (parameter_tokens (rule_head r)) k ≡ Some u → text_of t ≡ text_of u → at ≡ u.start → IsDuplicate s at

-- C2: a definition of another kind than its name has (sections 2.2.2 and 3.9).
pub record IsKindClash (s : Specification) (at : ℕ) : Type 0 where
  pub rule : S.Rule
  pub present : Contains (rules s) rule
  pub clash : is_group_definition (definitions s) (definition_of rule) ≢ is_group (definitions s) (name_in rule)
  pub offset : at ≡ name_at rule

-- C3: a name that nothing defines, and that is no parameter and no socket.
pub record IsUndefined (s : Specification) (at : ℕ) : Type 0 where
  pub rule : S.Rule
  pub ref : S.Ref
  pub found : HasName s rule ref
  pub no_parameter : is_parameter rule (ref_name ref) ≡ false
  pub no_socket : is_socket (ref_name ref) ≡ false
  pub no_definition : definitions_of (definitions s) (ref_name ref) ≡ []
  pub offset : at ≡ (ref_token ref).start

-- How many parameters a name has: none where it is the prelude's, else those of its first definition. A socket without a
-- definition may have any number of arguments.
abbrev pub first_count : List Definition → Option ℕ
first_count [] = None
first_count (d ∷ ds) = Some (length d.parameters)

abbrev pub parameter_count : List Definition → Text → Option ℕ
parameter_count ds n = if is_in_prelude n then Some 0 else first_count (named_so n ds)

-- C4: another number of arguments than of parameters; arguments of a parameter; definitions of one name with different
-- numbers of parameters (section 3.10).
pub data HasWrongArity (s : Specification) (at : ℕ) : Type 0 where
  by_rule : {r : S.Rule} {k : ℕ} → Contains (rules s) r → parameter_count (definitions s) (name_in r) ≡ Some k → length (parameters_in r) ≢ k → at ≡ name_at r → HasWrongArity s at
  by_name : {r : S.Rule} {f : S.Ref} {k : ℕ} → HasName s r f → is_parameter r (ref_name f) ≡ false → parameter_count (definitions s) (ref_name f) ≡ Some k → length (arguments f) ≢ k → at ≡ (ref_token f).start → HasWrongArity s at
  by_parameter : {r : S.Rule} {f : S.Ref} → HasName s r f → is_parameter r (ref_name f) ≡ true → arguments f ≢ [] → at ≡ (ref_token f).start → HasWrongArity s at

-- C5: no rule and no given name; or a given name that nothing defines.
pub data HasNoRoot (s : Specification) (at : ℕ) : Type 0 where
  no_rule : root_of s ≡ None → at ≡ 0 → HasNoRoot s at
  no_such : {n : Text} → root_of s ≡ Some n → definitions_of (definitions s) n ≡ [] → at ≡ 0 → HasNoRoot s at

-- C6: the root is a group, or has parameters.
pub record HasBadRoot (s : Specification) (at : ℕ) : Type 0 where
  pub root : Text
  pub rule : S.Rule
  pub rooted : root_of s ≡ Some root
  pub first : first_rule (rules s) root ≡ Some rule
  pub bad : (is_group (definitions s) root ≡ true) ⊎ (parameters_in rule ≢ [])
  pub offset : at ≡ name_at rule

-- whether the reference names a group, in the rule r; a parameter is a type
abbrev pub names_a_group : Specification → S.Rule → S.Ref → Bool
names_a_group s r f = if is_parameter r (ref_name f) then false else is_group (definitions s) (ref_name f)

-- C7: the name of a group where a type is demanded; or that of a type after `&`.
pub data HasGroupAsType (s : Specification) (at : ℕ) : Type 0 where
  group_name : {r : S.Rule} {f : S.Ref} → HasSite s r (a_name true f) → names_a_group s r f ≡ true → at ≡ (ref_token f).start → HasGroupAsType s at
  type_name : {r : S.Rule} {t : Token} {f : S.Ref} → HasSite s r (a_choice_of_name t f) → names_a_group s r f ≡ false → at ≡ (ref_token f).start → HasGroupAsType s at

-- C8: `#8`, `#9`; `#d.n` with another d than 7; `#7.n` with 24, with 28 to 31, or over 255 (sections 2.2.3 and 3.6, RFC 8949
-- section 3.3; left out are `#6.n` without content and `#0.n` to `#5.n`).
abbrev pub IsBadHash : N.HashForm → Type 0
IsBadHash N.any_item = ⊥
IsBadHash (N.major d) = 7 < d
IsBadHash (N.numbered d n) = (d ≢ 7) ⊎ ((n ≡ 24) ⊎ (((27 < n) × (n < 32)) ⊎ (255 < n)))

pub record HasBadHash (s : Specification) (at : ℕ) : Type 0 where
  pub rule : S.Rule
  pub token : Token
  pub found : HasSite s rule (a_hash token)
  pub bad : IsBadHash (hash_form (text_of token))
  pub offset : at ≡ token.start

-- C9: a control that is not known (section 3.8; RFC 9165).
pub record HasUnknownControl (s : Specification) (at : ℕ) : Type 0 where
  pub rule : S.Rule
  pub left : S.Type2
  pub token : Token
  pub right : S.Type2
  pub found : HasSite s rule (an_operation left (S.control token) right)
  pub unknown : control_of (control_name token) ≡ None
  pub offset : at ≡ token.start

-- C10: more instances than may be: a limit of this program.
pub record HasTooManyInstances (s : Specification) (root : Text) (at : ℕ) : Type 0 where
  pub instances : List Ref
  pub reached : (r : Ref) → Contains instances r → Reaches (definitions s) root r
  pub distinct : AllPairs (λ (q r : Ref). q ≢ r) instances
  pub many : most_instances < length instances
  pub offset : at ≡ 0

-- what a site in the rule r opens, where its instance has the arguments xs
abbrev pub opened_there : Specification → S.Rule → List Term → S.Ref → Option Opened
opened_there s r xs f = if is_parameter r (ref_name f) then None else opened (definitions s) (fill_ref (parameters_in r) xs (ref_of f))

-- C11: `~` that unwraps nothing, or a group where a type is demanded (section 3.7); `&` of what it cannot choose from (section
-- 2.2.2.2).
pub data HasNotUnwrappable (s : Specification) (root : Text) (at : ℕ) : Type 0 where
  opens_nothing : {r : S.Rule} {xs : List Term} {b : Bool} {t : Token} {f : S.Ref} → IsReached (rules s) root r xs (an_unwrapping b t f) → opened_there s r xs f ≡ None → at ≡ t.start → HasNotUnwrappable s root at
  opens_group_as_type : {r : S.Rule} {xs : List Term} {t : Token} {f : S.Ref} {g : Group} → IsReached (rules s) root r xs (an_unwrapping true t f) → opened_there s r xs f ≡ Some (opens_group g) → at ≡ t.start → HasNotUnwrappable s root at
  chooses_from_none : {r : S.Rule} {xs : List Term} {t : Token} {g : S.Group} → IsReached (rules s) root r xs (a_choice_of t g) → chosen (definitions s) (fill_group (parameters_in r) xs (group_of g)) ≡ None → at ≡ t.start → HasNotUnwrappable s root at
  chooses_from_no_name : {r : S.Rule} {xs : List Term} {t : Token} {f : S.Ref} → IsReached (rules s) root r xs (a_choice_of_name t f) → chosen_by_name (definitions s) (fill_ref (parameters_in r) xs (ref_of f)) ≡ None → at ≡ t.start → HasNotUnwrappable s root at

-- the first rule of a name on a cycle of free references
pub record IsRuleOnCycle (s : Specification) (root : Text) (rule : S.Rule) : Type 0 where
  pub point : Point
  pub cycle : IsOnCycle (definitions s) root point
  pub first : first_rule (rules s) (name_of (ref_at point)) ≡ Some rule

-- C12: a free reference that comes back to itself. It is reported at the first definition of a name on the cycle. Where the text has
-- none of any such name, as of `bytes` in `bstr = [~bytes]`, it is reported at the first byte.
pub data HasRecursion (s : Specification) (root : Text) (at : ℕ) : Type 0 where
  at_rule : {r : S.Rule} → IsRuleOnCycle s root r → at ≡ name_at r → HasRecursion s root at
  without_rule : {p : Point} → IsOnCycle (definitions s) root p → ((r : S.Rule) → IsRuleOnCycle s root r → ⊥) → at ≡ 0 → HasRecursion s root at

-- the offset of the first token of an operand
abbrev pub operand_at : S.Type2 → ℕ
operand_at x = first_start (S.flat_type2 x)

-- the operand of a site in the rule r is no whole number, where its instance has the arguments xs
abbrev pub IsNotWhole : Specification → Values → S.Rule → List Term → S.Type2 → Type 0
IsNotWhole s worth r xs x = whole_of worth (definitions s) (fill (parameters_in r) xs (term_of2 x)) ≡ None

-- the value that it is, if it is a literal
abbrev pub literal_there : Specification → Values → S.Rule → List Term → S.Type2 → Option Meaning
literal_there s worth r xs x = literal_of worth (definitions s) (fill (parameters_in r) xs (term_of2 x))

-- how an operator compares an item with its controller, if it does
abbrev pub comparison_of : S.Operator → Option Comparison
comparison_of (S.control t) = comparison_in (control_of (control_name t))
comparison_of _ = None

-- how it computes a literal from both sides, if it does
abbrev pub computation_of : S.Operator → Option Computation
computation_of (S.control t) = computation_in (control_of (control_name t))
computation_of _ = None

-- of which numbers of an item it asks whether they are members, if it does
abbrev pub membership_of : S.Operator → Option Membership
membership_of (S.control t) = membership_in (control_of (control_name t))
membership_of _ = None

-- a literal that a computation takes: a whole number for a sum, a string for a join (RFC 9165 section 2)
abbrev pub is_operand : Computation → Option Meaning → Bool
is_operand sum (Some v) = is_some (summand v)
is_operand (join j) (Some v) = is_some (string_of v)
is_operand c None = false

-- the members that a controller of `.size` or `.bits` has, if it is one
abbrev pub members_there : Specification → Values → S.Rule → List Term → Membership → S.Type2 → Option Sizes
members_there s worth r xs m y = members_of m worth (definitions s) (fill (parameters_in r) xs (term_of2 y))

-- C13: a controller with which an item is compared and that is no literal (section 3.8.6); an operand that a computation does
-- not take; a sum out of range, or a join that is too long (RFC 9165 section 2).
pub data HasNotLiteral (s : Specification) (worth : Values) (root : Text) (at : ℕ) : Type 0 where
  comparand : {r : S.Rule} {xs : List Term} {x y : S.Type2} {o : S.Operator} {c : Comparison} → IsReached (rules s) root r xs (an_operation x o y) → comparison_of o ≡ Some c → literal_there s worth r xs y ≡ None → at ≡ operand_at y → HasNotLiteral s worth root at
  left_operand : {r : S.Rule} {xs : List Term} {x y : S.Type2} {o : S.Operator} {c : Computation} → IsReached (rules s) root r xs (an_operation x o y) → computation_of o ≡ Some c → is_operand c (literal_there s worth r xs x) ≡ false → at ≡ operand_at x → HasNotLiteral s worth root at
  right_operand : {r : S.Rule} {xs : List Term} {x y : S.Type2} {o : S.Operator} {c : Computation} → IsReached (rules s) root r xs (an_operation x o y) → computation_of o ≡ Some c → is_operand c (literal_there s worth r xs y) ≡ false → at ≡ operand_at y → HasNotLiteral s worth root at
  out_of_range : {r : S.Rule} {xs : List Term} {x y : S.Type2} {o : S.Operator} {c : Computation} {u v : Meaning} →
      IsReached (rules s) root r xs (an_operation x o y) → computation_of o ≡ Some c →
      literal_there s worth r xs x ≡ Some u → literal_there s worth r xs y ≡ Some v → computed_from c u v ≡ Err OutOfRange → at ≡ operand_at y → HasNotLiteral s worth root at

-- C15: a controller that is a literal and no whole number, where the control asks for the order of numbers (section 3.8.6); one
-- of `.size` or `.bits` that has no members as they have to be (sections 3.8.1 and 3.8.2); a joined text that is not UTF-8
-- (RFC 9165 section 2.2).
pub data HasBadController (s : Specification) (worth : Values) (root : Text) (at : ℕ) : Type 0 where
  no_number : {r : S.Rule} {xs : List Term} {x y : S.Type2} {o : S.Operator} {c : Comparison} {v : Meaning} → IsReached (rules s) root r xs (an_operation x o y) → comparison_of o ≡ Some c → is_ordering c ≡ true → literal_there s worth r xs y ≡ Some v → whole (Some v) ≡ None → at ≡ operand_at y → HasBadController s worth root at
  no_members : {r : S.Rule} {xs : List Term} {x y : S.Type2} {o : S.Operator} {m : Membership} → IsReached (rules s) root r xs (an_operation x o y) → membership_of o ≡ Some m → members_there s worth r xs m y ≡ None → at ≡ operand_at y → HasBadController s worth root at
  not_utf8 : {r : S.Rule} {xs : List Term} {x y : S.Type2} {o : S.Operator} {c : Computation} {u v : Meaning} →
      IsReached (rules s) root r xs (an_operation x o y) → computation_of o ≡ Some c →
      literal_there s worth r xs x ≡ Some u → literal_there s worth r xs y ≡ Some v → computed_from c u v ≡ Err NotUtf8 → at ≡ operand_at y → HasBadController s worth root at

abbrev pub is_range_sign : S.Operator → Bool
is_range_sign (S.range t) = true
is_range_sign (S.range_below t) = true
is_range_sign (S.control t) = false

-- the occurrence of an entry
abbrev pub occur_token : S.GrpEnt → Option Token
occur_token (S.typed o t) = o
occur_token (S.keyed o k t) = o
occur_token (S.grouped o p g c) = o

abbrev pub IsOver : ℕ → Most → Type 0
IsOver least (at_most n) = n < least
IsOver least any_number_of = ⊥

-- C14: an end of a range that is no whole number (section 2.2.2.1); an occurrence with a minimum over its maximum (section
-- 3.2).
pub data HasBadRange (s : Specification) (worth : Values) (root : Text) (at : ℕ) : Type 0 where
  first_end : {r : S.Rule} {xs : List Term} {x y : S.Type2} {o : S.Operator} → IsReached (rules s) root r xs (an_operation x o y) → is_range_sign o ≡ true → IsNotWhole s worth r xs x → at ≡ operand_at x → HasBadRange s worth root at
  last_end : {r : S.Rule} {xs : List Term} {x y : S.Type2} {o : S.Operator} → IsReached (rules s) root r xs (an_operation x o y) → is_range_sign o ≡ true → IsNotWhole s worth r xs y → at ≡ operand_at y → HasBadRange s worth root at
  bounds : {r : S.Rule} {xs : List Term} {e : S.GrpEnt} {t : Token} → IsReached (rules s) root r xs (an_entry e) → occur_token e ≡ Some t → IsOver (least_of (occurrence (Some t))) (most_of (occurrence (Some t))) → at ≡ t.start → HasBadRange s worth root at

-- The faults by their codes.

-- with the root, where there is one
abbrev pub OfRoot : Option Text → (Text → Type 0) → Type 0
OfRoot None P = ⊥
OfRoot (Some n) P = P n

abbrev pub IsFaultAt : Specification → Values → Code → ℕ → Type 0
IsFaultAt s worth Duplicate at = IsDuplicate s at
IsFaultAt s worth KindClash at = IsKindClash s at
IsFaultAt s worth Undefined at = IsUndefined s at
IsFaultAt s worth Arity at = HasWrongArity s at
IsFaultAt s worth NoRoot at = HasNoRoot s at
IsFaultAt s worth BadRoot at = HasBadRoot s at
IsFaultAt s worth GroupAsType at = HasGroupAsType s at
IsFaultAt s worth HashForm at = HasBadHash s at
IsFaultAt s worth UnknownControl at = HasUnknownControl s at
IsFaultAt s worth TooManyInstances at = OfRoot (root_of s) (λ n. HasTooManyInstances s n at)
IsFaultAt s worth NotUnwrappable at = OfRoot (root_of s) (λ n. HasNotUnwrappable s n at)
IsFaultAt s worth Recursion at = OfRoot (root_of s) (λ n. HasRecursion s n at)
IsFaultAt s worth NotLiteral at = OfRoot (root_of s) (λ n. HasNotLiteral s worth n at)
IsFaultAt s worth BadController at = OfRoot (root_of s) (λ n. HasBadController s worth n at)
IsFaultAt s worth BadRange at = OfRoot (root_of s) (λ n. HasBadRange s worth n at)
IsFaultAt s worth NoKey at = OfRoot (root_of s) (λ n. HasNoKey (rules s) n at)
IsFaultAt s worth MapShape at = OfRoot (root_of s) (λ n. HasMapShape (rules s) n at)
IsFaultAt s worth TooManyAlternatives at = OfRoot (root_of s) (λ n. HasTooManyAlternatives (rules s) n at)
IsFaultAt s worth _ at = ⊥

-- the number of a code, as it is printed
abbrev pub number_of : Code → ℕ
number_of Duplicate = 1
number_of KindClash = 2
number_of Undefined = 3
number_of Arity = 4
number_of NoRoot = 5
number_of BadRoot = 6
number_of GroupAsType = 7
number_of HashForm = 8
number_of UnknownControl = 9
number_of TooManyInstances = 10
number_of NotUnwrappable = 11
number_of Recursion = 12
number_of NotLiteral = 13
number_of BadRange = 14
number_of BadController = 15
number_of NoKey = 16
number_of MapShape = 17
number_of TooManyAlternatives = 18
number_of _ = 0

-- The fault that is reported: of the lowest code that stands anywhere, the least offset.
pub record IsRefused (s : Specification) (worth : Values) (code : Code) (at : ℕ) : Type 0 where
  pub present : IsFaultAt s worth code at
  pub lowest : (d : Code) (p : ℕ) → IsFaultAt s worth d p → number_of code ≤ number_of d
  pub least : (p : ℕ) → IsFaultAt s worth code p → at ≤ p

-- a specification without faults
abbrev pub IsAccepted : Specification → Values → Type 0
IsAccepted s worth = (c : Code) (p : ℕ) → IsFaultAt s worth c p → ⊥
