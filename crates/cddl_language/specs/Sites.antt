-- The sites of a specification's text where something can be wrong, with their tokens; and which of them a root reaches.
use Rattle.std.specs.Prelude.{◌≡◌, ℕ, Bool, true, false, if◌then◌else◌, List, [], ◌∷◌, ◌++◌, Contains, Option, Some, None, slice_get}
use Rattle.cddl_token.specs.declared.Token.{Token}
use Rattle.tree_nodes.specs.Syntax.Syntax as S
use Rattle.cddl_language.specs.Terms.{Text, Term, Ref, name_of, arguments_of}
use Rattle.cddl_language.specs.Reading.{ref_of, name_in, parameters_in, definitions_in}
use Rattle.cddl_language.specs.Environment.{is_in}
use Rattle.cddl_language.specs.Substitution.{fill_ref}
use Rattle.cddl_language.specs.Reach.{Reaches}

-- The flag says whether a type is demanded there: anywhere but as an entry without key, or a body after `=`, that is one
-- name or `~` and one name, in any number of parentheses.
pub data Site : Type 0 where
  a_name : (demanded : Bool) → S.Ref → Site
  an_unwrapping : (demanded : Bool) → Token → S.Ref → Site
  a_choice_of : Token → S.Group → Site
  a_choice_of_name : Token → S.Ref → Site
  a_hash : Token → Site
  an_operation : S.Type2 → S.Operator → S.Type2 → Site
  an_entry : S.GrpEnt → Site
  a_map : Token → S.Group → Site

-- the arguments, in order
abbrev pub argument_list : S.GenericArg → List S.Type1
argument_list (S.argument r) = r ∷ []
argument_list (S.arguments a c r) = argument_list a ++ r ∷ []

abbrev pub arguments : S.Ref → List S.Type1
arguments (S.name t) = []
arguments (S.applied o a c) = argument_list a

-- the name's token
abbrev pub ref_token : S.Ref → Token
ref_token (S.name t) = t
ref_token (S.applied o a c) = o

abbrev pub ref_name : S.Ref → Text
ref_name r = name_of (ref_of r)

-- The sites of a tree, in the order of the text; with those inside arguments, or without.
module _ (inside : Bool) where
  abbrev mutual
    pub in_types : Bool → S.Types → List Site
    in_types b (S.only r) = in_type1 b r
    in_types b (S.or t s r) = in_types true t ++ in_type1 true r

    pub in_type1 : Bool → S.Type1 → List Site
    in_type1 b (S.one x) = in_type2 b x
    in_type1 b (S.operation x o y) = an_operation x o y ∷ (in_type2 true x ++ in_type2 true y)

    pub in_type2 : Bool → S.Type2 → List Site
    in_type2 b (S.literal v) = []
    in_type2 b (S.typename r) = a_name b r ∷ in_ref r
    in_type2 b (S.parens o t c) = in_types b t
    in_type2 b (S.map_of o g c) = a_map o g ∷ in_group g
    in_type2 b (S.array_of o g c) = in_group g
    in_type2 b (S.unwrapped u r) = an_unwrapping b u r ∷ in_ref r
    in_type2 b (S.choice_of a o g c) = a_choice_of a g ∷ in_group g
    in_type2 b (S.choice_of_name a r) = a_choice_of_name a r ∷ in_ref r
    in_type2 b (S.tagged o t c) = in_types true t
    in_type2 b (S.tagged_by o h a p t c) = in_types true h ++ in_types true t
    in_type2 b (S.simple_by o h c) = in_types true h
    in_type2 b (S.hash t) = a_hash t ∷ []

    pub in_ref : S.Ref → List Site
    in_ref (S.name t) = []
    in_ref (S.applied o a c) = if inside then in_arguments a else []

    pub in_arguments : S.GenericArg → List Site
    in_arguments (S.argument r) = in_type1 true r
    in_arguments (S.arguments a c r) = in_arguments a ++ in_type1 true r

    pub in_group : S.Group → List Site
    in_group (S.sole es) = in_entries es
    in_group (S.orelse g s es) = in_group g ++ in_entries es

    pub in_entries : S.GrpChoice → List Site
    in_entries S.no_entries = []
    in_entries (S.entries es e c) = in_entries es ++ in_entry e

    pub in_entry : S.GrpEnt → List Site
    in_entry (S.typed o t) = an_entry (S.typed o t) ∷ in_types false t
    in_entry (S.keyed o k t) = an_entry (S.keyed o k t) ∷ (in_key k ++ in_types true t)
    in_entry (S.grouped o p g c) = an_entry (S.grouped o p g c) ∷ in_group g

    pub in_key : S.MemberKey → List Site
    in_key (S.type_key r u a) = in_type1 true r
    in_key (S.bareword n c) = []
    in_key (S.value_key v c) = []

  -- after `/=` a type is demanded
  abbrev pub demands_type : S.AssignT → Bool
  demands_type (S.type_is t) = false
  demands_type (S.type_or t) = true

  abbrev pub in_rule : S.Rule → List Site
  in_rule (S.type_rule n a t) = in_types (demands_type a) t
  in_rule (S.group_rule n a e) = in_entry e

-- all sites of a rule, and those outside of arguments
abbrev pub sites : S.Rule → List Site
sites r = in_rule true r

abbrev pub outer_sites : S.Rule → List Site
outer_sites r = in_rule false r

-- the reference at a site
abbrev pub ref_at_site : Site → Option S.Ref
ref_at_site (a_name b r) = Some r
ref_at_site (an_unwrapping b u r) = Some r
ref_at_site (a_choice_of_name a r) = Some r
ref_at_site _ = None

abbrev pub is_parameter : S.Rule → Text → Bool
is_parameter r n = is_in (parameters_in r) n

-- The sites that a root reaches, in a rule and an instance of its name: that of these closed arguments.
module _ (rs : List S.Rule) (root : Text) where
  -- The closed reference is an instance, and the rule is one of its name.
  pub record IsInstance (r : S.Rule) (i : Ref) : Type 0 where
    pub reached : Reaches (definitions_in rs) root i
    pub named : name_of i ≡ name_in r
    pub present : Contains rs r

  -- the arguments of a reference that stands in the instance of the rule r with the arguments xs
  abbrev pub closed_arguments : S.Rule → List Term → S.Ref → List Term
  closed_arguments r xs f = arguments_of (fill_ref (parameters_in r) xs (ref_of f))

  mutual
    -- A site in an argument is reached only where the argument is used (section 3.10).
    pub data IsReached : S.Rule → List Term → Site → Type 0 where
      in_body : {r : S.Rule} {i : Ref} {p : Site} → IsInstance r i → Contains (outer_sites r) p → IsReached r (arguments_of i) p
      in_argument : {r : S.Rule} {xs : List Term} {q p : Site} {f : S.Ref} {x : S.Type1} → IsReached r xs q → ref_at_site q ≡ Some f → IsUsed r xs f x → Contains (in_type1 false true x) p → IsReached r xs p

    -- A rule s of the reference's name refers, at a site u that is reached, to the parameter that the argument is put for.
    pub data IsUsed : S.Rule → List Term → S.Ref → S.Type1 → Type 0 where
      used : {r s : S.Rule} {xs : List Term} {u : Site} {f g : S.Ref} {x : S.Type1} → (k : ℕ) → is_parameter r (ref_name f) ≡ false → name_in s ≡ ref_name f → IsReached s (closed_arguments r xs f) u → ref_at_site u ≡ Some g → slice_get (parameters_in s) k ≡ Some (ref_name g) → slice_get (arguments f) k ≡ Some x → IsUsed r xs f x
