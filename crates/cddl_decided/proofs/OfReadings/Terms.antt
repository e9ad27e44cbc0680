-- Where the texts of a tree's tokens stand in memory, its terms do not tell, and its sites are the same but for that.
use Rattle.std.proofs.Common.{◌≡◌, ℕ, ◌<◌, Bool, true, false, if◌then◌else◌, List, [], ◌∷◌, ◌++◌, map, Option, Some, None, refl, sym, ap, ◌∙◌, subst}
use Rattle.std.specs.Prelude.{Contains, is_some, option_map}
use Rattle.std.proofs.lemmas.List.{map-append, get_or-map, length-map}
use Rattle.cddl_token.specs.declared.Token.{Token}
use Rattle.tree_nodes.specs.Syntax.Syntax as S
use Rattle.cddl_language.specs.Environment.{is_in}
use Rattle.cddl_language.specs.Reading.{body_of, definition_of, definitions_in, entries_of, entry_of, first_start, followed, group_of, key_of, literal_of, name_at, name_in, name_token, occurrence, opened_name, operation, parameter_tokens, parameters_in, parameters_of, ref_of, rule_head, rule_list, rule_name, rules_of, sign_of, term_of, term_of1, term_of2, terms_of, text_of, texts_of}
use Rattle.cddl_language.specs.Sites.{Site, a_choice_of, a_choice_of_name, a_hash, a_map, a_name, an_entry, an_operation, an_unwrapping, argument_list, arguments, in_arguments, in_entries, in_entry, in_group, in_key, in_ref, in_rule, in_type1, in_type2, in_types, is_parameter, ref_at_site, ref_name, ref_token}
use Rattle.cddl_language.specs.Terms as T
use Rattle.cddl_language.specs.Terms.{Body, Definition, Sign, Text, name_of}
use Rattle.cddl_decided.proofs.OfReadings.Moving.{maybe_moved, move_arg, move_cddl, move_choice, move_entry, move_group, move_key, move_lexeme, move_name, move_operator, move_parm, move_ref, move_rule, move_rules, move_type1, move_type2, move_types, move_value, moved}

pub contains_map : {A B : Type 0} (f : A → B) (xs : List A) (x : A) → Contains xs x → Contains (map f xs) (f x)
contains_map f xs x c = (c.0, subst (λ n. c.0 < n) (sym (length-map xs f)) c.1, get_or-map f xs c.0 x (f x) c.1 ∙ ap f c.2)

pub two : {A B C : Type 0} (f : A → B → C) {a b : A} {x y : B} → a ≡ b → x ≡ y → f a x ≡ f b y
two f {b = b} {x = x} p q = ap (λ v. f v x) p ∙ ap (f b) q

module _ (place : Token → ℕ × ℕ) where
  -- Terms.

  occurrence_same : (o : Option Token) → occurrence (maybe_moved place o) ≡ occurrence o
  occurrence_same None = refl
  occurrence_same (Some t) = refl

  some_same : (o : Option Token) → is_some (maybe_moved place o) ≡ is_some o
  some_same None = refl
  some_same (Some t) = refl

  literal_same : (v : S.Value) → literal_of (move_value place v) ≡ literal_of v
  literal_same (S.number t) = refl
  literal_same (S.text t) = refl
  literal_same (S.bytes t) = refl

  operation_same : (x y : T.Term) (o : S.Operator) → operation x (move_operator place o) y ≡ operation x o y
  operation_same x y (S.range t) = refl
  operation_same x y (S.range_below t) = refl
  operation_same x y (S.control t) = refl

  mutual
    pub types_same : (t : S.Types) → term_of (move_types place t) ≡ term_of t
    types_same (S.only r) = type1_same r
    types_same (S.or t s r) = two T.or (types_same t) (type1_same r)

    pub type1_same : (r : S.Type1) → term_of1 (move_type1 place r) ≡ term_of1 r
    type1_same (S.one x) = type2_same x
    type1_same (S.operation x o y) = two (λ a b. operation a (move_operator place o) b) (type2_same x) (type2_same y) ∙ operation_same (term_of2 x) (term_of2 y) o

    pub type2_same : (x : S.Type2) → term_of2 (move_type2 place x) ≡ term_of2 x
    type2_same (S.literal v) = ap T.literal (literal_same v)
    type2_same (S.typename r) = ap T.named (ref_same r)
    type2_same (S.parens o t c) = ap T.parens (types_same t)
    type2_same (S.map_of o g c) = ap T.map_of (group_same g)
    type2_same (S.array_of o g c) = ap T.array_of (group_same g)
    type2_same (S.unwrapped u r) = ap T.unwrapped (ref_same r)
    type2_same (S.choice_of a o g c) = ap T.choice_of (group_same g)
    type2_same (S.choice_of_name a r) = ap T.choice_of_name (ref_same r)
    type2_same (S.tagged o t c) = ap (T.tagged (text_of o)) (types_same t)
    type2_same (S.tagged_by o h a p t c) = two T.tagged_by (types_same h) (types_same t)
    type2_same (S.simple_by o h c) = ap T.simple_by (types_same h)
    type2_same (S.hash t) = refl

    pub ref_same : (r : S.Ref) → ref_of (move_ref place r) ≡ ref_of r
    ref_same (S.name t) = refl
    ref_same (S.applied o a c) = ap (T.call (opened_name o)) (arg_same a)

    arg_same : (a : S.GenericArg) → terms_of (move_arg place a) ≡ terms_of a
    arg_same (S.argument r) = ap (λ t. T.term t T.no_terms) (type1_same r)
    arg_same (S.arguments a c r) = two followed (arg_same a) (type1_same r)

    pub group_same : (g : S.Group) → group_of (move_group place g) ≡ group_of g
    group_same (S.sole es) = ap T.sole (choice_same es)
    group_same (S.orelse g s es) = two T.orelse (group_same g) (choice_same es)

    choice_same : (es : S.GrpChoice) → entries_of (move_choice place es) ≡ entries_of es
    choice_same S.no_entries = refl
    choice_same (S.entries es e c) = two (λ a b. T.entries a b (is_some (maybe_moved place c))) (choice_same es) (entry_same e) ∙ ap (T.entries (entries_of es) (entry_of e)) (some_same c)

    pub entry_same : (e : S.GrpEnt) → entry_of (move_entry place e) ≡ entry_of e
    entry_same (S.typed o t) = two T.typed (occurrence_same o) (types_same t)
    entry_same (S.keyed o k t) = two (λ a b. T.keyed a b (term_of (move_types place t))) (occurrence_same o) (key_same k) ∙ ap (T.keyed (occurrence o) (key_of k)) (types_same t)
    entry_same (S.grouped o p g c) = two T.grouped (occurrence_same o) (group_same g)

    key_same : (k : S.MemberKey) → key_of (move_key place k) ≡ key_of k
    key_same (S.type_key r u a) = two T.of_type (type1_same r) (some_same u)
    key_same (S.bareword n c) = refl
    key_same (S.value_key v c) = ap T.of_value (literal_same v)

  -- Definitions.

  parameters_moved : (p : S.GenericParm) → parameters_of (move_parm place p) ≡ map (moved place) (parameters_of p)
  parameters_moved (S.parameter n) = refl
  parameters_moved (S.parameters p c n) = ap (λ ts. ts ++ moved place n ∷ []) (parameters_moved p) ∙ sym (map-append (moved place) (parameters_of p) (n ∷ []))

  tokens_moved : (n : S.RuleName) → parameter_tokens (move_name place n) ≡ map (moved place) (parameter_tokens n)
  tokens_moved (S.plain n) = refl
  tokens_moved (S.generic o p c) = parameters_moved p

  texts_same : (ts : List Token) → texts_of (map (moved place) ts) ≡ texts_of ts
  texts_same [] = refl
  texts_same (t ∷ ts) = ap (λ xs. text_of t ∷ xs) (texts_same ts)

  head_moved : (r : S.Rule) → rule_head (move_rule place r) ≡ move_name place (rule_head r)
  head_moved (S.type_rule n a t) = refl
  head_moved (S.group_rule n a e) = refl

  pub parameter_tokens_moved : (r : S.Rule) → parameter_tokens (rule_head (move_rule place r)) ≡ map (moved place) (parameter_tokens (rule_head r))
  parameter_tokens_moved r = ap parameter_tokens (head_moved r) ∙ tokens_moved (rule_head r)

  pub parameters_same : (r : S.Rule) → parameters_in (move_rule place r) ≡ parameters_in r
  parameters_same r = ap texts_of (parameter_tokens_moved r) ∙ texts_same (parameter_tokens (rule_head r))

  pub rule_name_same : (n : S.RuleName) → rule_name (move_name place n) ≡ rule_name n
  rule_name_same (S.plain n) = refl
  rule_name_same (S.generic o p c) = refl

  pub name_same : (r : S.Rule) → name_in (move_rule place r) ≡ name_in r
  name_same r = ap rule_name (head_moved r) ∙ rule_name_same (rule_head r)

  start_same : (n : S.RuleName) → (name_token (move_name place n)).start ≡ (name_token n).start
  start_same (S.plain n) = refl
  start_same (S.generic o p c) = refl

  pub name_at_same : (r : S.Rule) → name_at (move_rule place r) ≡ name_at r
  name_at_same r = ap (λ n. (name_token n).start) (head_moved r) ∙ start_same (rule_head r)

  pub sign_same : (r : S.Rule) → sign_of (move_rule place r) ≡ sign_of r
  sign_same (S.type_rule n (S.type_is t) ts) = refl
  sign_same (S.type_rule n (S.type_or t) ts) = refl
  sign_same (S.group_rule n (S.group_is t) e) = refl
  sign_same (S.group_rule n (S.group_or t) e) = refl

  body_same : (r : S.Rule) → body_of (move_rule place r) ≡ body_of r
  body_same (S.type_rule n a t) = ap T.of_types (types_same t)
  body_same (S.group_rule n a e) = ap T.of_entry (entry_same e)

  abbrev a_definition : Text → List Text → Sign → Body → Definition
  a_definition n ps s b = record { name = n; parameters = ps; sign = s; body = b }

  pub definition_same : (r : S.Rule) → definition_of (move_rule place r) ≡ definition_of r
  definition_same r =
      two (λ n ps. a_definition n ps (sign_of (move_rule place r)) (body_of (move_rule place r))) (name_same r) (parameters_same r)
      ∙ two (λ s b. a_definition (name_in r) (parameters_in r) s b) (sign_same r) (body_same r)

  pub definitions_same : (rs : List S.Rule) → definitions_in (map (move_rule place) rs) ≡ definitions_in rs
  definitions_same [] = refl
  definitions_same (r ∷ rs) = two (λ d ds. d ∷ ds) (definition_same r) (definitions_same rs)

  rule_list_moved : (rs : S.Rules) → rule_list (move_rules place rs) ≡ map (move_rule place) (rule_list rs)
  rule_list_moved S.no_rules = refl
  rule_list_moved (S.rules rs r) = ap (λ qs. qs ++ move_rule place r ∷ []) (rule_list_moved rs) ∙ sym (map-append (move_rule place) (rule_list rs) (r ∷ []))

  pub rules_moved : (x : S.Cddl) → rules_of (move_cddl place x) ≡ map (move_rule place) (rules_of x)
  rules_moved (S.cddl rs e) = rule_list_moved rs

  -- Sites.

  abbrev pub move_site : Site → Site
  move_site (a_name b r) = a_name b (move_ref place r)
  move_site (an_unwrapping b u r) = an_unwrapping b (moved place u) (move_ref place r)
  move_site (a_choice_of a g) = a_choice_of (moved place a) (move_group place g)
  move_site (a_choice_of_name a r) = a_choice_of_name (moved place a) (move_ref place r)
  move_site (a_hash t) = a_hash (moved place t)
  move_site (an_operation x o y) = an_operation (move_type2 place x) (move_operator place o) (move_type2 place y)
  move_site (an_entry e) = an_entry (move_entry place e)
  move_site (a_map o g) = a_map (moved place o) (move_group place g)

  join : (xs ys : List Site) {us vs : List Site} → us ≡ map move_site xs → vs ≡ map move_site ys → us ++ vs ≡ map move_site (xs ++ ys)
  join xs ys p q = two (λ ps bs. ps ++ bs) p q ∙ sym (map-append move_site xs ys)

  first : (s : Site) (ys : List Site) {vs : List Site} → vs ≡ map move_site ys → move_site s ∷ vs ≡ map move_site (s ∷ ys)
  first s ys q = ap (λ bs. move_site s ∷ bs) q

  if_same : (b : Bool) (xs : List Site) {us : List Site} → us ≡ map move_site xs → (if b then us else []) ≡ map move_site (if b then xs else [])
  if_same true xs p = p
  if_same false xs p = refl

  module _ (inside : Bool) where
    mutual
      types_sites : (b : Bool) (t : S.Types) → in_types inside b (move_types place t) ≡ map move_site (in_types inside b t)
      types_sites b (S.only r) = type1_sites b r
      types_sites b (S.or t s r) = join (in_types inside true t) (in_type1 inside true r) (types_sites true t) (type1_sites true r)

      pub type1_sites : (b : Bool) (r : S.Type1) → in_type1 inside b (move_type1 place r) ≡ map move_site (in_type1 inside b r)
      type1_sites b (S.one x) = type2_sites b x
      type1_sites b (S.operation x o y) = first (an_operation x o y) (in_type2 inside true x ++ in_type2 inside true y) (join (in_type2 inside true x) (in_type2 inside true y) (type2_sites true x) (type2_sites true y))

      type2_sites : (b : Bool) (x : S.Type2) → in_type2 inside b (move_type2 place x) ≡ map move_site (in_type2 inside b x)
      type2_sites b (S.literal v) = refl
      type2_sites b (S.typename r) = first (a_name b r) (in_ref inside r) (ref_sites r)
      type2_sites b (S.parens o t c) = types_sites b t
      type2_sites b (S.map_of o g c) = first (a_map o g) (in_group inside g) (group_sites g)
      type2_sites b (S.array_of o g c) = group_sites g
      type2_sites b (S.unwrapped u r) = first (an_unwrapping b u r) (in_ref inside r) (ref_sites r)
      type2_sites b (S.choice_of a o g c) = first (a_choice_of a g) (in_group inside g) (group_sites g)
      type2_sites b (S.choice_of_name a r) = first (a_choice_of_name a r) (in_ref inside r) (ref_sites r)
      type2_sites b (S.tagged o t c) = types_sites true t
      type2_sites b (S.tagged_by o h a p t c) = join (in_types inside true h) (in_types inside true t) (types_sites true h) (types_sites true t)
      type2_sites b (S.simple_by o h c) = types_sites true h
      type2_sites b (S.hash t) = refl

      ref_sites : (r : S.Ref) → in_ref inside (move_ref place r) ≡ map move_site (in_ref inside r)
      ref_sites (S.name t) = refl
      ref_sites (S.applied o a c) = if_same inside (in_arguments inside a) (arg_sites a)

      arg_sites : (a : S.GenericArg) → in_arguments inside (move_arg place a) ≡ map move_site (in_arguments inside a)
      arg_sites (S.argument r) = type1_sites true r
      arg_sites (S.arguments a c r) = join (in_arguments inside a) (in_type1 inside true r) (arg_sites a) (type1_sites true r)

      group_sites : (g : S.Group) → in_group inside (move_group place g) ≡ map move_site (in_group inside g)
      group_sites (S.sole es) = choice_sites es
      group_sites (S.orelse g s es) = join (in_group inside g) (in_entries inside es) (group_sites g) (choice_sites es)

      choice_sites : (es : S.GrpChoice) → in_entries inside (move_choice place es) ≡ map move_site (in_entries inside es)
      choice_sites S.no_entries = refl
      choice_sites (S.entries es e c) = join (in_entries inside es) (in_entry inside e) (choice_sites es) (entry_sites e)

      entry_sites : (e : S.GrpEnt) → in_entry inside (move_entry place e) ≡ map move_site (in_entry inside e)
      entry_sites (S.typed o t) = first (an_entry (S.typed o t)) (in_types inside false t) (types_sites false t)
      entry_sites (S.keyed o k t) = first (an_entry (S.keyed o k t)) (in_key inside k ++ in_types inside true t) (join (in_key inside k) (in_types inside true t) (key_sites k) (types_sites true t))
      entry_sites (S.grouped o p g c) = first (an_entry (S.grouped o p g c)) (in_group inside g) (group_sites g)

      key_sites : (k : S.MemberKey) → in_key inside (move_key place k) ≡ map move_site (in_key inside k)
      key_sites (S.type_key r u a) = type1_sites true r
      key_sites (S.bareword n c) = refl
      key_sites (S.value_key v c) = refl

    pub rule_sites : (r : S.Rule) → in_rule inside (move_rule place r) ≡ map move_site (in_rule inside r)
    rule_sites (S.type_rule n (S.type_is a) t) = types_sites false t
    rule_sites (S.type_rule n (S.type_or a) t) = types_sites true t
    rule_sites (S.group_rule n a e) = entry_sites e

  -- References.

  pub ref_name_same : (f : S.Ref) → ref_name (move_ref place f) ≡ ref_name f
  ref_name_same f = ap name_of (ref_same f)

  pub ref_start_same : (f : S.Ref) → (ref_token (move_ref place f)).start ≡ (ref_token f).start
  ref_start_same (S.name t) = refl
  ref_start_same (S.applied o a c) = refl

  argument_list_moved : (a : S.GenericArg) → argument_list (move_arg place a) ≡ map (move_type1 place) (argument_list a)
  argument_list_moved (S.argument r) = refl
  argument_list_moved (S.arguments a c r) = ap (λ rs. rs ++ move_type1 place r ∷ []) (argument_list_moved a) ∙ sym (map-append (move_type1 place) (argument_list a) (r ∷ []))

  pub arguments_moved : (f : S.Ref) → arguments (move_ref place f) ≡ map (move_type1 place) (arguments f)
  arguments_moved (S.name t) = refl
  arguments_moved (S.applied o a c) = argument_list_moved a

  pub ref_at_moved : (p : Site) → ref_at_site (move_site p) ≡ option_map (move_ref place) (ref_at_site p)
  ref_at_moved (a_name b r) = refl
  ref_at_moved (an_unwrapping b u r) = refl
  ref_at_moved (a_choice_of a g) = refl
  ref_at_moved (a_choice_of_name a r) = refl
  ref_at_moved (a_hash t) = refl
  ref_at_moved (an_operation x o y) = refl
  ref_at_moved (an_entry e) = refl
  ref_at_moved (a_map o g) = refl

  pub is_parameter_same : (r : S.Rule) (f : S.Ref) → is_parameter (move_rule place r) (ref_name (move_ref place f)) ≡ is_parameter r (ref_name f)
  is_parameter_same r f = two is_in (parameters_same r) (ref_name_same f)

  pub first_start_same : (ls : List S.Lexeme) → first_start (map (move_lexeme place) ls) ≡ first_start ls
  first_start_same [] = refl
  first_start_same (l ∷ ls) = refl
