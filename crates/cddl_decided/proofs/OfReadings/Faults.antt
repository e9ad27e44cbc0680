-- What is wrong with a tree does not depend on where the texts of its tokens stand in memory.
use Rattle.std.proofs.Common.{◌≡◌, ℕ, Bool, true, false, if◌then◌else◌, ◌&&◌, List, [], ◌∷◌, ◌++◌, map, length, Option, Some, None, inl, inr, refl, sym, ap, ◌∙◌, subst, slice_get}
use Rattle.std.specs.Prelude.{Contains, option_map}
use Rattle.std.proofs.lemmas.List.{length-map, map-append}
use Rattle.std.proofs.lemmas.Option.{slice_get-map}
use Rattle.cddl_token.specs.declared.Code.{Code}
use Rattle.cddl_token.specs.declared.Code.TheVariants.{Duplicate, KindClash, Undefined, Arity, NoRoot, BadRoot, GroupAsType, HashForm, UnknownControl, TooManyInstances, NotUnwrappable, Recursion, NotLiteral, BadRange, BadController, NoKey, MapShape, TooManyAlternatives}
use Rattle.cddl_token.specs.declared.Token.{Token}
use Rattle.tree_nodes.specs.Syntax.Syntax as S
use Rattle.cddl_language.specs.Choices.{chosen, chosen_by_name}
use Rattle.cddl_language.specs.Controls.{Membership}
use Rattle.cddl_language.specs.Environment.{definitions_of, is_equals, is_same, is_socket}
use Rattle.cddl_language.specs.Faults as F
use Rattle.cddl_language.specs.Faults.{HasBadController, HasBadHash, HasBadRange, HasBadRoot, HasGroupAsType, HasName, HasNoRoot, HasNotLiteral, HasNotUnwrappable, HasRecursion, HasSite, HasTooManyInstances, HasUnknownControl, HasWrongArity, IsDuplicate, IsFaultAt, IsKindClash, IsNotWhole, IsOver, IsRuleOnCycle, IsUndefined, OfRoot, Specification, comparison_of, computation_of, definitions, first_equals, first_name, first_rule, is_operand, is_range_sign, literal_there, members_there, membership_of, names_a_group, occur_token, opened_there, operand_at, parameter_count, root_of, root_or, rules}
use Rattle.cddl_language.specs.Free.{IsOnCycle}
use Rattle.cddl_language.specs.Kinds.{is_group, is_group_definition, opened}
use Rattle.cddl_language.specs.Literals.{Values, literal_of, whole}
use Rattle.cddl_language.specs.MapFaults as M
use Rattle.cddl_language.specs.MapFaults.{HasMapShape, HasNoKey, HasTooMany, HasTooManyAlternatives, IsBare, IsLedToBy, IsSpliced, LacksKey, OccursBadly, StandsAt, choice_entries, closed_entry, entry_at, group_between, group_entries, point_in, rule_entries}
use Rattle.cddl_language.specs.Reach.{Point, Reaches, ref_at}
use Rattle.cddl_language.specs.Reading.{definitions_in, first_start, group_of, name_in, parameter_tokens, parameters_in, ref_of, rule_head, sign_of, term_of2}
use Rattle.cddl_language.specs.Sites as P
use Rattle.cddl_language.specs.Sites.{IsInstance, IsReached, IsUsed, Site, a_choice_of, a_choice_of_name, a_hash, a_map, a_name, an_entry, an_operation, an_unwrapping, arguments, closed_arguments, in_type1, is_parameter, outer_sites, ref_at_site, ref_name, ref_token, sites}
use Rattle.cddl_language.specs.Sizes.{members_of}
use Rattle.cddl_language.specs.Substitution.{fill, fill_entry, fill_group, fill_ref}
use Rattle.cddl_language.specs.Terms.{Definition, Entry, Group, Ref, Term, Text, alternatives, arguments_of, name_of}
use Rattle.cddl_decided.proofs.OfReadings.Moving.{entry_flat, maybe_moved, move_choice, move_cddl, move_entry, move_group, move_operator, move_ref, move_rule, move_type1, move_type2, move_types, moved, type2_flat}
use Rattle.cddl_decided.proofs.OfReadings.Terms.{arguments_moved, contains_map, definition_same, definitions_same, entry_same, first_start_same, group_same, is_parameter_same, move_site, name_at_same, name_same, parameter_tokens_moved, parameters_same, ref_at_moved, ref_name_same, ref_same, ref_start_same, rule_name_same, rule_sites, rules_moved, sign_same, two, type1_sites, type2_same}

some_moved : {A B : Type 0} (f : A → B) (o : Option A) {p : Option B} {x : A} → p ≡ option_map f o → o ≡ Some x → p ≡ Some (f x)
some_moved f o e h = e ∙ ap (option_map f) h

module _ (place : Token → ℕ × ℕ) where
  operand_same : (x : S.Type2) → operand_at (move_type2 place x) ≡ operand_at x
  operand_same x = ap first_start (type2_flat place x) ∙ first_start_same place (S.flat_type2 x)

  entry_at_same : (e : S.GrpEnt) → entry_at (move_entry place e) ≡ entry_at e
  entry_at_same e = ap first_start (entry_flat place e) ∙ first_start_same place (S.flat_entry e)

  filled_ref : (r : S.Rule) (xs : List Term) (f : S.Ref) → fill_ref (parameters_in (move_rule place r)) xs (ref_of (move_ref place f)) ≡ fill_ref (parameters_in r) xs (ref_of f)
  filled_ref r xs f = two (λ ps g. fill_ref ps xs g) (parameters_same place r) (ref_same place f)

  filled : (r : S.Rule) (xs : List Term) (x : S.Type2) → fill (parameters_in (move_rule place r)) xs (term_of2 (move_type2 place x)) ≡ fill (parameters_in r) xs (term_of2 x)
  filled r xs x = two (λ ps t. fill ps xs t) (parameters_same place r) (type2_same place x)

  filled_group : (r : S.Rule) (xs : List Term) (g : S.Group) → fill_group (parameters_in (move_rule place r)) xs (group_of (move_group place g)) ≡ fill_group (parameters_in r) xs (group_of g)
  filled_group r xs g = two (λ ps h. fill_group ps xs h) (parameters_same place r) (group_same place g)

  closed_same : (r : S.Rule) (xs : List Term) (e : S.GrpEnt) → closed_entry (move_rule place r) xs (move_entry place e) ≡ closed_entry r xs e
  closed_same r xs e = two (λ ps d. fill_entry ps xs d) (parameters_same place r) (entry_same place e)

  choice_entries_moved : (es : S.GrpChoice) → choice_entries (move_choice place es) ≡ map (move_entry place) (choice_entries es)
  choice_entries_moved S.no_entries = refl
  choice_entries_moved (S.entries es e c) = ap (λ ds. ds ++ move_entry place e ∷ []) (choice_entries_moved es) ∙ sym (map-append (move_entry place) (choice_entries es) (e ∷ []))

  group_entries_moved : (g : S.Group) → group_entries (move_group place g) ≡ map (move_entry place) (group_entries g)
  group_entries_moved (S.sole es) = choice_entries_moved es
  group_entries_moved (S.orelse g s es) = two (λ ds es. ds ++ es) (group_entries_moved g) (choice_entries_moved es) ∙ sym (map-append (move_entry place) (group_entries g) (choice_entries es))

  rule_entries_moved : (r : S.Rule) → rule_entries (move_rule place r) ≡ map (move_entry place) (rule_entries r)
  rule_entries_moved (S.type_rule n a t) = refl
  rule_entries_moved (S.group_rule n a (S.typed o t)) = refl
  rule_entries_moved (S.group_rule n a (S.keyed o k t)) = refl
  rule_entries_moved (S.group_rule n a (S.grouped None p g c)) = group_entries_moved g
  rule_entries_moved (S.group_rule n a (S.grouped (Some o) p g c)) = refl

  bare_moved : {x : S.Type2} {t : S.Types} → IsBare x t → IsBare (move_type2 place x) (move_types place t)
  bare_moved M.itself = M.itself
  bare_moved (M.in_parens b) = M.in_parens (bare_moved b)

  between_moved : (x : S.Type2) → group_between (move_type2 place x) ≡ option_map (move_group place) (group_between x)
  between_moved (S.literal v) = refl
  between_moved (S.typename r) = refl
  between_moved (S.parens o t c) = refl
  between_moved (S.map_of o g c) = refl
  between_moved (S.array_of o g c) = refl
  between_moved (S.unwrapped u r) = refl
  between_moved (S.choice_of a o g c) = refl
  between_moved (S.choice_of_name a r) = refl
  between_moved (S.tagged o t c) = refl
  between_moved (S.tagged_by o h a p t c) = refl
  between_moved (S.simple_by o h c) = refl
  between_moved (S.hash t) = refl

  in_entries : (xs ys : List S.GrpEnt) (e : S.GrpEnt) → ys ≡ map (move_entry place) xs → Contains xs e → Contains ys (move_entry place e)
  in_entries xs ys e same c = subst (λ ds. Contains ds (move_entry place e)) (sym same) (contains_map (move_entry place) xs e c)

  in_sites : (xs ys : List Site) (p : Site) → ys ≡ map (move_site place) xs → Contains xs p → Contains ys (move_site place p)
  in_sites xs ys p same c = subst (λ ds. Contains ds (move_site place p)) (sym same) (contains_map (move_site place) xs p c)

  -- What rules reach and splice, over the list of rules.
  module _ (rs : List S.Rule) (root : Text) where
    abbrev ms : List S.Rule
    ms = map (move_rule place) rs

    instance_moved : {r : S.Rule} {i : Ref} → IsInstance rs root r i → IsInstance ms root (move_rule place r) i
    instance_moved {r} {i} h = record {
      reached = subst (λ ds. Reaches ds root i) (sym (definitions_same place rs)) h.reached;
      named = h.named ∙ sym (name_same place r);
      present = contains_map (move_rule place) rs r h.present;
    }

    mutual
      reached_moved : {r : S.Rule} {xs : List Term} {p : Site} → IsReached rs root r xs p → IsReached ms root (move_rule place r) xs (move_site place p)
      reached_moved (P.in_body {r = r} {i = i} {p = p} h c) = P.in_body (instance_moved h) (in_sites (outer_sites r) (outer_sites (move_rule place r)) p (rule_sites place false r) c)
      reached_moved (P.in_argument {q = q} {p = p} {f = f} {x = x} h e u c) = P.in_argument (reached_moved h) (some_moved (move_ref place) (ref_at_site q) (ref_at_moved place q) e) (used_moved u) (in_sites (in_type1 false true x) (in_type1 false true (move_type1 place x)) p (type1_sites place false true x) c)

      used_moved : {r : S.Rule} {xs : List Term} {f : S.Ref} {x : S.Type1} → IsUsed rs root r xs f x → IsUsed ms root (move_rule place r) xs (move_ref place f) (move_type1 place x)
      used_moved (P.used {r = r} {s = s} {xs = xs} {u = u} {f = f} {g = g} {x = x} k unbound named h e par arg) =
          P.used k
          (is_parameter_same place r f ∙ unbound)
          (name_same place s ∙ named ∙ sym (ref_name_same place f))
          (subst (λ ys. IsReached ms root (move_rule place s) ys (move_site place u)) (sym (ap arguments_of (filled_ref r xs f))) (reached_moved h))
          (some_moved (move_ref place) (ref_at_site u) (ref_at_moved place u) e)
          (ap (λ ps. slice_get ps k) (parameters_same place s) ∙ par ∙ ap Some (sym (ref_name_same place g)))
          (ap (λ ps. slice_get ps k) (arguments_moved place f) ∙ slice_get-map (move_type1 place) (arguments f) k ∙ ap (option_map (move_type1 place)) arg)

    stands_moved : {f : Ref} {r : S.Rule} {xs : List Term} {g : S.Group} → StandsAt rs f r xs g → StandsAt ms f (move_rule place r) xs (move_group place g)
    stands_moved (M.at_once {n = n} {a = a} {t = t} {x = x} c e b h) = M.at_once (contains_map (move_rule place) rs (S.type_rule n a t) c) (rule_name_same place n ∙ e) (bare_moved b) (some_moved (move_group place) (group_between x) (between_moved x) h)
    stands_moved (M.through {f = f} {d = d} e b s p h) = M.through (ap (λ ds. definitions_of ds (name_of f)) (definitions_same place rs) ∙ e) b s p (stands_moved h)

    point_same : (r : S.Rule) (xs : List Term) (e : S.GrpEnt) → point_in (definitions_in ms) (closed_entry (move_rule place r) xs (move_entry place e)) ≡ point_in (definitions_in rs) (closed_entry r xs e)
    point_same r xs e = two (λ ds d. point_in ds d) (definitions_same place rs) (closed_same r xs e)

    spliced_moved : {r : S.Rule} {xs : List Term} {q : Option Point} {e : S.GrpEnt} → IsSpliced rs root r xs q e → IsSpliced ms root (move_rule place r) xs q (move_entry place e)
    spliced_moved (M.of_map {g = g} {e = e} h c) = M.of_map (reached_moved h) (in_entries (group_entries g) (group_entries (move_group place g)) e (group_entries_moved g) c)
    spliced_moved (M.of_parens {g = g} {e = e} h c) = M.of_parens (spliced_moved h) (in_entries (group_entries g) (group_entries (move_group place g)) e (group_entries_moved g) c)
    spliced_moved (M.of_name {r = r} {s = s} {xs = xs} {d = d} {e = e} h p c n i) = M.of_name (spliced_moved h) (point_same r xs d ∙ p) (contains_map (move_rule place) rs s c) (name_same place s ∙ n) (in_entries (rule_entries s) (rule_entries (move_rule place s)) e (rule_entries_moved s) i)
    spliced_moved (M.of_opened {r = r} {xs = xs} {d = d} {e = e} {g = g} h p a c) = M.of_opened (spliced_moved h) (point_same r xs d ∙ p) (stands_moved a) (in_entries (group_entries g) (group_entries (move_group place g)) e (group_entries_moved g) c)

  branch : (b : Bool) (r : S.Rule) (o p : Option S.Rule) → p ≡ option_map (move_rule place) o → (if b then Some (move_rule place r) else p) ≡ option_map (move_rule place) (if b then Some r else o)
  branch true r o p e = refl
  branch false r o p e = e

  first_rule_moved : (n : Text) (rs : List S.Rule) → first_rule (map (move_rule place) rs) n ≡ option_map (move_rule place) (first_rule rs n)
  first_rule_moved n [] = refl
  first_rule_moved n (r ∷ rs) =
      ap (λ m. if is_same m n then Some (move_rule place r) else first_rule (map (move_rule place) rs) n) (name_same place r)
      ∙ branch (is_same (name_in r) n) r (first_rule rs n) (first_rule (map (move_rule place) rs) n) (first_rule_moved n rs)

  first_equals_moved : (n : Text) (rs : List S.Rule) → first_equals (map (move_rule place) rs) n ≡ option_map (move_rule place) (first_equals rs n)
  first_equals_moved n [] = refl
  first_equals_moved n (r ∷ rs) =
      two (λ m s. if is_same m n && is_equals s then Some (move_rule place r) else first_equals (map (move_rule place) rs) n) (name_same place r) (sign_same place r)
      ∙ branch (is_same (name_in r) n && is_equals (sign_of r)) r (first_equals rs n) (first_equals (map (move_rule place) rs) n) (first_equals_moved n rs)

  first_name_same : (qs : List S.Rule) → first_name (map (move_rule place) qs) ≡ first_name qs
  first_name_same [] = refl
  first_name_same (r ∷ qs) = ap Some (name_same place r)

  -- Faults.

  abbrev pub moved_spec : Specification → Specification
  moved_spec s = record { tree = move_cddl place s.tree; given = s.given }

  module _ (s : Specification) where
    rules_are : rules (moved_spec s) ≡ map (move_rule place) (rules s)
    rules_are = rules_moved place s.tree

    pub definitions_are : definitions (moved_spec s) ≡ definitions s
    definitions_are = ap definitions_in rules_are ∙ definitions_same place (rules s)

    given_or : (g : Option Text) → root_or g (rules (moved_spec s)) ≡ root_or g (rules s)
    given_or None = ap first_name rules_are ∙ first_name_same (rules s)
    given_or (Some n) = refl

    pub root_same : root_of (moved_spec s) ≡ root_of s
    root_same = given_or s.given

    has : {r : S.Rule} → Contains (rules s) r → Contains (rules (moved_spec s)) (move_rule place r)
    has {r} c = subst (λ qs. Contains qs (move_rule place r)) (sym rules_are) (contains_map (move_rule place) (rules s) r c)

    site : {r : S.Rule} {p : Site} → HasSite s r p → HasSite (moved_spec s) (move_rule place r) (move_site place p)
    site {r} {p} h = record { rule = has h.rule; site = in_sites (sites r) (sites (move_rule place r)) p (rule_sites place true r) h.site }

    name : {r : S.Rule} {f : S.Ref} → HasName s r f → HasName (moved_spec s) (move_rule place r) (move_ref place f)
    name {r} {f} h = record { at = move_site place h.at; found = site h.found; name = some_moved (move_ref place) (ref_at_site h.at) (ref_at_moved place h.at) h.name }

    reached : {root : Text} {r : S.Rule} {xs : List Term} {p : Site} → IsReached (rules s) root r xs p → IsReached (rules (moved_spec s)) root (move_rule place r) xs (move_site place p)
    reached {root} {r} {xs} {p} h = subst (λ qs. IsReached qs root (move_rule place r) xs (move_site place p)) (sym rules_are) (reached_moved (rules s) root h)

    spliced : {root : Text} {r : S.Rule} {xs : List Term} {q : Option Point} {e : S.GrpEnt} → IsSpliced (rules s) root r xs q e → IsSpliced (rules (moved_spec s)) root (move_rule place r) xs q (move_entry place e)
    spliced {root} {r} {xs} {q} {e} h = subst (λ qs. IsSpliced qs root (move_rule place r) xs q (move_entry place e)) (sym rules_are) (spliced_moved (rules s) root h)

    first_rule_is : (n : Text) → first_rule (rules (moved_spec s)) n ≡ option_map (move_rule place) (first_rule (rules s) n)
    first_rule_is n = ap (λ qs. first_rule qs n) rules_are ∙ first_rule_moved n (rules s)

    first_equals_is : (r : S.Rule) → first_equals (rules (moved_spec s)) (name_in (move_rule place r)) ≡ option_map (move_rule place) (first_equals (rules s) (name_in r))
    first_equals_is r = two first_equals rules_are (name_same place r) ∙ first_equals_moved (name_in r) (rules s)

    duplicate : (at : ℕ) → IsDuplicate s at → IsDuplicate (moved_spec s) at
    duplicate at (F.other_equals {q = q} {r = r} c e f d o) =
        F.other_equals (has c) (ap is_equals (sign_same place r) ∙ e) (some_moved (move_rule place) (first_equals (rules s) (name_in r)) (first_equals_is r) f)
        (λ same. d (sym (definition_same place r) ∙ same ∙ definition_same place q)) (o ∙ sym (name_at_same place r))
    duplicate at (F.parameter_twice {r = r} {t = t} {u = u} {j = j} {k = k} c lt g h e o) = F.parameter_twice (has c) lt (parameter j t g) (parameter k u h) e o
      where
        parameter : (i : ℕ) (t : Token) → slice_get (parameter_tokens (rule_head r)) i ≡ Some t → slice_get (parameter_tokens (rule_head (move_rule place r))) i ≡ Some (moved place t)
        parameter i t g = ap (λ ts. slice_get ts i) (parameter_tokens_moved place r) ∙ slice_get-map (moved place) (parameter_tokens (rule_head r)) i ∙ ap (option_map (moved place)) g

    kind_clash : (at : ℕ) → IsKindClash s at → IsKindClash (moved_spec s) at
    kind_clash at h = record {
      rule = move_rule place h.rule;
      present = has h.present;
      clash = λ same. h.clash (sym (two is_group_definition definitions_are (definition_same place h.rule)) ∙ same ∙ two is_group definitions_are (name_same place h.rule));
      offset = h.offset ∙ sym (name_at_same place h.rule);
    }

    undefined : (at : ℕ) → IsUndefined s at → IsUndefined (moved_spec s) at
    undefined at h = record {
      rule = move_rule place h.rule;
      ref = move_ref place h.ref;
      found = name h.found;
      no_parameter = is_parameter_same place h.rule h.ref ∙ h.no_parameter;
      no_socket = ap is_socket (ref_name_same place h.ref) ∙ h.no_socket;
      no_definition = two definitions_of definitions_are (ref_name_same place h.ref) ∙ h.no_definition;
      offset = h.offset ∙ sym (ref_start_same place h.ref);
    }

    arity : (at : ℕ) → HasWrongArity s at → HasWrongArity (moved_spec s) at
    arity at (F.by_rule {r = r} {k = k} c e d o) = F.by_rule (has c) (two parameter_count definitions_are (name_same place r) ∙ e) (λ same. d (ap length (sym (parameters_same place r)) ∙ same)) (o ∙ sym (name_at_same place r))
    arity at (F.by_name {r = r} {f = f} {k = k} h p e d o) =
        F.by_name (name h) (is_parameter_same place r f ∙ p) (two parameter_count definitions_are (ref_name_same place f) ∙ e)
        (λ same. d (sym (length-map (arguments f) (move_type1 place)) ∙ ap length (sym (arguments_moved place f)) ∙ same)) (o ∙ sym (ref_start_same place f))
    arity at (F.by_parameter {r = r} {f = f} h p d o) = F.by_parameter (name h) (is_parameter_same place r f ∙ p) (λ none. d (nothing (arguments f) (sym (arguments_moved place f) ∙ none))) (o ∙ sym (ref_start_same place f))
      where
        nothing : (ps : List S.Type1) → map (move_type1 place) ps ≡ [] → ps ≡ []
        nothing [] e = refl
        nothing (a ∷ ps) e = cc

    no_root : (at : ℕ) → HasNoRoot s at → HasNoRoot (moved_spec s) at
    no_root at (F.no_rule e o) = F.no_rule (root_same ∙ e) o
    no_root at (F.no_such {n = n} e f o) = F.no_such (root_same ∙ e) (ap (λ ds. definitions_of ds n) definitions_are ∙ f) o

    bad_root : (at : ℕ) → HasBadRoot s at → HasBadRoot (moved_spec s) at
    bad_root at h = record {
      root = h.root;
      rule = move_rule place h.rule;
      rooted = root_same ∙ h.rooted;
      first = some_moved (move_rule place) (first_rule (rules s) h.root) (first_rule_is h.root) h.first;
      bad = elim h.bad [ inl e ↦ inl (ap (λ ds. is_group ds h.root) definitions_are ∙ e) | inr d ↦ inr (λ none. d (sym (parameters_same place h.rule) ∙ none)) ];
      offset = h.offset ∙ sym (name_at_same place h.rule);
    }

    names_same : (r : S.Rule) (f : S.Ref) → names_a_group (moved_spec s) (move_rule place r) (move_ref place f) ≡ names_a_group s r f
    names_same r f = two (λ b c. if b then false else c) (is_parameter_same place r f) (two is_group definitions_are (ref_name_same place f))

    group_as_type : (at : ℕ) → HasGroupAsType s at → HasGroupAsType (moved_spec s) at
    group_as_type at (F.group_name {r = r} {f = f} h e o) = F.group_name (site h) (names_same r f ∙ e) (o ∙ sym (ref_start_same place f))
    group_as_type at (F.type_name {r = r} {f = f} h e o) = F.type_name (site h) (names_same r f ∙ e) (o ∙ sym (ref_start_same place f))

    bad_hash : (at : ℕ) → HasBadHash s at → HasBadHash (moved_spec s) at
    bad_hash at h = record { rule = move_rule place h.rule; token = moved place h.token; found = site h.found; bad = h.bad; offset = h.offset }

    unknown_control : (at : ℕ) → HasUnknownControl s at → HasUnknownControl (moved_spec s) at
    unknown_control at h = record { rule = move_rule place h.rule; left = move_type2 place h.left; token = moved place h.token; right = move_type2 place h.right; found = site h.found; unknown = h.unknown; offset = h.offset }

    module _ (worth : Values) (root : Text) where
      too_many : (at : ℕ) → HasTooManyInstances s root at → HasTooManyInstances (moved_spec s) root at
      too_many at h = record { instances = h.instances; reached = λ r c. subst (λ ds. Reaches ds root r) (sym definitions_are) (h.reached r c); distinct = h.distinct; many = h.many; offset = h.offset }

      opened_same : (r : S.Rule) (xs : List Term) (f : S.Ref) → opened_there (moved_spec s) (move_rule place r) xs (move_ref place f) ≡ opened_there s r xs f
      opened_same r xs f = two (λ b o. if b then None else o) (is_parameter_same place r f) (two opened definitions_are (filled_ref r xs f))

      not_unwrappable : (at : ℕ) → HasNotUnwrappable s root at → HasNotUnwrappable (moved_spec s) root at
      not_unwrappable at (F.opens_nothing {r = r} {xs = xs} {f = f} h e o) = F.opens_nothing (reached h) (opened_same r xs f ∙ e) o
      not_unwrappable at (F.opens_group_as_type {r = r} {xs = xs} {f = f} h e o) = F.opens_group_as_type (reached h) (opened_same r xs f ∙ e) o
      not_unwrappable at (F.chooses_from_none {r = r} {xs = xs} {g = g} h e o) = F.chooses_from_none (reached h) (two chosen definitions_are (filled_group r xs g) ∙ e) o
      not_unwrappable at (F.chooses_from_no_name {r = r} {xs = xs} {f = f} h e o) = F.chooses_from_no_name (reached h) (two chosen_by_name definitions_are (filled_ref r xs f) ∙ e) o

      on_cycle : {r : S.Rule} → IsRuleOnCycle s root r → IsRuleOnCycle (moved_spec s) root (move_rule place r)
      on_cycle h = record {
        point = h.point;
        cycle = subst (λ ds. IsOnCycle ds root h.point) (sym definitions_are) h.cycle;
        first = some_moved (move_rule place) (first_rule (rules s) (name_of (ref_at h.point))) (first_rule_is (name_of (ref_at h.point))) h.first;
      }

      back_from : (o : Option S.Rule) (q : S.Rule) → option_map (move_rule place) o ≡ Some q → (r : S.Rule) × (o ≡ Some r)
      back_from None q e = cc
      back_from (Some r) q e = (r, refl)

      from_cycle : {q : S.Rule} → IsRuleOnCycle (moved_spec s) root q → (r : S.Rule) × IsRuleOnCycle s root r
      from_cycle {q} h =
          let n : Text = name_of (ref_at h.point) in
          let x = back_from (first_rule (rules s) n) q (sym (first_rule_is n) ∙ h.first) in
          (x.0, record { point = h.point; cycle = subst (λ ds. IsOnCycle ds root h.point) definitions_are h.cycle; first = x.1 })

      recursion : (at : ℕ) → HasRecursion s root at → HasRecursion (moved_spec s) root at
      recursion at (F.at_rule {r = r} h o) = F.at_rule (on_cycle h) (o ∙ sym (name_at_same place r))
      recursion at (F.without_rule {p = p} h none o) = F.without_rule (subst (λ ds. IsOnCycle ds root p) (sym definitions_are) h) (λ q g. let x = from_cycle g in none x.0 x.1) o

      literal_same : (r : S.Rule) (xs : List Term) (x : S.Type2) → literal_there (moved_spec s) worth (move_rule place r) xs (move_type2 place x) ≡ literal_there s worth r xs x
      literal_same r xs x = two (λ ds t. literal_of worth ds t) definitions_are (filled r xs x)

      members_same : (m : Membership) (r : S.Rule) (xs : List Term) (x : S.Type2) → members_there (moved_spec s) worth (move_rule place r) xs m (move_type2 place x) ≡ members_there s worth r xs m x
      members_same m r xs x = two (λ ds t. members_of m worth ds t) definitions_are (filled r xs x)

      comparison_same : (o : S.Operator) → comparison_of (move_operator place o) ≡ comparison_of o
      comparison_same (S.range t) = refl
      comparison_same (S.range_below t) = refl
      comparison_same (S.control t) = refl

      computation_same : (o : S.Operator) → computation_of (move_operator place o) ≡ computation_of o
      computation_same (S.range t) = refl
      computation_same (S.range_below t) = refl
      computation_same (S.control t) = refl

      membership_same : (o : S.Operator) → membership_of (move_operator place o) ≡ membership_of o
      membership_same (S.range t) = refl
      membership_same (S.range_below t) = refl
      membership_same (S.control t) = refl

      sign_is_same : (o : S.Operator) → is_range_sign (move_operator place o) ≡ is_range_sign o
      sign_is_same (S.range t) = refl
      sign_is_same (S.range_below t) = refl
      sign_is_same (S.control t) = refl

      occur_moved : (e : S.GrpEnt) → occur_token (move_entry place e) ≡ maybe_moved place (occur_token e)
      occur_moved (S.typed o t) = refl
      occur_moved (S.keyed o k t) = refl
      occur_moved (S.grouped o p g c) = refl

      not_literal : (at : ℕ) → HasNotLiteral s worth root at → HasNotLiteral (moved_spec s) worth root at
      not_literal at (F.comparand {r = r} {xs = xs} {y = y} {o = o} h c e i) = F.comparand (reached h) (comparison_same o ∙ c) (literal_same r xs y ∙ e) (i ∙ sym (operand_same y))
      not_literal at (F.left_operand {r = r} {xs = xs} {x = x} {o = o} {c = k} h c e i) = F.left_operand (reached h) (computation_same o ∙ c) (ap (is_operand k) (literal_same r xs x) ∙ e) (i ∙ sym (operand_same x))
      not_literal at (F.right_operand {r = r} {xs = xs} {y = y} {o = o} {c = k} h c e i) = F.right_operand (reached h) (computation_same o ∙ c) (ap (is_operand k) (literal_same r xs y) ∙ e) (i ∙ sym (operand_same y))
      not_literal at (F.out_of_range {r = r} {xs = xs} {x = x} {y = y} {o = o} h c e f g i) = F.out_of_range (reached h) (computation_same o ∙ c) (literal_same r xs x ∙ e) (literal_same r xs y ∙ f) g (i ∙ sym (operand_same y))

      bad_controller : (at : ℕ) → HasBadController s worth root at → HasBadController (moved_spec s) worth root at
      bad_controller at (F.no_number {r = r} {xs = xs} {y = y} {o = o} h c d e f i) = F.no_number (reached h) (comparison_same o ∙ c) d (literal_same r xs y ∙ e) f (i ∙ sym (operand_same y))
      bad_controller at (F.no_members {r = r} {xs = xs} {y = y} {o = o} {m = m} h c e i) = F.no_members (reached h) (membership_same o ∙ c) (members_same m r xs y ∙ e) (i ∙ sym (operand_same y))
      bad_controller at (F.not_utf8 {r = r} {xs = xs} {x = x} {y = y} {o = o} h c e f g i) = F.not_utf8 (reached h) (computation_same o ∙ c) (literal_same r xs x ∙ e) (literal_same r xs y ∙ f) g (i ∙ sym (operand_same y))

      bad_range : (at : ℕ) → HasBadRange s worth root at → HasBadRange (moved_spec s) worth root at
      bad_range at (F.first_end {r = r} {xs = xs} {x = x} {o = o} h c e i) = F.first_end (reached h) (sign_is_same o ∙ c) (ap whole (literal_same r xs x) ∙ e) (i ∙ sym (operand_same x))
      bad_range at (F.last_end {r = r} {xs = xs} {y = y} {o = o} h c e i) = F.last_end (reached h) (sign_is_same o ∙ c) (ap whole (literal_same r xs y) ∙ e) (i ∙ sym (operand_same y))
      bad_range at (F.bounds {e = e} h t over i) = F.bounds (reached h) (some_moved (moved place) (occur_token e) (occur_moved e) t) over i

      lacks : (ds es : List Definition) (d e : Entry) → es ≡ ds → e ≡ d → LacksKey ds d → LacksKey es e
      lacks ds es d e p q h = subst (λ (fs : List Definition). LacksKey fs e) (sym p) (subst (λ (f : Entry). LacksKey ds f) (sym q) h)

      no_key : (at : ℕ) → HasNoKey (rules s) root at → HasNoKey (rules (moved_spec s)) root at
      no_key at h = record {
        rule = move_rule place h.rule;
        arguments = h.arguments;
        owner = h.owner;
        entry = move_entry place h.entry;
        spliced = spliced h.spliced;
        lacks = lacks (definitions s) (definitions (moved_spec s)) (closed_entry h.rule h.arguments h.entry) (closed_entry (move_rule place h.rule) h.arguments (move_entry place h.entry)) definitions_are (closed_same h.rule h.arguments h.entry) h.lacks;
        offset = h.offset ∙ sym (entry_at_same h.entry);
      }

      map_shape : (at : ℕ) → HasMapShape (rules s) root at → HasMapShape (rules (moved_spec s)) root at
      map_shape at (M.comes_back {r = r} {xs = xs} {p = p} {e = e} h l i) =
          M.comes_back (spliced h) (subst (λ (ds : List Definition). IsLedToBy ds p (closed_entry (move_rule place r) xs (move_entry place e))) (sym definitions_are) (subst (λ (d : Entry). IsLedToBy (definitions s) p d) (sym (closed_same r xs e)) l)) (i ∙ sym (entry_at_same e))
      map_shape at (M.occurs_badly {r = r} {xs = xs} {e = e} h b i) =
          M.occurs_badly (spliced h) (subst (λ (ds : List Definition). OccursBadly ds (closed_entry (move_rule place r) xs (move_entry place e))) (sym definitions_are) (subst (λ (d : Entry). OccursBadly (definitions s) d) (sym (closed_same r xs e)) b)) (i ∙ sym (entry_at_same e))

      too_many_alternatives : (at : ℕ) → HasTooManyAlternatives (rules s) root at → HasTooManyAlternatives (rules (moved_spec s)) root at
      too_many_alternatives at h = record {
        rule = move_rule place h.rule;
        arguments = h.arguments;
        token = moved place h.token;
        group = move_group place h.group;
        reached = reached h.reached;
        many = subst (λ (ds : List Definition). HasTooMany ds (alternatives (fill_group (parameters_in (move_rule place h.rule)) h.arguments (group_of (move_group place h.group))))) (sym definitions_are) (subst (λ (g : Group). HasTooMany (definitions s) (alternatives g)) (sym (filled_group h.rule h.arguments h.group)) h.many);
        offset = h.offset;
      }

    of_root : (o p : Option Text) (P Q : Text → Type 0) → p ≡ o → ((n : Text) → P n → Q n) → OfRoot o P → OfRoot p Q
    of_root o p P Q e f h = subst (λ (r : Option Text). OfRoot r Q) (sym e) (by o h)
      where
        by : (r : Option Text) → OfRoot r P → OfRoot r Q
        by None k = absurd k
        by (Some n) k = f n k

    rooted : (P Q : Text → Type 0) → ((n : Text) → P n → Q n) → OfRoot (root_of s) P → OfRoot (root_of (moved_spec s)) Q
    rooted P Q f h = of_root (root_of s) (root_of (moved_spec s)) P Q root_same f h

    pub fault_moved : (worth : Values) (c : Code) (at : ℕ) → IsFaultAt s worth c at → IsFaultAt (moved_spec s) worth c at
    fault_moved worth Duplicate at h = duplicate at h
    fault_moved worth KindClash at h = kind_clash at h
    fault_moved worth Undefined at h = undefined at h
    fault_moved worth Arity at h = arity at h
    fault_moved worth NoRoot at h = no_root at h
    fault_moved worth BadRoot at h = bad_root at h
    fault_moved worth GroupAsType at h = group_as_type at h
    fault_moved worth HashForm at h = bad_hash at h
    fault_moved worth UnknownControl at h = unknown_control at h
    fault_moved worth TooManyInstances at h = rooted (λ n. HasTooManyInstances s n at) (λ n. HasTooManyInstances (moved_spec s) n at) (λ n k. too_many worth n at k) h
    fault_moved worth NotUnwrappable at h = rooted (λ n. HasNotUnwrappable s n at) (λ n. HasNotUnwrappable (moved_spec s) n at) (λ n k. not_unwrappable worth n at k) h
    fault_moved worth Recursion at h = rooted (λ n. HasRecursion s n at) (λ n. HasRecursion (moved_spec s) n at) (λ n k. recursion worth n at k) h
    fault_moved worth NotLiteral at h = rooted (λ n. HasNotLiteral s worth n at) (λ n. HasNotLiteral (moved_spec s) worth n at) (λ n k. not_literal worth n at k) h
    fault_moved worth BadController at h = rooted (λ n. HasBadController s worth n at) (λ n. HasBadController (moved_spec s) worth n at) (λ n k. bad_controller worth n at k) h
    fault_moved worth BadRange at h = rooted (λ n. HasBadRange s worth n at) (λ n. HasBadRange (moved_spec s) worth n at) (λ n k. bad_range worth n at k) h
    fault_moved worth NoKey at h = rooted (λ n. HasNoKey (rules s) n at) (λ n. HasNoKey (rules (moved_spec s)) n at) (λ n k. no_key worth n at k) h
    fault_moved worth MapShape at h = rooted (λ n. HasMapShape (rules s) n at) (λ n. HasMapShape (rules (moved_spec s)) n at) (λ n k. map_shape worth n at k) h
    fault_moved worth TooManyAlternatives at h = rooted (λ n. HasTooManyAlternatives (rules s) n at) (λ n. HasTooManyAlternatives (rules (moved_spec s)) n at) (λ n k. too_many_alternatives worth n at k) h
    fault_moved worth _ at h = h
