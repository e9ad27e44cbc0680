-- What is live in an instance is reached, in a text that is clear; what is reached there refers to instances.
use Rattle.std.specs.Prelude.{map, option_map, ◌≡◌, ◌≢◌, ℕ, zero, suc, ◌<◌, Bool, true, false, if◌then◌else◌, ◌||◌, List, [], ◌∷◌, ◌++◌, Contains, Some, None, slice_get}
use Rattle.std.specs.Cmp.Lexicographic.{other_text}
use Rattle.std.proofs.Common.{refl, sym, ap, ◌∙◌, subst}
use Rattle.std.proofs.lemmas.Bool.{true≢false}
use Rattle.std.proofs.lemmas.Option.{slice_get-map}
use Rattle.cddl_language.specs.Kinds.{is_group}
use Rattle.std.proofs.lemmas.List.Elements.{Contains-append_left, Contains-append_right, Contains-push}
use Rattle.lists.proofs.Lemmas.{neither as same_or}
use Rattle.cddl_token.specs.declared.Token.{Token}
use Rattle.tree_nodes.specs.Syntax.Syntax as S
use Rattle.cddl_language.proofs.OfLive.Standing as Standing
use Rattle.cddl_language.proofs.OfLive.Counting.{in_meaning, argument_at, counts, token_at}
use Rattle.cddl_language.specs.Live.Live.{IsLive, outer, inner, slot, IsClear, point_at}
use Rattle.cddl_language.specs.Terms.{Text, Term, Definition, Ref, call, Terms, no_terms, term, named, unwrapped, name_of, arguments_of, term_list}
use Rattle.cddl_language.specs.Reading.{text_of, ref_of, terms_of, followed, term_of1, term_of2, group_of, parameters_in, name_in, parameter_tokens, rule_head, definition_of}
use Rattle.cddl_language.specs.Environment.{counting, definitions_of, from_prelude, is_in, is_same, named_so}
use Rattle.cddl_language.specs.Substitution.{argument, argument_for, or_else, fill, fill_ref, fill_all, fill_group, fill_body}
use Rattle.cddl_language.specs.Reach.{Point, at_name, at_unwrapping, at_choice, ref_at, points, group_points, body_points, Reaches, onward, IsPresent, instance, standing}
use Rattle.cddl_language.specs.Sites.{Site, a_name, an_unwrapping, a_choice_of, a_choice_of_name, a_map, an_operation, arguments, argument_list, ref_token, ref_name, outer_sites, ref_at_site, is_parameter, demands_type, closed_arguments, IsReached, in_body, in_argument, used, IsInstance}
use Rattle.cddl_language.specs.Faults.{Specification, rules, definitions, HasSite, HasName, parameter_twice, by_parameter, type_name}

none_for : (ps : List Text) (xs : List Term) (n : Text) → is_in ps n ≡ false → argument ps xs n ≡ None
none_for [] xs n e = refl
none_for (p ∷ ps) [] n e = refl
none_for (p ∷ ps) (x ∷ xs) n e = go (is_same p n) ((same_or (is_same p n) (is_in ps n) e).0) (none_for ps xs n (same_or (is_same p n) (is_in ps n) e).1)
  where
    go : (b : Bool) → b ≡ false → argument ps xs n ≡ None → (if b then Some x else argument ps xs n) ≡ None
    go true f h = absurd (true≢false f)
    go false f h = h

no_argument : (ps : List Text) (xs : List Term) (r : Ref) → is_in ps (name_of r) ≡ false → argument_for ps xs r ≡ None
no_argument ps xs (call n no_terms) e = none_for ps xs n e
no_argument ps xs (call n (term t ts)) e = refl

-- the point of a reference that names no parameter
closed_point : (ps : List Text) (xs : List Term) (q : Site) (f : S.Ref) → ref_at_site q ≡ Some f → is_in ps (ref_name f) ≡ false → (p : Point) × (Contains (Standing.site_points ps xs q) p × ((ref_at p ≡ fill_ref ps xs (ref_of f)) × (point_at q (fill_ref ps xs (ref_of f)) ≡ Some p)))
closed_point ps xs (a_name b g) f e n = (at_name (fill_ref ps xs (ref_of f)), (subst (λ m. Contains (points (fill ps xs (named (ref_of m)))) (at_name (fill_ref ps xs (ref_of f)))) (sym (Standing.same_some e)) (subst (λ o. Contains (points (or_else o (named (fill_ref ps xs (ref_of f))))) (at_name (fill_ref ps xs (ref_of f)))) (sym (no_argument ps xs (ref_of f) n)) (Standing.at_head (at_name (fill_ref ps xs (ref_of f))) [])), (refl, refl)))
closed_point ps xs (an_unwrapping b u g) f e n = (at_unwrapping (fill_ref ps xs (ref_of f)), (subst (λ m. Contains (points (fill ps xs (unwrapped (ref_of m)))) (at_unwrapping (fill_ref ps xs (ref_of f)))) (sym (Standing.same_some e)) (subst (λ o. Contains (points (or_else o (unwrapped (fill_ref ps xs (ref_of f))))) (at_unwrapping (fill_ref ps xs (ref_of f)))) (sym (no_argument ps xs (ref_of f) n)) (Standing.at_head (at_unwrapping (fill_ref ps xs (ref_of f))) [])), (refl, refl)))
closed_point ps xs (a_choice_of_name a g) f e n = (at_choice (fill_ref ps xs (ref_of f)), (subst (λ m. Contains (at_choice (fill_ref ps xs (ref_of m)) ∷ []) (at_choice (fill_ref ps xs (ref_of f)))) (sym (Standing.same_some e)) (Standing.at_head (at_choice (fill_ref ps xs (ref_of f))) []), (refl, refl)))
closed_point ps xs _ f e n = Standing.some_is_none e

-- a site outside of arguments has its points in the filled body
in_filled : (r : S.Rule) (xs : List Term) (q : Site) (p : Point) → Contains (Standing.site_points (parameters_in r) xs q) p → Contains (outer_sites r) q → Contains (body_points (fill_body (definition_of r).parameters xs (definition_of r).body)) p
in_filled (S.type_rule n a t) xs q p h c = Standing.points_types (parameters_in (S.type_rule n a t)) xs q p h (demands_type false a) t c
in_filled (S.group_rule n a e) xs q p h c = Standing.points_entry (parameters_in (S.group_rule n a e)) xs q p h e c

-- the argument of a number, filled
present_reach : (ds : List Definition) (root : Text) (p : Point) → IsPresent ds root p → Reaches ds root (ref_at p)
present_reach ds root p (instance h) = h
present_reach ds root p (standing h c) = onward h c refl

module _ (ps : List Text) (xs : List Term) where
  fill_one : S.Type1 → Term
  fill_one x = fill ps xs (term_of1 x)

  after_all : (ts : Terms) (u : Term) → term_list (fill_all ps xs (followed ts u)) ≡ term_list (fill_all ps xs ts) ++ fill ps xs u ∷ []
  after_all no_terms u = refl
  after_all (term t ts) u = ap (λ l. fill ps xs t ∷ l) (after_all ts u)

  at_end : (l : List S.Type1) (r : S.Type1) → map (λ x. fill ps xs (term_of1 x)) (l ++ r ∷ []) ≡ map (λ x. fill ps xs (term_of1 x)) l ++ fill ps xs (term_of1 r) ∷ []
  at_end [] r = refl
  at_end (x ∷ l) r = ap (λ m. fill ps xs (term_of1 x) ∷ m) (at_end l r)

  all_filled : (a : S.GenericArg) → term_list (fill_all ps xs (terms_of a)) ≡ map (λ x. fill ps xs (term_of1 x)) (argument_list a)
  all_filled (S.argument r) = refl
  all_filled (S.arguments a z r) = after_all (terms_of a) (term_of1 r) ∙ (ap (λ l. l ++ fill ps xs (term_of1 r) ∷ []) (all_filled a) ∙ sym (at_end (argument_list a) r))

  filled_at : (f : S.Ref) (k : ℕ) (x : S.Type1) → slice_get (arguments f) k ≡ Some x → slice_get (arguments_of (fill_ref ps xs (ref_of f))) k ≡ Some (fill ps xs (term_of1 x))
  filled_at (S.name t) k x e = Standing.some_is_none e
  filled_at (S.applied o a z) k x e = ap (λ l. slice_get l k) (all_filled a) ∙ (slice_get-map (λ x. fill ps xs (term_of1 x)) (argument_list a) k ∙ ap (λ o. option_map (λ x. fill ps xs (term_of1 x)) o) e)

not_none : (a : S.GenericArg) → argument_list a ≢ []
not_none (S.argument r) e = Standing.none_in (subst (λ l. Contains l r) e (Standing.at_head r []))
not_none (S.arguments a z r) e = Standing.none_in (subst (λ l. Contains l r) e (Contains-push (argument_list a) r))

is_one : (ps : List Text) (n : Text) (k : ℕ) → slice_get ps k ≡ Some n → is_in ps n ≡ true
is_one [] n k e = Standing.some_is_none e
is_one (p ∷ ps) n zero e = go (is_same p n) refl
  where
    go : (b : Bool) → b ≡ is_same p n → (b || is_in ps n) ≡ true
    go true h = refl
    go false h = absurd (other_text p n h (Standing.same_some e))
is_one (p ∷ ps) n (suc k) e = go (is_same p n) (is_one ps n k e)
  where
    go : (b : Bool) → is_in ps n ≡ true → (b || is_in ps n) ≡ true
    go true h = refl
    go false h = h

module _ (s : Specification) (root : Text) (clear : IsClear s) where
  in_text : (r : S.Rule) (xs : List Term) (q : Site) → IsReached (rules s) root r xs q → HasSite s r q
  in_text (S.type_rule n a t) xs q (in_body h c) = record { rule = h.present; site = Standing.kept_types q (demands_type true a) t c }
  in_text (S.group_rule n a e) xs q (in_body h c) = record { rule = h.present; site = Standing.kept_entry q e c }
  in_text (S.type_rule n a t) xs p (in_argument {q = q} {f = f} {x = x} h e (used k o m w a' b d) c) = let v = in_text (S.type_rule n a t) xs q h in record { rule = v.rule; site = Standing.within_types q p f x k e d (Standing.kept_type1 p true x c) (demands_type true a) t v.site }
  in_text (S.group_rule n a y) xs p (in_argument {q = q} {f = f} {x = x} h e (used k o m w a' b d) c) = let v = in_text (S.group_rule n a y) xs q h in record { rule = v.rule; site = Standing.within_entry q p f x k e d (Standing.kept_type1 p true x c) y v.site }

  apart : (r : S.Rule) (n : Text) → Contains (rules s) r → (a b : ℕ) → a < b → slice_get (parameters_in r) a ≡ Some n → slice_get (parameters_in r) b ≡ Some n → ⊥
  apart r n c a b l e f = let t = token_at (parameter_tokens (rule_head r)) a n e in let u = token_at (parameter_tokens (rule_head r)) b n f in clear.no_duplicate (u.0.start) (parameter_twice {j = a} {k = b} c l t.1.0 u.1.0 (t.1.1 ∙ sym u.1.1) refl)

  -- at a parameter's site stands its argument
  parameter_for : (r : S.Rule) (ys : List Term) (g : S.Ref) (k : ℕ) (y : Term) → HasName s r g → slice_get (parameters_in r) k ≡ Some (ref_name g) → slice_get ys k ≡ Some y → argument_for (parameters_in r) ys (ref_of g) ≡ Some y
  parameter_for r ys (S.name t) k y v b e = argument_at (parameters_in r) ys (text_of t) y k (apart r (text_of t) v.found.rule) b e
  parameter_for r ys (S.applied o a z) k y v b e = absurd (clear.no_wrong_arity (o.start) (by_parameter v (is_one (parameters_in r) (ref_name (S.applied o a z)) k b) (not_none a) refl))

  as_argument : (r : S.Rule) (ys : List Term) (u : Site) (g : S.Ref) (k : ℕ) (y : Term) (p : Point) → HasSite s r u → ref_at_site u ≡ Some g → slice_get (parameters_in r) k ≡ Some (ref_name g) → slice_get ys k ≡ Some y → Contains (points y) p → Contains (Standing.site_points (parameters_in r) ys u) p
  as_argument r ys (a_name d f) g k y p v a b e c = subst (λ o. Contains (points (or_else o (named (fill_ref (parameters_in r) ys (ref_of f))))) p) (sym (parameter_for r ys f k y (record { at = a_name d f; found = v; name = refl }) (b ∙ ap (λ m. Some (ref_name m)) (sym (Standing.same_some a))) e)) c
  as_argument r ys (an_unwrapping d t f) g k y p v a b e c = subst (λ o. Contains (points (or_else o (unwrapped (fill_ref (parameters_in r) ys (ref_of f))))) p) (sym (parameter_for r ys f k y (record { at = an_unwrapping d t f; found = v; name = refl }) (b ∙ ap (λ m. Some (ref_name m)) (sym (Standing.same_some a))) e)) c
  as_argument r ys (a_choice_of_name t f) g k y p v a b e c = absurd (clear.no_group_as_type ((ref_token f).start) (type_name v (ap (λ m. if m then false else is_group (definitions s) (ref_name f)) (is_one (parameters_in r) (ref_name f) k (b ∙ ap (λ m. Some (ref_name m)) (sym (Standing.same_some a))))) refl))
  as_argument r ys _ g k y p v a b e c = Standing.some_is_none a

  pub present : (r : S.Rule) (xs : List Term) (q : Site) (p : Point) → IsReached (rules s) root r xs q → Contains (Standing.site_points (parameters_in r) xs q) p → IsPresent (definitions s) root p
  present r xs q p (in_body {i = i} h c) d = standing h.reached (in_meaning (rules s) r i p h.present h.named (λ m e f. clear.one_equals h.present e f) (in_filled r xs q p d c))
  present r xs q p (in_argument {f = f} {x = x} h e (used {s = t} {u = u} {g = g} k n m w a b v) c) d = present t (closed_arguments (rules s) root r xs f) u p w (as_argument t (closed_arguments (rules s) root r xs f) u g k (fill (parameters_in r) xs (term_of1 x)) p (in_text t (closed_arguments (rules s) root r xs f) u w) a b (filled_at (parameters_in r) xs f k x v) (Standing.points_type1 (parameters_in r) xs q p d true x c))

  pub references : (r : S.Rule) (xs : List Term) (q : Site) (f : S.Ref) → IsReached (rules s) root r xs q → ref_at_site q ≡ Some f → is_parameter r (ref_name f) ≡ false → Reaches (definitions s) root (fill_ref (parameters_in r) xs (ref_of f))
  references r xs q f h e n = let v = closed_point (parameters_in r) xs q f e n in subst (λ m. Reaches (definitions s) root m) v.1.1.0 (present_reach (definitions s) root v.0 (present r xs q v.0 h v.1.0))

  pub standing_there : (r : S.Rule) (xs : List Term) (q : Site) (f : S.Ref) (p : Point) → IsReached (rules s) root r xs q → ref_at_site q ≡ Some f → is_parameter r (ref_name f) ≡ false → point_at q (fill_ref (parameters_in r) xs (ref_of f)) ≡ Some p → IsPresent (definitions s) root p
  standing_there r xs q f p h e n w = let v = closed_point (parameters_in r) xs q f e n in subst (λ m. IsPresent (definitions s) root m) (Standing.same_some (sym v.1.1.1 ∙ w)) (present r xs q v.0 h v.1.0)

  -- what stands in the group after `&` and of a map, and in an operand
  pub in_group_there : (r : S.Rule) (xs : List Term) (t : Token) (g : S.Group) (p : Point) → IsReached (rules s) root r xs (a_choice_of t g) → Contains (group_points (fill_group (parameters_in r) xs (group_of g))) p → Reaches (definitions s) root (ref_at p)
  in_group_there r xs t g p h c = present_reach (definitions s) root p (present r xs (a_choice_of t g) p h c)

  pub in_map_there : (r : S.Rule) (xs : List Term) (t : Token) (g : S.Group) (p : Point) → IsReached (rules s) root r xs (a_map t g) → Contains (group_points (fill_group (parameters_in r) xs (group_of g))) p → Reaches (definitions s) root (ref_at p)
  in_map_there r xs t g p h c = present_reach (definitions s) root p (present r xs (a_map t g) p h c)

  pub chosen_there : (r : S.Rule) (xs : List Term) (t : Token) (f : S.Ref) → IsReached (rules s) root r xs (a_choice_of_name t f) → Reaches (definitions s) root (fill_ref (parameters_in r) xs (ref_of f))
  chosen_there r xs t f h = let p = at_choice (fill_ref (parameters_in r) xs (ref_of f)) in present_reach (definitions s) root p (present r xs (a_choice_of_name t f) p h (Standing.at_head p []))

  pub in_first_there : (r : S.Rule) (xs : List Term) (x y : S.Type2) (o : S.Operator) (p : Point) → IsReached (rules s) root r xs (an_operation x o y) → Contains (points (fill (parameters_in r) xs (term_of2 x))) p → Reaches (definitions s) root (ref_at p)
  in_first_there r xs x y o p h c = present_reach (definitions s) root p (present r xs (an_operation x o y) p h (Contains-append_left (points (fill (parameters_in r) xs (term_of2 x))) (points (fill (parameters_in r) xs (term_of2 y))) p c))

  pub in_last_there : (r : S.Rule) (xs : List Term) (x y : S.Type2) (o : S.Operator) (p : Point) → IsReached (rules s) root r xs (an_operation x o y) → Contains (points (fill (parameters_in r) xs (term_of2 y))) p → Reaches (definitions s) root (ref_at p)
  in_last_there r xs x y o p h c = present_reach (definitions s) root p (present r xs (an_operation x o y) p h (Contains-append_right (points (fill (parameters_in r) xs (term_of2 x))) (points (fill (parameters_in r) xs (term_of2 y))) p c))

  -- what stands in a rule's body
  pub in_body_there : (r : S.Rule) (i : Ref) (p : Point) → IsInstance (rules s) root r i → Contains (body_points (fill_body (definition_of r).parameters (arguments_of i) (definition_of r).body)) p → Reaches (definitions s) root (ref_at p)
  in_body_there r i p h c = onward h.reached (in_meaning (rules s) r i p h.present h.named (λ m e f. clear.one_equals h.present e f) c) refl

  same_name : (ps : List Text) (xs : List Term) (f : S.Ref) → name_of (fill_ref ps xs (ref_of f)) ≡ ref_name f
  same_name ps xs (S.name t) = refl
  same_name ps xs (S.applied o a z) = refl

  pub reached : (r : S.Rule) (i : Ref) (p : Site) → IsInstance (rules s) root r i → IsLive (rules s) r p → IsReached (rules s) root r (arguments_of i) p
  reached r i p h (outer c) = in_body h c
  reached r i p h (inner {q = q} {f = f} {x = x} k l e n v (slot {s = t} {u = u} {g = g} m y z w a b) c) = let d = reached r i q h l in let j = references r (arguments_of i) q f d e n in in_argument d e (used k n z (reached t (fill_ref (parameters_in r) (arguments_of i) (ref_of f)) u (record { reached = j; named = same_name (parameters_in r) (arguments_of i) f ∙ sym z; present = y }) w) a b v) c

-- what a rule says is among what its name means
pub is_defined : (s : Specification) → IsClear s → (r : S.Rule) → Contains (rules s) r → Contains (definitions_of (definitions s) (name_in r)) (definition_of r)
is_defined s clear r c = Contains-append_right (from_prelude (definitions s) (name_in r)) (counting false (named_so (name_in r) (definitions s))) (definition_of r) (counts (name_in r) (rules s) r c refl (λ q e f. clear.one_equals c e f))
