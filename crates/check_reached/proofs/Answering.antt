-- What was asked, site by site, is what is to be asked.
use Rattle.std.proofs.Common.{◌≡◌, true, List, [], ◌∷◌, ◌++◌, ◌⊎◌, inl, inr, Option, Some, None, option_map, slice_get, true≢false, refl, sym, ap, subst, ◌∙◌}
use Rattle.std.proofs.lemmas.Option.{same_Some}
use Rattle.cddl_token.specs.declared.Token.{Token}
use Rattle.tree_nodes.specs.Syntax.Syntax as S
use Rattle.tree_nodes.specs.declared.tree.Leaf.{Leaf}
use Rattle.cddl_language.specs.Controls.{Comparison, Computation, Control, compared, comparison_in, computation_in, computed, control_of, held_item, held_sequence, left_alone, left_and_right, Membership, member, membership_in}
use Rattle.cddl_language.specs.Faults.{Specification, comparison_of, computation_of, definitions, is_range_sign, membership_of, rules}
use Rattle.cddl_language.specs.Reading.{control_name, group_of, name_in, operation, parameters_in, ref_of, term_of2}
use Rattle.cddl_language.specs.Sites.{IsReached, Site, a_name, an_unwrapping, a_choice_of, a_choice_of_name, a_hash, an_operation, an_entry, a_map}
use Rattle.cddl_language.specs.StandsFor.{AreInstances}
use Rattle.cddl_language.specs.Substitution.{fill, fill_entry, fill_group, fill_ref}
use Rattle.cddl_language.specs.Terms.{Entry, Group, Ref, Term, Text, arguments_of}
use Rattle.check_terms.specs.Filled.{filled, term_trees}
use Rattle.check_terms.specs.Table.{Holds, Table, Tree, nothing}
use Rattle.check_terms.specs.Trees.{entry_tree, group_tree, ref_tree, term_tree}
use Rattle.cddl_language.specs.Live.Live.{IsClear}
use Rattle.check_sites.specs.declared.sites.site.Found.{Found}
use Rattle.check_sites.specs.Sites.View.{view_site}
use Rattle.check_reached.specs.Calls.{refs_named}
use Rattle.check_live.specs.Live.{AreLive}
use Rattle.check_reached.specs.declared.asked.Asked.{Asked}
use Rattle.check_reading.specs.declared.parts.part.Question.TheVariants as QuestionV
use Rattle.check_reached.specs.Asked.{AreAnswers, no_answers, further_answer, AreAsked, IsAnswer, IsAsked, choosing, choosing_by_name, computation, controller, first_end, last_end, left_operand, of_map, members_controller, WasAsked, wanted_all, wanted_at, wanted_by, wanted_each, wanted_in, wanted_some, wanted_there}
use Rattle.check_reading.specs.Parts.{Wanted, comparand_question, computation_wanted, controller_wanted, end_of, first_part, last_part, members_question, operand_question, operand_wanted, question_of_operand}
use Rattle.check_reached.proofs.Lists.{IsIn, contained_place, contains, in_either, in_first, in_second, is_in}
use Rattle.check_reached.proofs.Reaching.{Laws, instance_of, ref_of_instance}

-- Answers, one for one.

pub answer_of : (t : Table) (answers : List Asked) (ws : List Wanted) (a : Asked) → AreAnswers t answers ws → IsIn a answers → (w : Wanted) × (IsIn w ws × IsAnswer t a w)
answer_of t answers ws a no_answers k = absurd k
answer_of t answers ws a (further_answer {a = b} {w = v} h hs) (inl e) = (v, (inl refl, subst (λ x. IsAnswer t x v) (sym e) h))
answer_of t answers ws a (further_answer {answers = more} {ws = vs} h hs) (inr k) = let w = answer_of t more vs a hs k in (w.0, (inr w.1.0, w.1.1))

pub wanted_answer : (t : Table) (answers : List Asked) (ws : List Wanted) (w : Wanted) → AreAnswers t answers ws → IsIn w ws → (a : Asked) × (IsIn a answers × IsAnswer t a w)
wanted_answer t answers ws w no_answers k = absurd k
wanted_answer t answers ws w (further_answer {a = b} {w = v} h hs) (inl e) = (b, (inl refl, subst (IsAnswer t b) (sym e) h))
wanted_answer t answers ws w (further_answer {answers = more} {ws = vs} h hs) (inr k) = let a = wanted_answer t more vs w hs k in (a.0, (inr a.1.0, a.1.1))

pub in_each : (ps : List Text) (v w : Wanted) (refs : List Ref) → IsIn v (wanted_each ps w refs) → (r : Ref) × (IsIn r refs × (v ≡ wanted_in ps w r))
in_each ps v w [] h = absurd h
in_each ps v w (r ∷ refs) (inl e) = (r, (inl refl, e))
in_each ps v w (r ∷ refs) (inr h) = let q = in_each ps v w refs h in (q.0, (inr q.1.0, q.1.1))

pub each_in : (ps : List Text) (w : Wanted) (refs : List Ref) (r : Ref) → IsIn r refs → IsIn (wanted_in ps w r) (wanted_each ps w refs)
each_in ps w [] r h = absurd h
each_in ps w (q ∷ refs) r (inl e) = inl (ap (wanted_in ps w) e)
each_in ps w (q ∷ refs) r (inr h) = inr (each_in ps w refs r h)

module _ {A : Type 0} (of : A → List Wanted) where
  pub in_all : (xs : List A) (w : Wanted) → IsIn w (wanted_by of xs) → (x : A) × (IsIn x xs × IsIn w (of x))
  in_all [] w h = absurd h
  in_all (x ∷ xs) w h = by (in_either (of x) (wanted_by of xs) w h) (in_all xs w)
    where
      by : IsIn w (of x) ⊎ IsIn w (wanted_by of xs) → (IsIn w (wanted_by of xs) → (y : A) × (IsIn y xs × IsIn w (of y))) → (y : A) × (((y ≡ x) ⊎ IsIn y xs) × IsIn w (of y))
      by (inl k) so = (x, (inl refl, k))
      by (inr k) so = let q = so k in (q.0, (inr q.1.0, q.1.1))

  pub all_in : (xs : List A) (w : Wanted) (x : A) → IsIn x xs → IsIn w (of x) → IsIn w (wanted_by of xs)
  all_in [] w x h k = absurd h
  all_in (y ∷ xs) w x (inl e) k = in_first (of y) (wanted_by of xs) w (subst (λ z. IsIn w (of z)) e k)
  all_in (y ∷ xs) w x (inr h) k = in_second (of y) (wanted_by of xs) w (all_in xs w x h k)

-- To put arguments into a tree is to put them into what it is of.
pub record Trees : Type 0 where
  pub term : (ps : List Text) (xs : List Term) (t : Term) → filled ps (term_trees xs) (term_tree t) ≡ term_tree (fill ps xs t)
  pub reference : (ps : List Text) (xs : List Term) (r : Ref) → filled ps (term_trees xs) (ref_tree r) ≡ ref_tree (fill_ref ps xs r)
  pub entry : (ps : List Text) (xs : List Term) (e : Entry) → filled ps (term_trees xs) (entry_tree e) ≡ entry_tree (fill_entry ps xs e)
  pub group : (ps : List Text) (xs : List Term) (g : Group) → filled ps (term_trees xs) (group_tree g) ≡ group_tree (fill_group ps xs g)

-- What is asked at a site of the rule, of these references.
module _ (trees : Trees) (rs : List S.Rule) (root : Text) (t : Table) (r : S.Rule) (refs : List Ref) where
  -- of the first end of a range
  first_asked : (x y : S.Type2) (o : S.Operator) → is_range_sign o ≡ true → ((i : Ref) → IsIn i refs → IsReached rs root r (arguments_of i) (an_operation x o y)) → (a : Asked) (w : Wanted) → IsIn w (wanted_each (parameters_in r) (end_of x) refs) → IsAnswer t a w → IsAsked rs root t a
  first_asked x y o g reach a w m k =
      let e = in_each (parameters_in r) w (end_of x) refs m in
      first_end {x = x} {y = y} {o = o} (reach e.0 e.1.0) g (subst (Holds t (Some a.row)) (ap (λ (v : Wanted). v.tree) e.1.1 ∙ trees.term (parameters_in r) (arguments_of e.0) (term_of2 x)) k.holds) (k.at ∙ ap (λ (v : Wanted). v.at) e.1.1) (k.question ∙ ap (λ (v : Wanted). v.question) e.1.1)

  -- of the left side of a control, by how it computes
  left_asked : (x y : S.Type2) (u : Token) (o : Option Computation) → computation_of (S.control u) ≡ o → ((i : Ref) → IsIn i refs → IsReached rs root r (arguments_of i) (an_operation x (S.control u) y)) → (a : Asked) (w : Wanted) → IsIn w (wanted_some (parameters_in r) (option_map (operand_wanted x) (question_of_operand o)) refs) → IsAnswer t a w → IsAsked rs root t a
  left_asked x y u None g reach a w m k = absurd m
  left_asked x y u (Some c) g reach a w m k =
      let e = in_each (parameters_in r) w (operand_wanted x (operand_question c)) refs m in
      left_operand {x = x} {y = y} {o = S.control u} {c = c} (reach e.0 e.1.0) g (subst (Holds t (Some a.row)) (ap (λ (v : Wanted). v.tree) e.1.1 ∙ trees.term (parameters_in r) (arguments_of e.0) (term_of2 x)) k.holds) (k.at ∙ ap (λ (v : Wanted). v.at) e.1.1) (k.question ∙ ap (λ (v : Wanted). v.question) e.1.1)

  asked_first : (p : Site) → ((i : Ref) → IsIn i refs → IsReached rs root r (arguments_of i) p) → (a : Asked) (w : Wanted) → IsIn w (wanted_some (parameters_in r) (first_part p) refs) → IsAnswer t a w → IsAsked rs root t a
  asked_first (a_name b f) reach a w h k = absurd h
  asked_first (an_unwrapping b u f) reach a w h k = absurd h
  asked_first (a_choice_of u g) reach a w h k =
      let e = in_each (parameters_in r) w (record { at = u.start; question = QuestionV.ChoosesFrom; tree = group_tree (group_of g); call = nothing }) refs h in
      choosing {u = u} {g = g} (reach e.0 e.1.0) (subst (Holds t (Some a.row)) (ap (λ (v : Wanted). v.tree) e.1.1 ∙ trees.group (parameters_in r) (arguments_of e.0) (group_of g)) k.holds) (k.at ∙ ap (λ (v : Wanted). v.at) e.1.1) (k.question ∙ ap (λ (v : Wanted). v.question) e.1.1)
  asked_first (a_choice_of_name u f) reach a w h k =
      let e = in_each (parameters_in r) w (record { at = u.start; question = QuestionV.ChoosesByName; tree = ref_tree (ref_of f); call = nothing }) refs h in
      choosing_by_name {u = u} {f = f} (reach e.0 e.1.0) (subst (Holds t (Some a.row)) (ap (λ (v : Wanted). v.tree) e.1.1 ∙ trees.reference (parameters_in r) (arguments_of e.0) (ref_of f)) k.holds) (k.at ∙ ap (λ (v : Wanted). v.at) e.1.1) (k.question ∙ ap (λ (v : Wanted). v.question) e.1.1)
  asked_first (a_hash u) reach a w h k = absurd h
  asked_first (an_operation x (S.range u) y) reach a w h k = first_asked x y (S.range u) refl reach a w h k
  asked_first (an_operation x (S.range_below u) y) reach a w h k = first_asked x y (S.range_below u) refl reach a w h k
  asked_first (an_operation x (S.control u) y) reach a w h k = left_asked x y u (computation_of (S.control u)) refl reach a w h k
  asked_first (an_entry e) reach a w h k = absurd h
  asked_first (a_map u g) reach a w h k =
      let e = in_each (parameters_in r) w (record { at = u.start; question = QuestionV.MapGroup; tree = group_tree (group_of g); call = nothing }) refs h in
      of_map {u = u} {g = g} (reach e.0 e.1.0) (subst (Holds t (Some a.row)) (ap (λ (v : Wanted). v.tree) e.1.1 ∙ trees.group (parameters_in r) (arguments_of e.0) (group_of g)) k.holds) (k.at ∙ ap (λ (v : Wanted). v.at) e.1.1) (k.question ∙ ap (λ (v : Wanted). v.question) e.1.1)

  -- of the last end of a range
  end_asked : (x y : S.Type2) (o : S.Operator) → is_range_sign o ≡ true → ((i : Ref) → IsIn i refs → IsReached rs root r (arguments_of i) (an_operation x o y)) → (a : Asked) (w : Wanted) → IsIn w (wanted_each (parameters_in r) (end_of y) refs) → IsAnswer t a w → IsAsked rs root t a
  end_asked x y o g reach a w m k =
      let e = in_each (parameters_in r) w (end_of y) refs m in
      last_end {x = x} {y = y} {o = o} (reach e.0 e.1.0) g (subst (Holds t (Some a.row)) (ap (λ (v : Wanted). v.tree) e.1.1 ∙ trees.term (parameters_in r) (arguments_of e.0) (term_of2 y)) k.holds) (k.at ∙ ap (λ (v : Wanted). v.at) e.1.1) (k.question ∙ ap (λ (v : Wanted). v.question) e.1.1)

  -- of the right side of a control, by what it is
  right_asked : (x y : S.Type2) (u : Token) (o : Option Control) → control_of (control_name u) ≡ o → ((i : Ref) → IsIn i refs → IsReached rs root r (arguments_of i) (an_operation x (S.control u) y)) → (a : Asked) (w : Wanted) → IsIn w (wanted_some (parameters_in r) (controller_wanted x (S.control u) y o) refs) → IsAnswer t a w → IsAsked rs root t a
  right_asked x y u None g reach a w m k = absurd m
  right_asked x y u (Some left_alone) g reach a w m k = absurd m
  right_asked x y u (Some left_and_right) g reach a w m k = absurd m
  right_asked x y u (Some held_item) g reach a w m k = absurd m
  right_asked x y u (Some held_sequence) g reach a w m k = absurd m
  right_asked x y u (Some (compared c)) g reach a w m k =
      let e = in_each (parameters_in r) w (operand_wanted y (comparand_question c)) refs m in
      controller {x = x} {y = y} {o = S.control u} {c = c} (reach e.0 e.1.0) (ap comparison_in g) (subst (Holds t (Some a.row)) (ap (λ (v : Wanted). v.tree) e.1.1 ∙ trees.term (parameters_in r) (arguments_of e.0) (term_of2 y)) k.holds) (k.at ∙ ap (λ (v : Wanted). v.at) e.1.1) (k.question ∙ ap (λ (v : Wanted). v.question) e.1.1)
  right_asked x y u (Some (member d)) g reach a w m k =
      let e = in_each (parameters_in r) w (operand_wanted y (members_question d)) refs m in
      members_controller {x = x} {y = y} {o = S.control u} {m = d} (reach e.0 e.1.0) (ap membership_in g) (subst (Holds t (Some a.row)) (ap (λ (v : Wanted). v.tree) e.1.1 ∙ trees.term (parameters_in r) (arguments_of e.0) (term_of2 y)) k.holds) (k.at ∙ ap (λ (v : Wanted). v.at) e.1.1) (k.question ∙ ap (λ (v : Wanted). v.question) e.1.1)
  right_asked x y u (Some (computed c)) g reach a w m k =
      let e = in_each (parameters_in r) w (computation_wanted x (S.control u) y) refs m in
      computation {x = x} {y = y} {o = S.control u} {c = c} (reach e.0 e.1.0) (ap computation_in g) (subst (Holds t (Some a.row)) (ap (λ (v : Wanted). v.tree) e.1.1 ∙ trees.term (parameters_in r) (arguments_of e.0) (operation (term_of2 x) (S.control u) (term_of2 y))) k.holds) (k.at ∙ ap (λ (v : Wanted). v.at) e.1.1) (k.question ∙ ap (λ (v : Wanted). v.question) e.1.1)

  asked_last : (p : Site) → ((i : Ref) → IsIn i refs → IsReached rs root r (arguments_of i) p) → (a : Asked) (w : Wanted) → IsIn w (wanted_some (parameters_in r) (last_part p) refs) → IsAnswer t a w → IsAsked rs root t a
  asked_last (a_name b f) reach a w h k = absurd h
  asked_last (an_unwrapping b u f) reach a w h k = absurd h
  asked_last (a_choice_of u g) reach a w h k = absurd h
  asked_last (a_choice_of_name u f) reach a w h k = absurd h
  asked_last (a_hash u) reach a w h k = absurd h
  asked_last (an_operation x (S.range u) y) reach a w h k = end_asked x y (S.range u) refl reach a w h k
  asked_last (an_operation x (S.range_below u) y) reach a w h k = end_asked x y (S.range_below u) refl reach a w h k
  asked_last (an_operation x (S.control u) y) reach a w h k = right_asked x y u (control_of (control_name u)) refl reach a w h k
  asked_last (an_entry e) reach a w h k = absurd h
  asked_last (a_map u g) reach a w h k = absurd h

-- a part of a site is among what is wanted there
in_part : (ps : List Text) (p : Site) (w : Wanted) (refs : List Ref) (v : Wanted) → (first_part p ≡ Some w) ⊎ (last_part p ≡ Some w) → IsIn v (wanted_each ps w refs) → IsIn v (wanted_some ps (first_part p) refs ++ wanted_some ps (last_part p) refs)
in_part ps p w refs v (inl e) h = in_first (wanted_some ps (first_part p) refs) (wanted_some ps (last_part p) refs) v (subst (λ o. IsIn v (wanted_some ps o refs)) (sym e) h)
in_part ps p w refs v (inr e) h = in_second (wanted_some ps (first_part p) refs) (wanted_some ps (last_part p) refs) v (subst (λ o. IsIn v (wanted_some ps o refs)) (sym e) h)

-- What is wanted of both sides of an operation.

first_of_range : (x y : S.Type2) (o : S.Operator) → is_range_sign o ≡ true → first_part (an_operation x o y) ≡ Some (end_of x)
first_of_range x y (S.range t) e = refl
first_of_range x y (S.range_below t) e = refl
first_of_range x y (S.control t) e = absurd (true≢false (sym e))

last_of_range : (x y : S.Type2) (o : S.Operator) → is_range_sign o ≡ true → last_part (an_operation x o y) ≡ Some (end_of y)
last_of_range x y (S.range t) e = refl
last_of_range x y (S.range_below t) e = refl
last_of_range x y (S.control t) e = absurd (true≢false (sym e))

left_of_computation : (x y : S.Type2) (o : S.Operator) (c : Computation) → computation_of o ≡ Some c → first_part (an_operation x o y) ≡ Some (operand_wanted x (operand_question c))
left_of_computation x y (S.range t) c e = cc
left_of_computation x y (S.range_below t) c e = cc
left_of_computation x y (S.control t) c e = ap (λ o. option_map (operand_wanted x) (question_of_operand o)) e

right_of_comparison : (x y : S.Type2) (o : S.Operator) (c : Comparison) → comparison_of o ≡ Some c → last_part (an_operation x o y) ≡ Some (operand_wanted y (comparand_question c))
right_of_comparison x y (S.range t) c e = cc
right_of_comparison x y (S.range_below t) c e = cc
right_of_comparison x y (S.control t) c e = by (control_of (control_name t)) e
  where
    by : (o : Option Control) → comparison_in o ≡ Some c → controller_wanted x (S.control t) y o ≡ Some (operand_wanted y (comparand_question c))
    by None g = cc
    by (Some left_alone) g = cc
    by (Some left_and_right) g = cc
    by (Some held_item) g = cc
    by (Some held_sequence) g = cc
    by (Some (compared d)) g = ap (λ k. Some (operand_wanted y (comparand_question k))) (same_Some d c g)
    by (Some (member m)) g = cc
    by (Some (computed d)) g = cc

right_of_members : (x y : S.Type2) (o : S.Operator) (m : Membership) → membership_of o ≡ Some m → last_part (an_operation x o y) ≡ Some (operand_wanted y (members_question m))
right_of_members x y (S.range t) m e = cc
right_of_members x y (S.range_below t) m e = cc
right_of_members x y (S.control t) m e = by (control_of (control_name t)) e
  where
    by : (o : Option Control) → membership_in o ≡ Some m → controller_wanted x (S.control t) y o ≡ Some (operand_wanted y (members_question m))
    by None g = cc
    by (Some left_alone) g = cc
    by (Some left_and_right) g = cc
    by (Some held_item) g = cc
    by (Some held_sequence) g = cc
    by (Some (compared d)) g = cc
    by (Some (member d)) g = ap (λ k. Some (operand_wanted y (members_question k))) (same_Some d m g)
    by (Some (computed d)) g = cc

whole_computation : (x y : S.Type2) (o : S.Operator) (c : Computation) → computation_of o ≡ Some c → last_part (an_operation x o y) ≡ Some (computation_wanted x o y)
whole_computation x y (S.range t) c e = cc
whole_computation x y (S.range_below t) c e = cc
whole_computation x y (S.control t) c e = by (control_of (control_name t)) e
  where
    by : (o : Option Control) → computation_in o ≡ Some c → controller_wanted x (S.control t) y o ≡ Some (computation_wanted x (S.control t) y)
    by None g = cc
    by (Some left_alone) g = cc
    by (Some left_and_right) g = cc
    by (Some held_item) g = cc
    by (Some held_sequence) g = cc
    by (Some (compared d)) g = cc
    by (Some (member m)) g = cc
    by (Some (computed d)) g = refl

module _ (laws : Laws) (trees : Trees) (s : Specification) (root : Text) (clear : IsClear s) (refs : List Ref) (are : AreInstances (definitions s) root refs) (read : Leaf → Token) (fs : List Found) (live : AreLive (rules s) read fs) (t : Table) (answers : List Asked) (all : AreAnswers t answers (wanted_all read (rules s) refs fs)) where
  sound : (a : Asked) → IsIn a answers → IsAsked (rules s) root t a
  sound a h =
      let w = answer_of t answers (wanted_all read (rules s) refs fs) a all h in
      let f = in_all (wanted_at read (rules s) refs) fs w.0 w.1.0 in
      let so = live.sound f.0 (contains fs f.0 f.1.0) in
      let r = so.0 in
      let p = view_site read f.0.site in
      let named = refs_named (name_in r) refs in
      let there = subst (λ o. IsIn w.0 (wanted_there refs o p)) so.1.0 f.1.1 in
      by r p (λ i k. laws.reached s root clear r i p (instance_of laws s root clear refs are f.0.rule r i so.1.0 k) so.1.1) w.0 w.1.1 (in_either (wanted_some (parameters_in r) (first_part p) named) (wanted_some (parameters_in r) (last_part p) named) w.0 there)
    where
      by : (r : S.Rule) (p : Site) → ((i : Ref) → IsIn i (refs_named (name_in r) refs) → IsReached (rules s) root r (arguments_of i) p) → (w : Wanted) → IsAnswer t a w → IsIn w (wanted_some (parameters_in r) (first_part p) (refs_named (name_in r) refs)) ⊎ IsIn w (wanted_some (parameters_in r) (last_part p) (refs_named (name_in r) refs)) → IsAsked (rules s) root t a
      by r p reach w k (inl m) = asked_first trees (rules s) root t r (refs_named (name_in r) refs) p reach a w m k
      by r p reach w k (inr m) = asked_last trees (rules s) root t r (refs_named (name_in r) refs) p reach a w m k

  was_asked : (r : S.Rule) (xs : List Term) (p : Site) (w : Wanted) (x : Tree) → IsReached (rules s) root r xs p → (first_part p ≡ Some w) ⊎ (last_part p ≡ Some w) → filled (parameters_in r) (term_trees xs) w.tree ≡ x → WasAsked (rules s) root t answers w.at w.question x
  was_asked r xs p w x h part same =
      let i = laws.instance (rules s) root r xs p h in
      let k = contained_place (rules s) r i.1.0.present in
      let f = live.complete k.0 r p k.1 (laws.live (rules s) root r xs p h) in
      let named = refs_named (name_in r) refs in
      let v = wanted_in (parameters_in r) w i.0 in
      let one = each_in (parameters_in r) w named i.0 (ref_of_instance laws s root clear refs are r i.0 i.1.0) in
      let site = subst (λ q. IsIn v (wanted_there refs (Some r) q)) (sym f.1.1.1) (in_part (parameters_in r) p w named v part one) in
      let at = subst (λ o. IsIn v (wanted_there refs o (view_site read f.0.site))) (sym (ap (slice_get (rules s)) f.1.1.0 ∙ k.1)) site in
      let a = wanted_answer t answers (wanted_all read (rules s) refs fs) v all (all_in (wanted_at read (rules s) refs) fs v f.0 (is_in fs f.0 f.1.0) at) in
      record { asked = a.0; contained = contains answers a.0 a.1.0; same_at = a.1.1.at; same_question = a.1.1.question; holds = subst (Holds t (Some a.0.row)) (ap (λ ys. filled (parameters_in r) (term_trees ys) w.tree) (sym i.1.1) ∙ same) a.1.1.holds }

  pub are_asked : AreAsked (rules s) root t answers
  are_asked = record {
    sound = λ a h. sound a (is_in answers a h);
    groups = λ r xs u g h. was_asked r xs (a_choice_of u g) (record { at = u.start; question = QuestionV.ChoosesFrom; tree = group_tree (group_of g); call = nothing }) (group_tree (fill_group (parameters_in r) xs (group_of g))) h (inl refl) (trees.group (parameters_in r) xs (group_of g));
    references = λ r xs u f h. was_asked r xs (a_choice_of_name u f) (record { at = u.start; question = QuestionV.ChoosesByName; tree = ref_tree (ref_of f); call = nothing }) (ref_tree (fill_ref (parameters_in r) xs (ref_of f))) h (inl refl) (trees.reference (parameters_in r) xs (ref_of f));
    first_ends = λ r xs x y o h e. was_asked r xs (an_operation x o y) (end_of x) (term_tree (fill (parameters_in r) xs (term_of2 x))) h (inl (first_of_range x y o e)) (trees.term (parameters_in r) xs (term_of2 x));
    last_ends = λ r xs x y o h e. was_asked r xs (an_operation x o y) (end_of y) (term_tree (fill (parameters_in r) xs (term_of2 y))) h (inr (last_of_range x y o e)) (trees.term (parameters_in r) xs (term_of2 y));
    controllers = λ r xs x y o c h e. was_asked r xs (an_operation x o y) (operand_wanted y (comparand_question c)) (term_tree (fill (parameters_in r) xs (term_of2 y))) h (inr (right_of_comparison x y o c e)) (trees.term (parameters_in r) xs (term_of2 y));
    members_controllers = λ r xs x y o m h e. was_asked r xs (an_operation x o y) (operand_wanted y (members_question m)) (term_tree (fill (parameters_in r) xs (term_of2 y))) h (inr (right_of_members x y o m e)) (trees.term (parameters_in r) xs (term_of2 y));
    left_operands = λ r xs x y o c h e. was_asked r xs (an_operation x o y) (operand_wanted x (operand_question c)) (term_tree (fill (parameters_in r) xs (term_of2 x))) h (inl (left_of_computation x y o c e)) (trees.term (parameters_in r) xs (term_of2 x));
    computations = λ r xs x y o c h e. was_asked r xs (an_operation x o y) (computation_wanted x o y) (term_tree (fill (parameters_in r) xs (operation (term_of2 x) o (term_of2 y)))) h (inr (whole_computation x y o c e)) (trees.term (parameters_in r) xs (operation (term_of2 x) o (term_of2 y)));
    maps = λ r xs u g h. was_asked r xs (a_map u g) (record { at = u.start; question = QuestionV.MapGroup; tree = group_tree (group_of g); call = nothing }) (group_tree (fill_group (parameters_in r) xs (group_of g))) h (inl refl) (trees.group (parameters_in r) xs (group_of g));
  }
