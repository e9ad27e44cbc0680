-- What is answered of `&` is whether it can choose.
use Rattle.std.proofs.Common.{◌≡◌, ℕ, zero, suc, Bool, true, false, if◌then◌else◌, ◌↔◌, List, [], Option, Some, None, is_some, slice_get, refl, sym, ap, ◌∙◌, true≢false}
use Rattle.std.specs.List.{Contains}
use Rattle.std.proofs.lemmas.Option.{same_Some}
use Rattle.cddl_token.specs.declared.Token.{Token}
use Rattle.tree_nodes.specs.Syntax.Syntax as S
use Rattle.cddl_language.specs.Choices.{chosen, chosen_by_name, chosen_in}
use Rattle.cddl_language.specs.Controls.{Comparison, is_ordering, Computation, Membership, of_size, of_bits, sum, join}
use Rattle.cddl_language.specs.Faults.{Specification, definitions, rules}
use Rattle.cddl_language.specs.Reach.{Point, Reaches, group_points, most_instances, ref_at}
use Rattle.cddl_language.specs.Reading.{group_of, parameters_in, ref_of}
use Rattle.cddl_language.specs.Sites.{IsReached, a_choice_of, a_choice_of_name}
use Rattle.cddl_language.specs.Substitution.{fill_group, fill_ref, group_choices}
use Rattle.cddl_language.specs.Terms.{Entries, Group, Ref, Term, Text, alternatives}
use Rattle.check_terms.specs.Table.{Table}
use Rattle.check_terms.specs.Trees.{IsGroup, IsRef}
use Rattle.lists.specs.Least.{IsLeast}
use Rattle.check_instances.specs.declared.closed.closed.Closed.{Closed}
use Rattle.check_instances.specs.declared.closed.closed.Meaning.{Meaning}
use Rattle.check_instances.specs.Closed.Closed.{AreAlternatives, no_alternatives, alternatives_of, AreReached, IsMeaning}
use Rattle.check_groups.specs.Choosing.Choosing.{AreChoosable}
use Rattle.check_reached.specs.declared.asked.Asked.{Asked}
use Rattle.check_reading.specs.declared.parts.part.Question.{Question}
use Rattle.check_reading.specs.declared.parts.part.Question.TheVariants as QuestionV
use Rattle.check_reached.specs.Asked.{AreAsked, IsAsked, choosing, choosing_by_name, computation, controller, first_end, last_end, left_operand, members_controller, of_map}
use Rattle.check_reading.specs.Parts.{comparand_question, members_question, operand_question}
use Rattle.check_root.specs.ReachedFaults.Choices.{ChoosesFromNone, from_none, from_no_name, chooses, flag_in, from_group, from_meaning, is_choosable_by_name, meaning_in, place_in, unchosen_at, unless}
use Rattle.all_offsets.specs.Offsets.{AreOffsets, IsAtPlace, IsSaid}
use Rattle.all_offsets.proofs.Lemmas.{all_of_members}
use Rattle.check_root.specs.Least.{least_over}
use Rattle.check_root.proofs.Least.{least_of_members}

same_flag : (o : Option Bool) (b : Bool) → (o ≡ Some true) ↔ (b ≡ true) → flag_in o ≡ b
same_flag None true h = absurd (no_flag (h.1 refl))
  where
    no_flag : None ≡ Some true → ⊥
    no_flag e = cc
same_flag None false h = refl
same_flag (Some true) b h = sym (h.0 refl)
same_flag (Some false) true h = sym (same_Some true false (sym (h.1 refl)))
same_flag (Some false) false h = refl

none_is : {A : Type 0} (o : Option A) → is_some o ≡ false → o ≡ None
none_is None e = refl
none_is (Some x) e = absurd (true≢false e)

none_says : {A : Type 0} (o : Option A) → o ≡ None → is_some o ≡ false
none_says o e = ap is_some e

unless_at : (b : Bool) (at p : ℕ) → unless b at ≡ Some p → (b ≡ false) × (at ≡ p)
unless_at true at p e = cc
unless_at false at p e = (refl, same_Some at p e)

-- The laws of what is reached, and of what instances mean.
pub record Laws (s : Specification) (root : Text) (refs : List Ref) (t : Table) (c : Closed) : Type 0 where
  pub reference : (r : S.Rule) (xs : List Term) (u : Token) (f : S.Ref) → IsReached (rules s) root r xs (a_choice_of_name u f) → Reaches (definitions s) root (fill_ref (parameters_in r) xs (ref_of f))
  pub group : (r : S.Rule) (xs : List Term) (u : Token) (g : S.Group) (p : Point) → IsReached (rules s) root r xs (a_choice_of u g) → Contains (group_points (fill_group (parameters_in r) xs (group_of g))) p → Reaches (definitions s) root (ref_at p)
  pub place : (n : ℕ) (r : Ref) → IsRef t n r → Reaches (definitions s) root r → (k : ℕ) × (slice_get c.places.items n ≡ Some (Some k)) × (slice_get refs k ≡ Some r)
  pub meaning : (k : ℕ) (r : Ref) → slice_get refs k ≡ Some r → (m : Meaning) × (slice_get c.meanings.items k ≡ Some m) × IsMeaning (definitions s) t r m
  pub alternatives_reach : (r : Ref) (g : Group) → Reaches (definitions s) root r → alternatives g ≡ group_choices (definitions s) r → AreReached (definitions s) root (group_points g)

module _ (s : Specification) (root : Text) (refs : List Ref) (t : Table) (c : Closed) (flags : List Bool) (laws : Laws s root refs t c) (choosable : AreChoosable (definitions s) root t flags) where
  of_group : (n : ℕ) (g : Group) → IsGroup t n g → AreReached (definitions s) root (group_points g) → flag_in (slice_get flags n) ≡ is_some (chosen (definitions s) g)
  of_group n g h r = same_flag (slice_get flags n) (is_some (chosen (definitions s) g)) (choosable.groups n g h r)

  nothing_to_choose : (k : ℕ) → is_some (chosen_in (definitions s) k []) ≡ true
  nothing_to_choose zero = refl
  nothing_to_choose (suc k) = refl

  of_alternatives : (ess : List Entries) (o : Option ℕ) → AreAlternatives t ess o → ((g : Group) → alternatives g ≡ ess → AreReached (definitions s) root (group_points g)) → from_group flags o ≡ is_some (chosen_in (definitions s) most_instances ess)
  of_alternatives ess o no_alternatives r = sym (nothing_to_choose most_instances)
  of_alternatives ess o (alternatives_of {n = n} g h) r = of_group n g h (r g refl)

  of_name : (n : ℕ) (r : Ref) → IsRef t n r → Reaches (definitions s) root r → is_choosable_by_name c flags n ≡ is_some (chosen_by_name (definitions s) r)
  of_name n r h k =
      let p = laws.place n r h k in
      let m = laws.meaning p.0 r p.2 in
      ap (λ o. from_meaning flags (meaning_in c.meanings.items (place_in o))) p.1 ∙ ap (from_meaning flags) m.1 ∙ of_alternatives (group_choices (definitions s) r) m.0.group m.2.group (λ g e. laws.alternatives_reach r g k e)

  with_question : (q : Question) (a : Asked) → a.question ≡ q → chooses c flags a.question a.row ≡ chooses c flags q a.row
  with_question q a e = ap (λ x. chooses c flags x a.row) e

  not_asked : (how : Comparison) (row : ℕ) → chooses c flags (comparand_question how) row ≡ true
  not_asked how row = by (is_ordering how)
    where
      by : (b : Bool) → chooses c flags (if b then QuestionV.IsNumber else QuestionV.IsLiteral) row ≡ true
      by true = refl
      by false = refl

  no_members : (which : Membership) (row : ℕ) → chooses c flags (members_question which) row ≡ true
  no_members of_size row = refl
  no_members of_bits row = refl

  no_operand : (how : Computation) (row : ℕ) → chooses c flags (operand_question how) row ≡ true
  no_operand sum row = refl
  no_operand (join j) row = refl

  sound : (a : Asked) (at : ℕ) → IsAsked (rules s) root t a → unchosen_at c flags a ≡ Some at → ChoosesFromNone s root at
  sound a at (choosing {r = r} {xs = xs} {u = u} {g = g} h is e q) k =
      let w = unless_at (chooses c flags a.question a.row) a.at at k in
      let told = sym (with_question QuestionV.ChoosesFrom a q ∙ of_group a.row (fill_group (parameters_in r) xs (group_of g)) is (λ p d. laws.group r xs u g p h d)) ∙ w.0 in
      from_none {r = r} {xs = xs} {t = u} {g = g} h (none_is (chosen (definitions s) (fill_group (parameters_in r) xs (group_of g))) told) (sym w.1 ∙ e)
  sound a at (choosing_by_name {r = r} {xs = xs} {u = u} {f = f} h is e q) k =
      let w = unless_at (chooses c flags a.question a.row) a.at at k in
      let told = sym (with_question QuestionV.ChoosesByName a q ∙ of_name a.row (fill_ref (parameters_in r) xs (ref_of f)) is (laws.reference r xs u f h)) ∙ w.0 in
      from_no_name {r = r} {xs = xs} {t = u} {f = f} h (none_is (chosen_by_name (definitions s) (fill_ref (parameters_in r) xs (ref_of f))) told) (sym w.1 ∙ e)
  sound a at (first_end h o is e q) k =
      let w = unless_at (chooses c flags a.question a.row) a.at at k in
      absurd (true≢false (sym (with_question QuestionV.IsWhole a q) ∙ w.0))
  sound a at (last_end h o is e q) k =
      let w = unless_at (chooses c flags a.question a.row) a.at at k in
      absurd (true≢false (sym (with_question QuestionV.IsWhole a q) ∙ w.0))
  sound a at (controller {c = how} h o is e q) k =
      let w = unless_at (chooses c flags a.question a.row) a.at at k in
      absurd (true≢false (sym (with_question (comparand_question how) a q ∙ not_asked how a.row) ∙ w.0))
  sound a at (members_controller {m = which} h o is e q) k =
      let w = unless_at (chooses c flags a.question a.row) a.at at k in
      absurd (true≢false (sym (with_question (members_question which) a q ∙ no_members which a.row) ∙ w.0))
  sound a at (left_operand {c = how} h o is e q) k =
      let w = unless_at (chooses c flags a.question a.row) a.at at k in
      absurd (true≢false (sym (with_question (operand_question how) a q ∙ no_operand how a.row) ∙ w.0))
  sound a at (computation h o is e q) k =
      let w = unless_at (chooses c flags a.question a.row) a.at at k in
      absurd (true≢false (sym (with_question QuestionV.Computes a q) ∙ w.0))
  sound a at (of_map h is e q) k =
      let w = unless_at (chooses c flags a.question a.row) a.at at k in
      absurd (true≢false (sym (with_question QuestionV.MapGroup a q) ∙ w.0))

  module _ (asked : List Asked) (are : AreAsked (rules s) root t asked) where
    complete : (at : ℕ) → ChoosesFromNone s root at → (a : Asked) × (Contains asked a × (unchosen_at c flags a ≡ Some at))
    complete at (from_none {r = r} {xs = xs} {t = u} {g = g} h none e) =
        let w = are.groups r xs u g h in
        let told = with_question QuestionV.ChoosesFrom w.asked w.same_question ∙ of_group w.asked.row (fill_group (parameters_in r) xs (group_of g)) w.holds (λ p d. laws.group r xs u g p h d) ∙ none_says (chosen (definitions s) (fill_group (parameters_in r) xs (group_of g))) none in
        (w.asked, (w.contained, ap (λ b. unless b w.asked.at) told ∙ ap Some (w.same_at ∙ sym e)))
    complete at (from_no_name {r = r} {xs = xs} {t = u} {f = f} h none e) =
        let w = are.references r xs u f h in
        let told = with_question QuestionV.ChoosesByName w.asked w.same_question ∙ of_name w.asked.row (fill_ref (parameters_in r) xs (ref_of f)) w.holds (laws.reference r xs u f h) ∙ none_says (chosen_by_name (definitions s) (fill_ref (parameters_in r) xs (ref_of f))) none in
        (w.asked, (w.contained, ap (λ b. unless b w.asked.at) told ∙ ap Some (w.same_at ∙ sym e)))

    pub least_unchosen : IsLeast (ChoosesFromNone s root) (least_over (unchosen_at c flags) None asked)
    least_unchosen = least_of_members (unchosen_at c flags) (ChoosesFromNone s root) asked (λ a at k e. sound a at (are.sound a k) e) complete

    pub all_unchosen : (offsets : List ℕ) → AreOffsets (IsAtPlace (IsSaid (λ k. unchosen_at c flags)) asked) offsets → AreOffsets (ChoosesFromNone s root) offsets
    all_unchosen offsets found = all_of_members (unchosen_at c flags) (ChoosesFromNone s root) asked offsets (λ a at k e. sound a at (are.sound a k) e) complete found
