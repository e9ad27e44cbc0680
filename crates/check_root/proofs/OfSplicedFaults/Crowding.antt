-- Maps with too many alternatives.
use Rattle.std.proofs.Common.{◌≡◌, ℕ, Bool, true, false, if◌then◌else◌, List, Option, Some, None, slice_get, refl, sym, ap, ◌∙◌}
use Rattle.std.specs.List.{Contains}
use Rattle.lists.proofs.Lemmas.{contains_at}
use Rattle.cddl_token.specs.declared.Token.{Token}
use Rattle.tree_nodes.specs.Syntax.Syntax as S
use Rattle.cddl_language.specs.Controls.{Comparison, is_ordering, Computation, Membership, of_size, of_bits, sum, join}
use Rattle.cddl_language.specs.Faults.{Specification, definitions, rules}
use Rattle.cddl_language.specs.MapFaults.{HasTooManyAlternatives}
use Rattle.cddl_language.specs.Reach.{Point, Reaches, group_points, ref_at}
use Rattle.cddl_language.specs.Reading.{group_of, parameters_in}
use Rattle.cddl_language.specs.Sites.{IsReached, a_map}
use Rattle.cddl_language.specs.Substitution.{fill_group}
use Rattle.cddl_language.specs.Terms.{Term, Text}
use Rattle.check_maps.specs.declared.map_faults.MapFaults.{MapFaults}
use Rattle.check_maps.specs.MapFaults.Faults.{AreFaults}
use Rattle.check_reached.specs.declared.asked.Asked.{Asked}
use Rattle.check_reading.specs.declared.parts.part.Question.{Question}
use Rattle.check_reading.specs.declared.parts.part.Question.TheVariants as QuestionV
use Rattle.check_reached.specs.Asked.{AreAsked, IsAsked, choosing, choosing_by_name, computation, controller, first_end, last_end, left_operand, members_controller, of_map}
use Rattle.check_reading.specs.Parts.{comparand_question, members_question, operand_question}
use Rattle.lists.specs.Least.{IsLeast}
use Rattle.check_terms.specs.Table.{Table}
use Rattle.all_offsets.specs.Offsets.{AreOffsets, IsAtPlace, IsSaid}
use Rattle.all_offsets.proofs.Lemmas.{all_at_places}
use Rattle.check_root.specs.Least.{least_over}
use Rattle.check_root.specs.SplicedFaults.Lookups as L
use Rattle.check_root.specs.SplicedFaults.Lookups.{crowded_at, crowded_by, told_if}
use Rattle.check_root.proofs.Least.{least_of_all}
use Rattle.check_root.proofs.OfSplicedFaults.Rows.{has_too_many, place_in, told_parts}

no_offset : {C : Type 0} (at : ℕ) → None ≡ Some at → C
no_offset at e = cc

-- all references in the group of a map that is reached are instances
abbrev pub AreGroupsReached : Specification → Text → Type 0
AreGroupsReached s root = (r : S.Rule) (xs : List Term) (u : Token) (g : S.Group) (p : Point) → IsReached (rules s) root r xs (a_map u g) → Contains (group_points (fill_group (parameters_in r) xs (group_of g))) p → Reaches (definitions s) root (ref_at p)

module _ (s : Specification) (root : Text) (inside : AreGroupsReached s root) (t : Table) (asked : List Asked) (faults : List MapFaults) (are : AreAsked (rules s) root t asked) (wrong : AreFaults (definitions s) root t faults) where
  -- the offset that is told of the question, if it is of a map
  abbrev crowded : Asked → Option ℕ
  crowded a = told_if (L.has_too_many faults a.row) a.at

  with_question : (q : Question) (a : Asked) (at : ℕ) → a.question ≡ q → crowded_at faults a ≡ Some at → crowded_by q (crowded a) ≡ Some at
  with_question q a at e h = sym (ap (λ z. crowded_by z (crowded a)) e) ∙ h

  uncrowded : (c : Comparison) (o : Option ℕ) → crowded_by (comparand_question c) o ≡ None
  uncrowded c o = by (is_ordering c)
    where
      by : (b : Bool) → crowded_by (if b then QuestionV.IsNumber else QuestionV.IsLiteral) o ≡ None
      by true = refl
      by false = refl

  no_members : (m : Membership) (o : Option ℕ) → crowded_by (members_question m) o ≡ None
  no_members of_size o = refl
  no_members of_bits o = refl

  no_operand : (c : Computation) (o : Option ℕ) → crowded_by (operand_question c) o ≡ None
  no_operand sum o = refl
  no_operand (join j) o = refl

  of_question : (a : Asked) (at : ℕ) → IsAsked (rules s) root t a → crowded_at faults a ≡ Some at → HasTooManyAlternatives (rules s) root at
  of_question a at (of_map {r = r} {xs = xs} {u = u} {g = g} h is start q) e =
      let told = told_parts (L.has_too_many faults a.row) a.at at (with_question _ a at q e) in
      record {
        rule = r;
        arguments = xs;
        token = u;
        group = g;
        reached = h;
        many = (has_too_many (definitions s) root t faults wrong a.row (fill_group (parameters_in r) xs (group_of g)) is (λ p d. inside r xs u g p h d)).0 told.0;
        offset = sym told.1 ∙ start;
      }
  of_question a at (choosing h is start q) e = no_offset at (with_question _ a at q e)
  of_question a at (choosing_by_name h is start q) e = no_offset at (with_question _ a at q e)
  of_question a at (controller {c = c} h o is start q) e = no_offset at (sym (uncrowded c (crowded a)) ∙ with_question _ a at q e)
  of_question a at (members_controller {m = m} h o is start q) e = no_offset at (sym (no_members m (crowded a)) ∙ with_question _ a at q e)
  of_question a at (left_operand {c = c} h o is start q) e = no_offset at (sym (no_operand c (crowded a)) ∙ with_question _ a at q e)
  of_question a at (computation h o is start q) e = no_offset at (with_question _ a at q e)
  of_question a at (first_end h o is start q) e = no_offset at (with_question _ a at q e)
  of_question a at (last_end h o is start q) e = no_offset at (with_question _ a at q e)

  sound : (i : ℕ) (a : Asked) (at : ℕ) → slice_get asked i ≡ Some a → crowded_at faults a ≡ Some at → HasTooManyAlternatives (rules s) root at
  sound i a at h e = of_question a at (are.sound a (contains_at asked i a h)) e

  complete : (at : ℕ) → HasTooManyAlternatives (rules s) root at → (i : ℕ) × (a : Asked) × (slice_get asked i ≡ Some a) × (crowded_at faults a ≡ Some at)
  complete at h =
      let was = are.maps h.rule h.arguments h.token h.group h.reached in
      let place = place_in asked was.asked was.contained in
      let told = (has_too_many (definitions s) root t faults wrong was.asked.row (fill_group (parameters_in h.rule) h.arguments (group_of h.group)) was.holds (λ p d. inside h.rule h.arguments h.token h.group p h.reached d)).1 h.many in
      (place.0, was.asked, place.1, ap (λ q. crowded_by q (crowded was.asked)) was.same_question ∙ ap (λ b. told_if b was.asked.at) told ∙ ap Some (was.same_at ∙ sym h.offset))

  pub least_crowded : IsLeast (HasTooManyAlternatives (rules s) root) (least_over (crowded_at faults) None asked)
  least_crowded = least_of_all (crowded_at faults) (HasTooManyAlternatives (rules s) root) asked sound complete

  pub all_crowded : (offsets : List ℕ) → AreOffsets (IsAtPlace (IsSaid (λ k. crowded_at faults)) asked) offsets → AreOffsets (HasTooManyAlternatives (rules s) root) offsets
  all_crowded offsets are = all_at_places (λ k. crowded_at faults) (HasTooManyAlternatives (rules s) root) asked offsets sound complete are
