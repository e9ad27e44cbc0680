-- What is told of `~` at the sites that a root reaches.
use Rattle.std.proofs.Common.{◌≡◌, ◌↔◌, ℕ, ◌⊎◌, inl, inr, Bool, true, false, List, Option, Some, None, slice_get, refl, sym, ap, subst, ◌∙◌, true≢false}
use Rattle.lists.proofs.Lemmas.{lesser_least as either, one_of, place_of, same_least as alike}
use Rattle.cddl_token.specs.declared.Token.{Token}
use Rattle.tree_nodes.specs.Syntax.Syntax as S
use Rattle.cddl_language.specs.Faults as F
use Rattle.cddl_language.specs.Faults.{HasNotUnwrappable, Specification, definitions, occur_token, opened_there, rules}
use Rattle.cddl_language.specs.Kinds.{Opened, opens_group, opens_type}
use Rattle.cddl_language.specs.Sites.{IsInstance, IsReached, Site, a_name, an_unwrapping, a_choice_of, a_choice_of_name, a_hash, an_operation, an_entry, a_map, ref_name}
use Rattle.cddl_language.specs.Terms.{Ref, Term, Text, arguments_of}
use Rattle.check_names.specs.Kinds.Kinds.{sort_of}
use Rattle.check_terms.specs.Table.{Table}
use Rattle.check_reading.specs.Words.{IsSaid, Said, name_said, occur_said, said_at}
use Rattle.check_reading.specs.declared.words.word.Role.TheVariants as RoleV
use Rattle.check_reading.specs.declared.words.word.Word.{Word}
use Rattle.check_reached.specs.Reached.{AreReachedWords}
use Rattle.check_text.specs.SiteFaults.Unwrapped.{IsWrongTilde, is_wrong, sort_named}
use Rattle.check_text.specs.SiteFaults.Told.{Among, AreSpoken}
use Rattle.lists.specs.Least.{IsLeast, lesser_of}
use Rattle.std.specs.List.{Contains}
use Rattle.std.specs.List.Sorted.{IsStrictlyIncreasing}
use Rattle.all_offsets.specs.Offsets.{AreOffsets}
use Rattle.all_offsets.proofs.Lemmas.{of_either, same_offsets}
use Rattle.check_root.specs.ReachedFaults.Choices as C
use Rattle.check_root.specs.ReachedFaults.Choices.{ChoosesFromNone}
use Rattle.check_root.specs.ReachedFaults.Unwrapping.{OpensWrongly, opens_nothing, opens_group_as_type}
use Rattle.check_root.proofs.OfReachedFaults.Sorts.{one_sort}

-- a site is reached in an instance of its rule
abbrev pub HaveInstances : List S.Rule → Text → Type 0
HaveInstances rs root = (r : S.Rule) (xs : List Term) (p : Site) → IsReached rs root r xs p → (i : Ref) × (IsInstance rs root r i × (xs ≡ arguments_of i))

same_said : (x y : Said) → Some x ≡ Some y → x ≡ y
same_said x y e = cc

-- a word says one thing
one_said : (t : Table) (w : Word) (x y : Said) → IsSaid t w x → IsSaid t w y → x ≡ y
one_said t w x y h k = λ i. record {
  at = (sym h.at ∙ k.at) i;
  role = (sym h.role ∙ k.role) i;
  text = one_of (slice_get t.texts w.text) x.text y.text h.text k.text i;
  arguments = (sym h.arguments ∙ k.arguments) i;
}

module _ (s : Specification) (root : Text) (instances : HaveInstances (rules s) root) (t : Table) (ws : List Word) (are : AreReachedWords (rules s) root t ws) where
  pub spoken : AreSpoken t (rules s) ws
  spoken w c = let it = are.sound w c in record { rule = it.rule; said = it.stands.said; place = it.place; is = it.stands.is }

  at_tilde : (r : S.Rule) (xs : List Term) (b : Bool) (t : Token) (f : S.Ref) (p : ℕ) → IsReached (rules s) root r xs (an_unwrapping b t f) → is_wrong b (sort_named (definitions s) r (ref_name f)) ≡ true → p ≡ t.start → OpensWrongly s root p
  at_tilde r xs b t f p h w at = by b h (opened_there s r xs f) refl (sym (ap (is_wrong b) (one_sort s r xs f)) ∙ w)
    where
      by : (c : Bool) → IsReached (rules s) root r xs (an_unwrapping c t f) → (o : Option Opened) → opened_there s r xs f ≡ o → is_wrong c (sort_of o) ≡ true → OpensWrongly s root p
      by c k None e v = opens_nothing k e at
      by true k (Some (opens_group g)) e v = opens_group_as_type k e at
      by false k (Some (opens_group g)) e v = absurd (true≢false (sym v))
      by c k (Some (opens_type u)) e v = absurd (true≢false (sym v))

  abbrev Wrong : S.Rule → Said → ℕ → Type 0
  Wrong r x p = IsWrongTilde (definitions s) r x p

  -- of other words nothing is told
  no_tilde : (r : S.Rule) (x y : Said) (p : ℕ) → Some x ≡ Some y → (Wrong r x p → ⊥) → Wrong r y p → OpensWrongly s root p
  no_tilde r x y p e none k = absurd (none (subst (λ v. Wrong r v p) (sym (same_said x y e)) k))

  at_entry : (r : S.Rule) (x : Said) (p : ℕ) (o : Option Token) → occur_said o ≡ Some x → Wrong r x p → OpensWrongly s root p
  at_entry r x p None e k = cc
  at_entry r x p (Some t) e k = no_tilde r _ x p e (λ h. h) k

  at_site : (r : S.Rule) (xs : List Term) (q : Site) (x : Said) (p : ℕ) → IsReached (rules s) root r xs q → said_at q ≡ Some x → Wrong r x p → OpensWrongly s root p
  at_site r xs (an_unwrapping b t f) x p h e k = let w = subst (λ v. Wrong r v p) (sym (same_said (name_said (RoleV.Unwrapped b t.start) f) x e)) k in at_tilde r xs b t f p h w.0 w.1
  at_site r xs (a_name b f) x p h e k = no_tilde r _ x p e (λ h. h) k
  at_site r xs (a_choice_of t g) x p h e k = cc
  at_site r xs (a_choice_of_name t f) x p h e k = no_tilde r _ x p e (λ h. h) k
  at_site r xs (a_hash t) x p h e k = no_tilde r _ x p e (λ h. h) k
  at_site r xs (an_operation y (S.range t) z) x p h e k = cc
  at_site r xs (an_operation y (S.range_below t) z) x p h e k = cc
  at_site r xs (an_operation y (S.control t) z) x p h e k = no_tilde r _ x p e (λ h. h) k
  at_site r xs (an_entry g) x p h e k = at_entry r x p (occur_token g) e k
  at_site r xs (a_map t g) x p h e k = cc

  abbrev Told : ℕ → Type 0
  Told p = Among t (rules s) (IsWrongTilde (definitions s)) ws p

  to : (p : ℕ) → Told p → OpensWrongly s root p
  to p k =
      let it = are.sound k.one k.present in
      let same = one_of (slice_get (rules s) k.one.rule) k.told.rule it.rule k.told.place it.place in
      let told = subst (λ q. Wrong q k.told.said p) same k.told.told in
      at_site it.rule it.arguments it.site it.stands.said p it.reached it.stands.there (subst (λ x. Wrong it.rule x p) (one_said t k.one k.told.said it.stands.said k.told.is it.stands.is) told)

  found_there : (r : S.Rule) (xs : List Term) (q : Site) (x : Said) (p : ℕ) → IsReached (rules s) root r xs q → said_at q ≡ Some x → Wrong r x p → Told p
  found_there r xs q x p h e w =
      let i = instances r xs q h in
      let place = place_of (rules s) r i.1.0.present in
      let it = are.complete place.0 r xs q x place.1 h e in
      record {
        one = it.word;
        present = it.present;
        told = record { rule = r; said = x; place = subst (λ n. slice_get (rules s) n ≡ Some r) (sym it.rule) place.1; is = it.is; told = w };
      }

  from : (p : ℕ) → OpensWrongly s root p → Told p
  from p (opens_nothing {r = r} {xs = xs} {b = b} {t = t} {f = f} h e at) = found_there r xs (an_unwrapping b t f) (name_said (RoleV.Unwrapped b t.start) f) p h refl (ap (is_wrong b) (one_sort s r xs f ∙ ap sort_of e), at)
  from p (opens_group_as_type {r = r} {xs = xs} {t = t} {f = f} {g = g} h e at) = found_there r xs (an_unwrapping true t f) (name_said (RoleV.Unwrapped true t.start) f) p h refl (ap (is_wrong true) (one_sort s r xs f ∙ ap sort_of e), at)

  pub least_tilde : (o : Option ℕ) → IsLeast Told o → IsLeast (OpensWrongly s root) o
  least_tilde o h = alike Told (OpensWrongly s root) to from o h

  pub all_tildes : (offsets : List ℕ) → AreOffsets Told offsets → AreOffsets (OpensWrongly s root) offsets
  all_tildes offsets h = same_offsets Told (OpensWrongly s root) offsets to from h

module _ (s : Specification) (root : Text) where
  of_sort : (p : ℕ) → OpensWrongly s root p ⊎ ChoosesFromNone s root p → HasNotUnwrappable s root p
  of_sort p (inl (opens_nothing h e at)) = F.opens_nothing h e at
  of_sort p (inl (opens_group_as_type h e at)) = F.opens_group_as_type h e at
  of_sort p (inr (C.from_none h e at)) = F.chooses_from_none h e at
  of_sort p (inr (C.from_no_name h e at)) = F.chooses_from_no_name h e at

  sort_of_it : (p : ℕ) → HasNotUnwrappable s root p → OpensWrongly s root p ⊎ ChoosesFromNone s root p
  sort_of_it p (F.opens_nothing h e at) = inl (opens_nothing h e at)
  sort_of_it p (F.opens_group_as_type h e at) = inl (opens_group_as_type h e at)
  sort_of_it p (F.chooses_from_none h e at) = inr (C.from_none h e at)
  sort_of_it p (F.chooses_from_no_name h e at) = inr (C.from_no_name h e at)

  pub both_sorts : (a b : Option ℕ) → IsLeast (OpensWrongly s root) a → IsLeast (ChoosesFromNone s root) b → IsLeast (HasNotUnwrappable s root) (lesser_of a b)
  both_sorts a b h k = alike (λ p. OpensWrongly s root p ⊎ ChoosesFromNone s root p) (HasNotUnwrappable s root) of_sort sort_of_it (lesser_of a b) (either (OpensWrongly s root) (ChoosesFromNone s root) a b h k)

  pub all_sorts : (xs ys zs : List ℕ) → AreOffsets (OpensWrongly s root) xs → AreOffsets (ChoosesFromNone s root) ys → IsStrictlyIncreasing zs → ((p : ℕ) → Contains zs p ↔ (Contains xs p ⊎ Contains ys p)) → AreOffsets (HasNotUnwrappable s root) zs
  all_sorts xs ys zs h k rising each = same_offsets (λ p. OpensWrongly s root p ⊎ ChoosesFromNone s root p) (HasNotUnwrappable s root) zs of_sort sort_of_it (of_either (OpensWrongly s root) (ChoosesFromNone s root) xs ys zs h k rising each)
