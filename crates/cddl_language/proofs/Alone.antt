-- From a type that is an array in which nothing is free, only choices lead anywhere.
use Rattle.std.specs.Prelude.{◌≡◌, List, [], ◌∷◌, Contains, Option, Some, None, true, false}
use Rattle.std.proofs.Common.{sym, ap, ◌∙◌, subst}
use Rattle.std.proofs.lemmas.Bool.{false≢true}
use Rattle.cddl_language.proofs.After.{asks}
use Rattle.cddl_language.proofs.Basics.{only}
use Rattle.cddl_language.specs.Terms.{Text, Term, array_of, Ref, Group, no_entries, entries, typed, Definition, name_of, alternatives, lone}
use Rattle.cddl_language.specs.Substitution.{type_choices, group_choices}
use Rattle.cddl_language.specs.Kinds.{asks_type, names_group, opens, opens_group, opens_type, opened, part_of, is_group}
use Rattle.cddl_language.specs.Reach.{Point, ref_at, is_reference, at_choice, at_chosen_name, at_opened_choice}
use Rattle.cddl_language.specs.Free as R
use Rattle.cddl_language.specs.Free.{IsFree, IsFreeInSome, IsFreeInChoice, IsFreeInMeaning, LeadsOn}

module _ (ds : List Definition) where
  -- what is free in the choice from one entry of a type
  pub in_type : (p : Point) (o : Option Text) (u : Term) → part_of ds u ≡ asks_type → IsFreeInChoice ds p (entries no_entries (typed o u) false ∷ []) → IsFree ds p u
  in_type p o u e (R.of_this (R.of_last (R.of_type h f))) = f
  in_type p o u e (R.of_this (R.of_last (R.of_name {r = r} h f))) = absurd (asks (names_group r) e h)
  in_type p o u e (R.of_this (R.of_last (R.of_opened {r = r} {g = g} h f))) = absurd (asks (opens r g) e h)
  in_type p o u e (R.of_this (R.of_earlier h)) = elim h [ ]
  in_type p o u e (R.of_later h) = elim h [ ]

  module _ (t : Ref) (g : Group) (no_group : is_group ds (name_of t) ≡ false) (means : type_choices ds t ≡ array_of g ∷ []) (opens_it : opened ds t ≡ Some (opens_group g)) (chooses : group_choices ds t ≡ lone (typed None (array_of g)) ∷ []) (is_array : part_of ds (array_of g) ≡ asks_type) (nothing : (p : Point) → IsFreeInSome ds p (alternatives g) → ⊥) where
    -- what the point leads to
    abbrev pub OnlyTo : Point → Point → Type 0
    OnlyTo (at_choice r) p = p ≡ at_chosen_name t
    OnlyTo (at_opened_choice r) p = IsFreeInChoice ds p (alternatives g)
    OnlyTo _ p = ⊥

    array_free : (p : Point) → IsFree ds p (array_of g) → ⊥
    array_free p (R.in_array h) = nothing p h

    same_group : (h : Group) → Some (opens_group g) ≡ Some (opens_group h) → h ≡ g
    same_group h e = cc

    other_opened : (u : Term) → Some (opens_group g) ≡ Some (opens_type u) → ⊥
    other_opened u e = cc

    group_at : (r : Ref) (h : Group) → r ≡ t → opened ds r ≡ Some (opens_group h) → h ≡ g
    group_at r h e f = same_group h (sym opens_it ∙ subst (λ z. opened ds z ≡ Some (opens_group h)) e f)

    pub leads_only : (p q : Point) → ref_at q ≡ t → IsFreeInMeaning ds p q → OnlyTo q p
    leads_only p q e (R.by_type {r = r} {t = u} h c f) = array_free p (subst (λ z. IsFree ds p z) (only (subst (λ ts. Contains ts u) means (subst (λ z. Contains (type_choices ds z) u) e c))) f)
    leads_only p q e (R.by_group {r = r} h f) = false≢true (sym no_group ∙ subst (λ z. is_group ds (name_of z) ≡ true) e h)
    leads_only p q e (R.by_opened_group {r = r} {g = h} k f) = nothing p (subst (λ z. IsFreeInSome ds p (alternatives z)) (group_at r h e k) f)
    leads_only p q e (R.by_content {r = r} {t = u} h f) = other_opened u (sym opens_it ∙ subst (λ z. opened ds z ≡ Some (opens_type u)) e h)
    leads_only p q e (R.by_choice {r = r} h) = h ∙ ap at_chosen_name e
    leads_only p q e (R.by_chosen_name {r = r} w f) = array_free p (in_type p None (array_of g) is_array (subst (λ ess. IsFreeInChoice ds p ess) chooses (subst (λ z. IsFreeInChoice ds p (group_choices ds z)) e f)))
    leads_only p q e (R.by_opened_choice {r = r} {g = h} k w f) = subst (λ z. IsFreeInChoice ds p (alternatives z)) (group_at r h e k) f

    -- from where a choice by name leads nothing leads on
    pub name_ends : (p q : Point) → q ≡ at_chosen_name t → IsFreeInMeaning ds p q → ⊥
    name_ends p q e h = subst (λ z. OnlyTo z p) e (leads_only p q (ap ref_at e) h)

    pub name_leads_on : (p q : Point) → p ≡ at_chosen_name t → LeadsOn ds p q → ⊥
    name_leads_on p q e (R.at_once h) = name_ends q p e h
    name_leads_on p q e (R.onwards {q = s} h k) = name_ends s p e h

    to_name : (p s : Point) → is_reference p ≡ true → OnlyTo p s → s ≡ at_chosen_name t
    to_name (at_choice r) s k e = e
    to_name (at_opened_choice r) s k e = absurd (false≢true k)
    to_name _ s k e = absurd e

    pub no_reference_back : (p q : Point) → is_reference p ≡ true → ref_at p ≡ t → LeadsOn ds p q → p ≡ q → ⊥
    no_reference_back p q k e (R.at_once h) f = name_ends q q (to_name p q k (leads_only q p e h)) (subst (λ z. IsFreeInMeaning ds q z) f h)
    no_reference_back p q k e (R.onwards {q = s} h w) f = name_leads_on s q (to_name p s k (leads_only s p e h)) w
