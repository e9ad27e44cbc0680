-- In `t = &(b)`, `b = (x: t)` the choice goes through `b`, which is no reference.
use Rattle.std.specs.Prelude.{◌≡◌, ◌⊎◌, ℕ, ◌<◌, List, slice_index_or, [], ◌∷◌, Contains, Option, Some, None, true, false, codes}
use Rattle.std.proofs.Common.{refl, sym, ap, ◌∙◌, subst, arith, inl, inr}
use Rattle.std.proofs.lemmas.Bool.{false≢true}
use Rattle.lists.proofs.Lemmas.{no_some as none_is_some, same_some}
use Rattle.cddl_token.specs.declared.Code.TheVariants as C
use Rattle.tree_nodes.specs.Syntax.Syntax as S
use Rattle.cddl_language.proofs.Basics.{only}
use Rattle.cddl_language.specs.Terms as M
use Rattle.cddl_language.specs.Terms.{named, choice_of, Ref, call, no_terms, Entries, no_entries, entries, typed, keyed, bareword, Definition, name_of}
use Rattle.cddl_language.specs.Prelude.{prelude}
use Rattle.cddl_language.specs.Reading.{name_at}
use Rattle.cddl_language.specs.Substitution.{type_choices, group_choices}
use Rattle.cddl_language.specs.Kinds.{Opened, Part, asks_type, names_group, opens, opens_group, opens_type, opened, part_of, is_group}
use Rattle.cddl_language.specs.Reach.{Reaches, at_root, onward, Point, ref_at, is_reference, at_name, at_choice, at_chosen_name, points_in}
use Rattle.cddl_language.specs.Literals.{Values}
use Rattle.cddl_language.specs.Free as R
use Rattle.cddl_language.specs.Free.{IsFree, IsFreeInSome, IsFreeInEntry, IsFreeInChoice, IsFreeInMeaning, LeadsOn, LeadsBack, IsOnCycle}
use Rattle.cddl_language.specs.Faults as F
use Rattle.cddl_language.specs.Faults.{IsFaultAt, definitions, first_rule, rules}
use Rattle.cddl_language.specs.Texts as T

abbrev ds : List Definition
ds = definitions T.chosen_through

abbrev t : Ref
t = call (codes "t") no_terms

abbrev b : Ref
b = call (codes "b") no_terms

-- the groups of `&` and of `b`
abbrev chosen : Entries
chosen = entries no_entries (typed None (named b)) false

abbrev inside : Entries
inside = entries no_entries (keyed None (bareword (codes "x")) (named t)) false

-- What computes.

t_is_type : is_group ds (codes "t") ≡ false
unfolding prelude
t_is_type = refl

b_is_group : is_group ds (codes "b") ≡ true
unfolding prelude
b_is_group = refl

t_means : type_choices ds t ≡ choice_of (M.sole chosen) ∷ []
unfolding prelude
t_means = refl

b_means : group_choices ds b ≡ inside ∷ []
unfolding prelude
b_means = refl

b_opens : opened ds b ≡ None
unfolding prelude
b_opens = refl

names_b : part_of ds (named b) ≡ names_group b
unfolding prelude
names_b = refl

in_t : points_in ds t ≡ at_name b ∷ []
unfolding prelude
in_t = refl

in_b : points_in ds b ≡ at_name t ∷ []
unfolding prelude
in_b = refl

-- where the first rule begins
abbrev begins : Option S.Rule → Option ℕ
begins None = None
begins (Some r) = Some (name_at r)

t_begins : begins (first_rule (rules T.chosen_through) (codes "t")) ≡ Some 0
t_begins = refl

-- What is reached.

abbrev IsKnown : Ref → Type 0
IsKnown r = (r ≡ t) ⊎ (r ≡ b)

reached : (r : Ref) → Reaches ds (codes "t") r → IsKnown r
reached r at_root = inl refl
reached s (onward {r = r} {p = p} h c f) = by (reached r h)
  where
    by : IsKnown r → IsKnown s
    by (inl e) = inr (f ∙ ap ref_at (only (subst (λ ps. Contains ps p) in_t (subst (λ q. Contains (points_in ds q) p) e c))))
    by (inr e) = inl (f ∙ ap ref_at (only (subst (λ ps. Contains ps p) in_b (subst (λ q. Contains (points_in ds q) p) e c))))

-- What leads where.

abbrev Names : Part → Type 0
Names asks_type = ⊥
Names (names_group r) = Unit {0}
Names (opens r g) = ⊥

names : (q : Part) → part_of ds (named b) ≡ q → Names q
names q e = subst Names (sym names_b ∙ e) tt

same_ref : (r : Ref) → part_of ds (named b) ≡ names_group r → r ≡ b
same_ref r e = same (sym names_b ∙ e)
  where
    same : names_group b ≡ names_group r → r ≡ b
    same f = cc

-- `&(b)` leads to the choice from b, and that to t
in_chosen : (p : Point) → IsFreeInChoice ds p (chosen ∷ []) → p ≡ at_chosen_name b
in_chosen p (R.of_this (R.of_last (R.of_type h f))) = absurd (names asks_type h)
in_chosen p (R.of_this (R.of_last (R.of_name {r = r} h f))) = f ∙ ap at_chosen_name (same_ref r h)
in_chosen p (R.of_this (R.of_last (R.of_opened {r = r} {g = g} h f))) = absurd (names (opens r g) h)
in_chosen p (R.of_this (R.of_earlier h)) = elim h [ ]
in_chosen p (R.of_later h) = elim h [ ]

in_choice : (p : Point) → IsFree ds p (choice_of (M.sole chosen)) → p ≡ at_chosen_name b
in_choice p (R.in_choice h) = in_chosen p h

in_name : (p : Point) → IsFree ds p (named t) → p ≡ at_name t
in_name p (R.name e) = e

in_inside : (p : Point) → IsFreeInChoice ds p (inside ∷ []) → p ≡ at_name t
in_inside p (R.of_this (R.of_last (R.of_keyed h))) = in_name p h
in_inside p (R.of_this (R.of_earlier h)) = elim h [ ]
in_inside p (R.of_later h) = elim h [ ]

no_key : (p : Point) → IsFreeInEntry ds p (keyed None (bareword (codes "x")) (named t)) → ⊥
no_key p = elim [ ]

nothing : (p : Point) → IsFreeInSome ds p (inside ∷ []) → ⊥
nothing p (R.in_this (R.in_last m h)) = no_key p h
nothing p (R.in_this (R.in_earlier h)) = elim h [ ]
nothing p (R.in_later h) = elim h [ ]

opens_nothing : (r : Ref) (o : Opened) → r ≡ b → opened ds r ≡ Some o → ⊥
opens_nothing r o e h = none_is_some (sym b_opens ∙ subst (λ z. opened ds z ≡ Some o) e h)

-- from the name t
abbrev FromName : Point → Point → Type 0
FromName (at_name r) p = p ≡ at_chosen_name b
FromName _ p = Unit {0}

from_t : (p q : Point) → ref_at q ≡ t → IsFreeInMeaning ds p q → FromName q p
from_t p q e (R.by_type {r = r} {t = u} h c f) = in_choice p (subst (λ z. IsFree ds p z) (only (subst (λ ts. Contains ts u) t_means (subst (λ z. Contains (type_choices ds z) u) e c))) f)
from_t p q e (R.by_group {r = r} h f) = absurd (false≢true (sym t_is_type ∙ subst (λ z. is_group ds (name_of z) ≡ true) e h))
from_t p q e (R.by_opened_group h f) = tt
from_t p q e (R.by_content h f) = tt
from_t p q e (R.by_choice h) = tt
from_t p q e (R.by_chosen_name w f) = tt
from_t p q e (R.by_opened_choice h w f) = tt

abbrev FromB : Point → Point → Type 0
FromB (at_choice r) p = p ≡ at_chosen_name b
FromB (at_chosen_name r) p = p ≡ at_name t
FromB _ p = ⊥

from_b : (p q : Point) → ref_at q ≡ b → IsFreeInMeaning ds p q → FromB q p
from_b p q e (R.by_type {r = r} h c f) = absurd (false≢true (sym (subst (λ z. is_group ds (name_of z) ≡ false) e h) ∙ b_is_group))
from_b p q e (R.by_group {r = r} h f) = nothing p (subst (λ ess. IsFreeInSome ds p ess) b_means (subst (λ z. IsFreeInSome ds p (group_choices ds z)) e f))
from_b p q e (R.by_opened_group {r = r} {g = g} h f) = opens_nothing r (opens_group g) e h
from_b p q e (R.by_content {r = r} {t = u} h f) = opens_nothing r (opens_type u) e h
from_b p q e (R.by_choice {r = r} h) = h ∙ ap at_chosen_name e
from_b p q e (R.by_chosen_name {r = r} w f) = in_inside p (subst (λ ess. IsFreeInChoice ds p ess) b_means (subst (λ z. IsFreeInChoice ds p (group_choices ds z)) e f))
from_b p q e (R.by_opened_choice {r = r} {g = g} h w f) = opens_nothing r (opens_group g) e h

-- The two that lead back: the name t, and the choice from b.
abbrev IsInside : Point → Type 0
IsInside p = (p ≡ at_name t) ⊎ (p ≡ at_chosen_name b)

stays : (p q : Point) → IsInside p → IsFreeInMeaning ds q p → IsInside q
stays p q (inl e) h = inr (subst (λ z. FromName z q) e (from_t q p (ap ref_at e) h))
stays p q (inr e) h = inl (subst (λ z. FromB z q) e (from_b q p (ap ref_at e) h))

stays_on : (p q : Point) → IsInside p → LeadsOn ds p q → IsInside q
stays_on p q i (R.at_once h) = stays p q i h
stays_on p q i (R.onwards {q = s} h w) = stays_on s q (stays p s i h) w

-- each step from a point of b leads to one of them, if anywhere
after_b : (p q : Point) → FromB p q → IsInside q
after_b (at_choice r) q e = inr e
after_b (at_chosen_name r) q e = inl e
after_b _ q e = absurd e

ends_inside : (p q : Point) → ref_at p ≡ b → LeadsOn ds p q → IsInside q
ends_inside p q e (R.at_once h) = after_b p q (from_b q p e h)
ends_inside p q e (R.onwards {q = s} h w) = stays_on s q (after_b p s (from_b s p e h)) w

differ : (m n : ℕ) → m < n → n ≡ m → ⊥
differ m n h e = omega arith

-- the name t leads back
t_leads_back : LeadsBack ds (codes "t") (at_name t)
unfolding prelude
t_leads_back = record { instance = at_root; way = R.onwards (R.by_type refl (0, omega arith, refl) (R.in_choice (R.of_this (R.of_last (R.of_name refl refl))))) (R.at_once (R.by_chosen_name refl (R.of_this (R.of_last (R.of_keyed (R.name refl)))))) }

not_counted : (p : Point) → IsInside p → ref_at p ≡ b → IsOnCycle ds (codes "t") p → ⊥
not_counted p (inl e) f c = other (sym (ap ref_at e) ∙ f)
  where
    other : t ≡ b → ⊥
    other g = differ 98 116 (omega arith) (ap (λ r. slice_index_or (name_of r) 0 0) g)
not_counted p (inr e) f c = by c.counts
  where
    by : (is_reference p ≡ true) ⊎ ((q : Point) → is_reference q ≡ true → LeadsBack ds (codes "t") q → ⊥) → ⊥
    by (inl k) = false≢true (sym (ap is_reference e) ∙ k)
    by (inr none) = none (at_name t) refl t_leads_back

pub told : (worth : Values) → IsFaultAt T.chosen_through worth C.Recursion 0
unfolding prelude
told worth = F.at_rule (record { point = at_name t; cycle = record { back = t_leads_back; counts = inl refl }; first = refl }) refl

pub not_told : (worth : Values) → IsFaultAt T.chosen_through worth C.Recursion 9 → ⊥
not_told worth (F.without_rule c none e) = differ 0 9 (omega arith) e
not_told worth (F.at_rule f e) = by (reached (ref_at f.point) f.cycle.back.instance)
  where
    by : IsKnown (ref_at f.point) → ⊥
    by (inl g) = differ 0 9 (omega arith) (sym (same_some (sym t_begins ∙ ap (λ r. begins (first_rule (rules T.chosen_through) (name_of r))) (sym g) ∙ ap begins f.first ∙ ap Some (sym e))))
    by (inr g) = not_counted f.point (ends_inside f.point f.point g f.cycle.back.way) g f.cycle
