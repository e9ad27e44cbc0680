-- In `t = [b: &(~t)]` the choice leads back to itself, and no reference does.
use Rattle.std.specs.Prelude.{◌≡◌, List, [], ◌∷◌, Contains, Some, None, true, false, codes}
use Rattle.std.proofs.Common.{refl, ap, ◌∙◌, subst, inr}
use Rattle.cddl_token.specs.declared.Code.TheVariants as C
use Rattle.cddl_language.proofs.After.{in_one}
use Rattle.cddl_language.proofs.Alone as A
use Rattle.cddl_language.proofs.Basics.{only}
use Rattle.cddl_language.specs.Terms as M
use Rattle.cddl_language.specs.Terms.{array_of, choice_of, unwrapped, Ref, call, no_terms, Group, Entries, no_entries, entries, typed, keyed, bareword, Definition, name_of, alternatives, lone}
use Rattle.cddl_language.specs.Prelude.{prelude}
use Rattle.cddl_language.specs.Substitution.{type_choices, group_choices}
use Rattle.cddl_language.specs.Kinds.{asks_type, opens_group, opened, part_of, is_group}
use Rattle.cddl_language.specs.Reach.{Reaches, at_root, onward, Point, ref_at, is_reference, at_unwrapping, at_opened_choice, points_in}
use Rattle.cddl_language.specs.Literals.{Values}
use Rattle.cddl_language.specs.Free as R
use Rattle.cddl_language.specs.Free.{IsFreeInSome, IsFreeInEach, IsFreeInEntry, LeadsOn}
use Rattle.cddl_language.specs.Faults as F
use Rattle.cddl_language.specs.Faults.{IsFaultAt, definitions}
use Rattle.cddl_language.specs.Texts as T

abbrev ds : List Definition
ds = definitions T.chosen_itself

abbrev t : Ref
t = call (codes "t") no_terms

abbrev inside : Group
inside = M.sole (entries no_entries (keyed None (bareword (codes "b")) (choice_of (M.sole (entries no_entries (typed None (unwrapped t)) false)))) false)

no_group : is_group ds (codes "t") ≡ false
unfolding prelude
no_group = refl

means_it : type_choices ds t ≡ array_of inside ∷ []
unfolding prelude
means_it = refl

opens_it : opened ds t ≡ Some (opens_group inside)
unfolding prelude
opens_it = refl

chooses_it : group_choices ds t ≡ lone (typed None (array_of inside)) ∷ []
unfolding prelude
chooses_it = refl

refers_to_itself : points_in ds t ≡ at_unwrapping t ∷ []
unfolding prelude
refers_to_itself = refl

is_array : part_of ds (array_of inside) ≡ asks_type
is_array = refl

nothing : (p : Point) → IsFreeInSome ds p (alternatives inside) → ⊥
nothing p h = each (in_one ds p _ h)
  where
    entry : IsFreeInEntry ds p (keyed None (bareword (codes "b")) (choice_of (M.sole (entries no_entries (typed None (unwrapped t)) false)))) → ⊥
    entry = elim [ ]

    each : IsFreeInEach ds p (entries no_entries (keyed None (bareword (codes "b")) (choice_of (M.sole (entries no_entries (typed None (unwrapped t)) false)))) false) → ⊥
    each (R.in_last m h) = entry h
    each (R.in_earlier h) = elim h [ ]

reached : (r : Ref) → Reaches ds (codes "t") r → r ≡ t
reached r at_root = refl
reached s (onward {r = r} {p = p} h c f) = f ∙ ap ref_at (only (subst (λ ps. Contains ps p) refers_to_itself (subst (λ q. Contains (points_in ds q) p) (reached r h) c)))

no_reference : (q : Point) → is_reference q ≡ true → R.LeadsBack ds (codes "t") q → ⊥
no_reference q k b = A.no_reference_back ds t inside no_group means_it opens_it chooses_it is_array nothing q q k (reached (ref_at q) b.instance) b.way refl

pub chosen_itself : (worth : Values) → IsFaultAt T.chosen_itself worth C.Recursion 0
unfolding prelude
chosen_itself worth = F.at_rule (record { point = at_opened_choice t; cycle = record { back = record { instance = at_root; way = R.at_once (R.by_opened_choice refl refl (R.of_this (R.of_last (R.of_keyed (R.in_choice (R.of_this (R.of_last (R.of_opened refl refl)))))))) }; counts = inr no_reference }; first = refl }) refl
