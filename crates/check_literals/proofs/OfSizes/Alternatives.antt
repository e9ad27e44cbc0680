-- A group has the members of all its alternatives.
use Rattle.std.proofs.Common.{◌≡◌, List, [], ◌∷◌, ◌++◌, Option, Some, None, refl, sym, ap, ◌∙◌}
use Rattle.cddl_language.specs.Controls.{Membership}
use Rattle.cddl_language.specs.Terms.{Group, sole, orelse, Entries, Definition, alternatives}
use Rattle.cddl_language.specs.Literals.{Values}
use Rattle.cddl_language.specs.Sizes as L
use Rattle.cddl_language.specs.Sizes.{Behind, both_sizes, chosen_sizes, each_sizes, entries_sizes}
use Rattle.check_literals.proofs.OfSizes.Induction.{with_none}

join_assoc : (rs qs ps : L.Sizes) → rs ++ (qs ++ ps) ≡ (rs ++ qs) ++ ps
join_assoc [] qs ps = refl
join_assoc (r ∷ rs) qs ps = ap (λ (xs : L.Sizes). r ∷ xs) (join_assoc rs qs ps)

both_assoc : (o p q : Option L.Sizes) → both_sizes o (both_sizes p q) ≡ both_sizes (both_sizes o p) q
both_assoc None p q = refl
both_assoc (Some rs) None q = refl
both_assoc (Some rs) (Some qs) None = refl
both_assoc (Some rs) (Some qs) (Some ps) = ap (λ (xs : L.Sizes). Some xs) (join_assoc rs qs ps)

none_with : (o : Option L.Sizes) → both_sizes (Some []) o ≡ o
none_with None = refl
none_with (Some rs) = refl

module _ (which : Membership) (worth : Values) (xs : List Definition) (next : Behind → Option L.Sizes) where
  one_more : (ess : List Entries) (es : Entries) → each_sizes which worth xs next (ess ++ es ∷ []) ≡ both_sizes (each_sizes which worth xs next ess) (entries_sizes which worth xs next es)
  one_more [] es = with_none (entries_sizes which worth xs next es) ∙ sym (none_with (entries_sizes which worth xs next es))
  one_more (fs ∷ ess) es = ap (both_sizes (entries_sizes which worth xs next fs)) (one_more ess es) ∙ both_assoc (entries_sizes which worth xs next fs) (each_sizes which worth xs next ess) (entries_sizes which worth xs next es)

  pub alternatives_sizes : (g : Group) → each_sizes which worth xs next (alternatives g) ≡ chosen_sizes which worth xs next g
  alternatives_sizes (sole es) = with_none (entries_sizes which worth xs next es)
  alternatives_sizes (orelse g es) = one_more (alternatives g) es ∙ ap (λ (o : Option L.Sizes). both_sizes o (entries_sizes which worth xs next es)) (alternatives_sizes g)
