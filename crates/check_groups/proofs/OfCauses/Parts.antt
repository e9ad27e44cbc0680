-- What stands at the row of an entry without a key, by what its type is.
use Rattle.std.proofs.Common.{◌≡◌, ℕ, zero, suc, List, [], ◌∷◌, Option, Some, refl, sym, ap, subst, slice_get}
use Rattle.lists.proofs.Lemmas.{IsIn}
use Rattle.cddl_meaning.specs.Alike.{AlikeAll, both}
use Rattle.cddl_language.specs.Terms.{Text, Term, Ref, Group, Entries, typed, Definition}
use Rattle.cddl_language.specs.Kinds as K
use Rattle.cddl_language.specs.MapFaults.{group_of_part}
use Rattle.cddl_language.specs.Substitution.{group_choices}
use Rattle.cddl_language.specs.Reach.{Reaches, group_points, entries_points}
use Rattle.check_terms.specs.Table.{Table, HoldsText}
use Rattle.check_instances.specs.declared.closed.closed.Meaning.{Meaning}
use Rattle.check_instances.specs.Closed.Closed.{AreAlternatives, no_alternatives, alternatives_of, AreReached, IsMeaning}
use Rattle.check_instances.specs.declared.openings.openings.Part.{Part}
use Rattle.check_instances.specs.Openings.Openings.{IsPart, a_type, a_group, an_opened_group}
use Rattle.check_groups.specs.Causes.Rows.{IsGroupOf, no_group, group_of, IsEntryRow, of_type, of_named, named_row, part_row}
use Rattle.check_groups.proofs.OfCauses.Reaching.{choices_reached, group_reached}

-- what is related to what is at a place
related_at : {A B : Type 0} (R : A → B → Type 0) (xs : List A) (ys : List B) → AlikeAll R xs ys → (k : ℕ) (x : A) → slice_get xs k ≡ Some x → (y : B) × (slice_get ys k ≡ Some y) × R x y
related_at R [] ys h k x e = cc
related_at R (z ∷ xs) [] h k x e = elim h [ ]
related_at R (z ∷ xs) (y ∷ ys) (both h g) zero x e = (y, refl, subst (λ w. R w y) same h)
  where
    same : z ≡ x
    same = cc
related_at R (z ∷ xs) (y ∷ ys) (both h g) (suc k) x e = related_at R xs ys g k x e

module _ (xs : List Definition) (root : Text) (t : Table) (refs : List Ref) (meanings : List Meaning) (means : AlikeAll (IsMeaning xs t) refs meanings) where
  is_group_of : (ess : List Entries) (o : Option ℕ) → AreAlternatives t ess o → ((es : Entries) → IsIn es ess → AreReached xs root (entries_points es)) → IsGroupOf xs root t ess o
  is_group_of ess o no_alternatives f = no_group refl
  is_group_of ess o (alternatives_of g h) f = group_of g refl h (group_reached xs root g f)

  pub part_stands : (o : Option Text) (j : Option ℕ) → HoldsText t.texts j o → (x : Term) → ((r : Ref) → K.part_of xs x ≡ K.names_group r → Reaches xs root r) → ((r : Ref) (g : Group) → K.part_of xs x ≡ K.opens r g → AreReached xs root (group_points g)) → (k : K.Part) → K.part_of xs x ≡ k → (p : Part) → IsPart t refs k p → IsEntryRow xs root t (typed o x) (part_row meanings j p)
  part_stands o j h x name opened k e p a_type = of_type h (ap (group_of_part xs) e)
  part_stands o j h x name opened k e p (a_group {k = place} {r = r} at) =
      let m = related_at (IsMeaning xs t) refs meanings means place r at in
      subst (λ q. IsEntryRow xs root t (typed o x) (named_row j q)) (sym m.1) (of_named h (ap (group_of_part xs) e) (is_group_of (group_choices xs r) _ (m.2).group (choices_reached xs root r (name r e))))
  part_stands o j h x name opened k e p (an_opened_group {r = r} {g = g} at i) = of_named h (ap (group_of_part xs) e) (group_of g refl i (opened r g e))
