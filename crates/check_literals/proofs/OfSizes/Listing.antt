-- The lists of controllers, one added after the other.
use Rattle.std.proofs.Common.{◌≡◌, ◌⊎◌, inl, inr, ℕ, zero, suc, ◌+◌, ◌<◌, List, [], ◌∷◌, ◌++◌, length, set, Bool, true, false, Option, Some, None, slice_get, refl, sym, ap, subst, ◌∙◌, arith}
use Rattle.lists.proofs.Lemmas.{after_set, false_true as not_true, push_before as before_push, push_there as at_push, same_or_not, set_length, set_other as beside_set, set_there as at_set}
use Rattle.table_nodes.specs.declared.sizes.NumberSet.{NumberSet}
use Rattle.cddl_language.specs.Controls.{Membership}
use Rattle.check_terms.specs.Table.{Table}
use Rattle.check_literals.specs.declared.sizes.known.Sizes.{Sizes}
use Rattle.check_literals.specs.declared.sizes.sources.Source.{Source}
use Rattle.check_literals.specs.Sizes.Sizes.{flag_at}
use Rattle.check_literals.specs.Sizes.Controllers.{AreListed, HasList, HaveLists, IsList, IsListed, KeepsLists, controller_at, is_free, is_wanted}
use Rattle.check_literals.proofs.OfSizes.Lists.{lower, same_some}

-- what is wanted

pub record IsWanted (flag : Bool) (o : Option (Option ℕ)) : Type 0 where
  pub flagged : flag ≡ true
  pub free : o ≡ Some None

pub wanted : (b : Bool) (o : Option (Option ℕ)) → is_wanted b o ≡ true → IsWanted b o
wanted true (Some None) e = record { flagged = refl; free = refl }
wanted true (Some (Some i)) e = absurd (not_true e)
wanted true None e = absurd (not_true e)
wanted false o e = absurd (not_true e)

place_there : (rows : List (Option ℕ)) (n : ℕ) → is_free (slice_get rows n) ≡ false → n < length rows → (i : ℕ) × (slice_get rows n ≡ Some (Some i))
place_there [] n e l = absurd (omega (arith, l))
place_there (None ∷ rows) zero e l = absurd (not_true (sym e))
place_there (Some i ∷ rows) zero e l = (i, refl)
place_there (o ∷ rows) (suc n) e l = place_there rows n e (omega (arith, l))

pub listed_before : (flags : List Bool) (n : ℕ) (z : Sizes) → is_wanted (flag_at flags n) (slice_get z.rows.items n) ≡ false → HasList flags n z
listed_before flags n z e = record { place = λ f l. place_there z.rows.items n (sym (ap (λ (b : Bool). is_wanted b (slice_get z.rows.items n)) f) ∙ e) l }

module _ (ss : List Source) (flags : List Bool) (old new : Sizes) (row : ℕ) (list : NumberSet) (is : IsWanted (flag_at flags row) (slice_get old.rows.items row)) (rows : new.rows.items ≡ set old.rows.items row (Some (length old.lists.items))) (lists : new.lists.items ≡ old.lists.items ++ list ∷ []) where
  there : (n i : ℕ) → slice_get new.rows.items n ≡ Some (Some i) → ((row ≡ n) × (Some (length old.lists.items) ≡ Some i)) ⊎ ((row ≡ n → ⊥) × (slice_get old.rows.items n ≡ Some (Some i)))
  there n i e = after_set old.rows.items row n (Some (length old.lists.items)) (Some i) (ap (λ (os : List (Option ℕ)). slice_get os n) (sym rows) ∙ e)

  still_listed : (n i : ℕ) → IsListed ss n i old.lists.items → IsListed ss n i new.lists.items
  still_listed n i h = record { list = h.list; there = ap (λ (vs : List NumberSet). slice_get vs i) lists ∙ before_push old.lists.items list i h.list h.there; is_list = h.is_list }

  now_listed : (n i : ℕ) → IsList ss row list → row ≡ n → Some (length old.lists.items) ≡ Some i → IsListed ss n i new.lists.items
  now_listed n i g e f = record {
    list = list;
    there = ap (λ (vs : List NumberSet). slice_get vs i) lists ∙ subst (λ j. slice_get (old.lists.items ++ list ∷ []) j ≡ Some list) (same_some (length old.lists.items) i f) (at_push old.lists.items list);
    is_list = subst (λ m. IsList ss m list) e g;
  }

  pub more_listed : AreListed ss flags old → IsList ss row list → AreListed ss flags new
  more_listed h g = record {
    all = ap length rows ∙ (set_length old.rows.items row (Some (length old.lists.items)) ∙ h.all);
    each = λ n i e. elim (there n i e) [
      | inl q ↦ now_listed n i g q.0 q.1
      | inr q ↦ still_listed n i (h.each n i q.1)
    ];
    flagged = λ n i e. elim (there n i e) [
      | inl q ↦ subst (λ m. flag_at flags m ≡ true) q.0 is.flagged
      | inr q ↦ h.flagged n i q.1
    ];
  }

  pub added : HasList flags row new
  added = record { place = λ f l. (length old.lists.items, ap (λ (os : List (Option ℕ)). slice_get os row) rows ∙ at_set old.rows.items row (Some (length old.lists.items)) (let m = ap length rows ∙ set_length old.rows.items row (Some (length old.lists.items)) in omega (arith, l, m))) }

  pub kept : KeepsLists old new
  kept n i e = elim (same_or_not row n) [
    | inl q ↦ absurd (not_free (same_some None (Some i) (sym is.free ∙ (ap (slice_get old.rows.items) q ∙ e))))
    | inr d ↦ (i, ap (λ (os : List (Option ℕ)). slice_get os n) rows ∙ (beside_set old.rows.items row n (Some (length old.lists.items)) d ∙ e))
  ]
    where
      not_free : None ≡ Some i → ⊥
      not_free f = cc

pub lists_more : (m : Membership) (ss : List Source) (t : Table) (flags : List Bool) (k : ℕ) (old new : Sizes) → AreListed ss flags old → AreListed ss flags new → KeepsLists old new → ((n : ℕ) → controller_at m t k ≡ Some n → HasList flags n new) → HaveLists m t flags k old → HaveLists m t flags (k + 1) new
lists_more c ss t flags k old new a b keep more h j n l e = elim (same_or_not j k) [
  | inl q ↦ more n (ap (controller_at c t) (sym q) ∙ e)
  | inr d ↦ record {
    place = λ f w. (
        let all = a.all in
        let now = b.all in
        let p = (h j n (lower j k l d) e).place f (omega (arith, w, all, now)) in
        keep n p.0 p.1);
  }
]
