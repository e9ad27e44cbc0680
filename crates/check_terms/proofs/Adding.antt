-- A list that stays or has one more at its end.
use Rattle.std.proofs.Common.{◌≡◌, ℕ, ◌<◌, ◌≤◌, List, [], ◌∷◌, ◌++◌, length, Some, None, Option, sym, ap, subst, inl, inr, slice_get, arith, IfSome}
use Rattle.lists.proofs.Lemmas.{get_cases as get-cases}
use Rattle.check_terms.specs.Table.{Table, IsTable, AreDistinct, Adds, HasParts, IsBelow}
use Rattle.check_terms.specs.declared.row.Row.{Row}

pub below-more : (r : Row) (n m rows : ℕ) → n ≤ m → IsBelow n rows r → IsBelow m rows r
below-more r n m rows h b = (more r.text b.0, b.1, b.2)
  where
    more : (o : Option ℕ) → IfSome o (λ x. x < n) → IfSome o (λ x. x < m)
    more None p = p
    more (Some x) p = omega arith

pub longer : {A : Type 0} (old new : List A) (x : A) → Adds old x new → length old ≤ length new
longer old new x (inl e) = omega (arith, ap length e)
longer old new x (inr e) = subst (λ ys. length old ≤ length ys) (sym e) (grown old)
  where
    grown : (ys : List _) → length ys ≤ length (ys ++ x ∷ [])
    grown [] = omega arith
    grown (y ∷ ys) = let h = grown ys in omega (arith, h)

-- with a row at the end
pub row-added : (t : Table) (r : Row) (rows : List Row) → IsTable t → HasParts t r → AreDistinct rows → Adds t.rows r rows → IsTable (record { texts = t.texts; rows = rows })
row-added t r rows is has distinct adds = record { texts = is.texts; rows = distinct; earlier = λ i q e. earlier adds i q e }
  where
    earlier : Adds t.rows r rows → (i : ℕ) (q : Row) → slice_get rows i ≡ Some q → IsBelow (length t.texts) i q
    earlier (inl same) i q e = is.earlier i q (subst (λ xs. slice_get xs i ≡ Some q) same e)
    earlier (inr same) i q e = elim (get-cases t.rows r i q (subst (λ xs. slice_get xs i ≡ Some q) same e)) [ inl h ↦ is.earlier i q h | inr h ↦ subst (λ n. IsBelow (length t.texts) n q) (sym h.0) (subst (IsBelow (length t.texts) (length t.rows)) (sym h.1) has) ]

-- with a text at the end
pub text-added : (t : Table) (x : List ℕ) (texts : List (List ℕ)) → IsTable t → AreDistinct texts → Adds t.texts x texts → IsTable (record { texts = texts; rows = t.rows })
text-added t x texts is distinct adds = record { texts = distinct; rows = is.rows; earlier = λ i q e. below-more q (length t.texts) (length texts) i (longer t.texts texts x adds) (is.earlier i q e) }
