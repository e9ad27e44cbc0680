-- A table that has what another has, text by text and row by row.
use Rattle.std.proofs.Common.{◌≡◌, ℕ, ◌+◌, ◌<◌, ◌≤◌, ◌⊎◌, inl, inr, Option, Some, None, IfSome, length, slice_get, sym, ap, ◌∙◌, arith}
use Rattle.lists.proofs.Lemmas.{last_or_below, there, within}
use Rattle.cddl_language.specs.Terms.{Text}
use Rattle.check_terms.specs.declared.row.Row.{Row}
use Rattle.check_terms.specs.Table.{Grows, HasParts, IsTable, Table}
use Rattle.source_places.specs.Copies.{HasTexts}

-- one text more
pub text_more : (t old new : Table) (i : ℕ) (x : Text) → ((n : ℕ) (y : Text) → n < i → slice_get t.texts n ≡ Some y → slice_get old.texts n ≡ Some y) → slice_get t.texts i ≡ Some x → Grows old new → slice_get new.texts i ≡ Some x → (n : ℕ) (y : Text) → n < i + 1 → slice_get t.texts n ≡ Some y → slice_get new.texts n ≡ Some y
text_more t old new i x so_far is g is_there n y h e = by (last_or_below n i h)
  where
    by : (n < i) ⊎ (n ≡ i) → slice_get new.texts n ≡ Some y
    by (inl l) = g.texts n y (so_far n y l e)
    by (inr k) = ap (slice_get new.texts) k ∙ is_there ∙ sym is ∙ ap (slice_get t.texts) (sym k) ∙ e

pub all_texts : (t copy : Table) (i : ℕ) → length t.texts ≤ i → ((n : ℕ) (y : Text) → n < i → slice_get t.texts n ≡ Some y → slice_get copy.texts n ≡ Some y) → HasTexts t copy
all_texts t copy i h f n y e = let l = within t.texts n y e in f n y (omega (arith, l, h)) e

-- all texts and the first rows
pub record HasRows (t copy : Table) (i : ℕ) : Type 0 where
  pub texts : HasTexts t copy
  pub rows : (n : ℕ) (r : Row) → n < i → slice_get t.rows n ≡ Some r → slice_get copy.rows n ≡ Some r
  pub long : i ≤ length copy.rows

pub no_row : (t copy : Table) → HasTexts t copy → HasRows t copy 0
no_row t copy h = record { texts = h; rows = λ n r l e. absurd (omega (arith, l)); long = omega arith }

pub row_more : (t old new : Table) (i : ℕ) (r : Row) → HasRows t old i → slice_get t.rows i ≡ Some r → Grows old new → slice_get new.rows i ≡ Some r → HasRows t new (i + 1)
row_more t old new i r h is g is_there = record {
  texts = λ n y e. g.texts n y (h.texts n y e);
  rows = λ n y l e. by n y e (last_or_below n i l);
  long = let l = within new.rows i r is_there in omega (arith, l);
}
  where
    by : (n : ℕ) (y : Row) → slice_get t.rows n ≡ Some y → (n < i) ⊎ (n ≡ i) → slice_get new.rows n ≡ Some y
    by n y e (inl l) = g.rows n y (h.rows n y l e)
    by n y e (inr k) = ap (slice_get new.rows) k ∙ is_there ∙ sym is ∙ ap (slice_get t.rows) (sym k) ∙ e

pub all_rows : (t copy : Table) (i : ℕ) → length t.rows ≤ i → HasRows t copy i → Grows t copy
all_rows t copy i h g = record { texts = g.texts; rows = λ n r e. let l = within t.rows n r e in g.rows n r (omega (arith, l, h)) e }

some_more : (o : Option ℕ) (P Q : ℕ → Type 0) → ((n : ℕ) → P n → Q n) → IfSome o P → IfSome o Q
some_more None P Q f h = tt
some_more (Some n) P Q f h = f n h

-- the copy has the parts of the next row
pub has_parts : (t copy : Table) (i : ℕ) (r : Row) → IsTable t → HasRows t copy i → slice_get t.rows i ≡ Some r → HasParts copy r
has_parts t copy i r is h e =
    let b = is.earlier i r e in
    (some_more r.text _ _ texts b.0, some_more r.first _ _ rows b.1, some_more r.second _ _ rows b.2)
  where
    texts : (n : ℕ) → n < length t.texts → n < length copy.texts
    texts n l = let w = there t.texts n l in within copy.texts n w.0 (h.texts n w.0 w.1)

    rows : (n : ℕ) → n < i → n < length copy.rows
    rows n l = let k = h.long in omega (arith, l, k)
