-- Lists that grow at their end, by rows: the way from the last part to the first.
use Rattle.std.specs.Prelude.{◌≡◌, ℕ, Bool, true, false, if◌then◌else◌, List, [], ◌∷◌, reverse, Option, Some, None, slice_get}
use Rattle.check_terms.specs.declared.row.Form.{Form}
use Rattle.check_terms.specs.declared.row.Form.TheVariants as F
use Rattle.check_terms.specs.declared.row.Row.{Row}
use Rattle.check_instances.specs.declared.closed.spines.Spine.{Spine}
use Rattle.check_instances.specs.declared.closed.spines.Spine.TheVariants as S

-- whether a row of this form has further parts before its last
abbrev pub goes_on : Spine → Form → Bool
goes_on S.Choices F.Or = true
goes_on S.Alternatives F.OrElse = true
goes_on S.Entries F.Entries = true
goes_on S.Entries F.EntriesComma = true
goes_on s f = false

abbrev pub both : Option ℕ → Option ℕ → Option (ℕ × ℕ)
both (Some i) (Some j) = Some (i, j)
both (Some i) None = None
both None j = None

abbrev pub split_in : Spine → Option Row → Option (ℕ × ℕ)
split_in s None = None
split_in s (Some r) = if goes_on s r.form then both r.first r.second else None

-- the row of what is before the last part, and that of the last part
abbrev pub split_at : Spine → List Row → ℕ → Option (ℕ × ℕ)
split_at s rows n = split_in s (slice_get rows n)

-- from the row, by these last parts, to this row, which has none
pub data IsWalked (s : Spine) (rows : List Row) : ℕ → List ℕ → ℕ → Type 0 where
  ends : {n : ℕ} → split_at s rows n ≡ None → IsWalked s rows n [] n
  goes : {n i j e : ℕ} {ps : List ℕ} → split_at s rows n ≡ Some (i, j) → IsWalked s rows i ps e → IsWalked s rows n (j ∷ ps) e

-- the parts in order, after the one in the last row, if any
abbrev pub in_order : List ℕ → Option ℕ → List ℕ
in_order ps (Some e) = e ∷ reverse ps
in_order ps None = reverse ps

abbrev pub first_in : Option Row → Option ℕ
first_in None = None
first_in (Some r) = r.first

abbrev pub first_at : List Row → ℕ → Option ℕ
first_at rows n = first_in (slice_get rows n)
