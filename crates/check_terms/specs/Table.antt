-- A table of rows, and the trees that their numbers stand for.
use Rattle.std.specs.Prelude.{◌≡◌, ◌<◌, ◌⊎◌, ℕ, List, [], ◌∷◌, ◌++◌, map, length, Option, Some, None, IfSome, slice_get}
use Rattle.std.specs.Borrow.{Bor}
use Rattle.cddl_language.specs.Terms.{Text}
use Rattle.check_terms.specs.declared.row.Form.{Form}
use Rattle.check_terms.specs.declared.row.Row.{Row}

pub record Table : Type 0 where
  pub texts : List Text
  pub rows : List Row

abbrev pub texts_in : List (Bor (List ℕ)) → List Text
texts_in ts = map (λ (t : Bor (List ℕ)). t.now) ts

-- no two are equal
abbrev pub AreDistinct : {A : Type 0} → List A → Type 0
AreDistinct {A = A} xs = (i j : ℕ) (x : A) → slice_get xs i ≡ Some x → slice_get xs j ≡ Some x → i ≡ j

-- the text and the parts of the row have numbers below these
abbrev pub IsBelow : ℕ → ℕ → Row → Type 0
IsBelow texts rows r = IfSome r.text (λ n. n < texts) × IfSome r.first (λ n. n < rows) × IfSome r.second (λ n. n < rows)

-- the table has the row's text and parts
abbrev pub HasParts : Table → Row → Type 0
HasParts t r = IsBelow (length t.texts) (length t.rows) r

pub record IsTable (t : Table) : Type 0 where
  pub texts : AreDistinct t.texts
  pub rows : AreDistinct t.rows
  pub earlier : (i : ℕ) (r : Row) → slice_get t.rows i ≡ Some r → IsBelow (length t.texts) i r

-- the list stays, or has this one more at its end
abbrev pub Adds : {A : Type 0} → List A → A → List A → Type 0
Adds old x new = (new ≡ old) ⊎ (new ≡ old ++ x ∷ [])

abbrev pub AddsRow : Table → Row → Table → Type 0
AddsRow old r new = (new.texts ≡ old.texts) × Adds old.rows r new.rows

abbrev pub AddsText : Table → Text → Table → Type 0
AddsText old x new = (new.rows ≡ old.rows) × Adds old.texts x new.texts

-- a form with a text or none and up to two parts; `nothing` is no part
pub data Tree : Type 0 where
  nothing : Tree
  node : Form → Option Text → Tree → Tree → Tree

pub data HoldsText (xs : List Text) : Option ℕ → Option Text → Type 0 where
  no_text : HoldsText xs None None
  some_text : {n : ℕ} {x : Text} → slice_get xs n ≡ Some x → HoldsText xs (Some n) (Some x)

-- the number stands for the tree
pub data Holds (t : Table) : Option ℕ → Tree → Type 0 where
  no_part : Holds t None nothing
  part : {n : ℕ} {f : Form} {m i j : Option ℕ} {x : Option Text} {a b : Tree} → slice_get t.rows n ≡ Some (record { form = f; text = m; first = i; second = j }) → HoldsText t.texts m x → Holds t i a → Holds t j b → Holds t (Some n) (node f x a b)

-- the new table has what the old one has, at the same numbers
pub record Grows (old new : Table) : Type 0 where
  pub texts : (n : ℕ) (x : Text) → slice_get old.texts n ≡ Some x → slice_get new.texts n ≡ Some x
  pub rows : (n : ℕ) (r : Row) → slice_get old.rows n ≡ Some r → slice_get new.rows n ≡ Some r

-- no part, or a row of the table
abbrev pub IsPart : Table → Option ℕ → Type 0
IsPart t n = IfSome n (λ i. i < length t.rows)
