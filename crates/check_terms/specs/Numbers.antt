-- The numbers of texts and of rows, as the tables for looking them up have them.
use Rattle.std.specs.Prelude.{◌≡◌, ◌↔◌, ℕ, List, Option, Some, slice_get}
use Rattle.std.specs.Borrow.{Bor}
use Rattle.std.specs.HashMap.{HashMap, get}
use Rattle.std.specs.contracts.prelude.RefStrPartialEq.TheImpl as text_eq
use Rattle.check_terms.specs.contracts.row.RowPartialEq.TheImpl as row_eq
use Rattle.check_terms.specs.declared.row.Row.{Row}
use Rattle.check_terms.specs.Table.{texts_in}

-- what stands in the list has its place as its number, and nothing else has one
abbrev pub AreNumbered : {A B : Type 0} → (A → B) → (A → Option ℕ) → List B → Type 0
AreNumbered {A = A} view number xs = (x : A) (n : ℕ) → (number x ≡ Some n) ↔ (slice_get xs n ≡ Some (view x))

abbrev pub AreTextNumbers : {S : Type 0} → HashMap (Bor (List ℕ)) ℕ S → List (Bor (List ℕ)) → Type 0
AreTextNumbers m ts = AreNumbered (λ (t : Bor (List ℕ)). t.now) (get (text_eq.ghosts).eq m) (texts_in ts)

abbrev pub AreRowNumbers : {S : Type 0} → HashMap Row ℕ S → List Row → Type 0
AreRowNumbers m rs = AreNumbered (λ (r : Row). r) (get (row_eq.ghosts).eq m) rs
