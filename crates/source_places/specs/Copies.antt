-- Tables of terms that have what another has, by the same numbers.
use Rattle.std.specs.Prelude.{◌≡◌, ℕ, Some, slice_get}
use Rattle.cddl_language.specs.Terms.{Text}
use Rattle.check_terms.specs.Table.{Table}

abbrev pub HasTexts : Table → Table → Type 0
HasTexts t copy = (n : ℕ) (x : Text) → slice_get t.texts n ≡ Some x → slice_get copy.texts n ≡ Some x
