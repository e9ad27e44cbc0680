use Rattle.std.proofs.Common.{◌≡◌, ℕ, ◌<◌, Some, slice_get}
use Rattle.cddl_language.specs.Terms.{Text}
use Rattle.source_places.proofs.copies.copy_texts.Given as goal

abbrev pub invariant-loop-index : goal.invariant-loop-index
invariant-loop-index l = (n : ℕ) (x : Text) → n < l.index → slice_get l.terms.texts n ≡ Some x → slice_get l.copy.texts n ≡ Some x
