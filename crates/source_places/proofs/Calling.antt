-- Names by their numbers in a table of terms.
use Rattle.std.proofs.Common.{◌≡◌, ℕ, Bool, true, false, Option, Some, None, option_map, slice_get, refl, sym}
use Rattle.lists.proofs.Lemmas.{same_some}
use Rattle.cddl_language.specs.Terms.{Text}
use Rattle.check_terms.specs.Table.{Table}
use Rattle.source_pieces.specs.Origins.{called_in}
use Rattle.source_pieces.specs.Pieces.{Called, plain, unwrapped}
use Rattle.source_places.specs.States.{plain_name, unwrapped_name}
use Rattle.source_pieces.specs.Walk.{called}
use Rattle.source_pieces.specs.declared.piece.NameAt.{NameAt}
use Rattle.source_places.proofs.Splicing.{same_name}

module _ (t : Table) where
  abbrev pub text_at : Option NameAt → Option Called
  text_at None = None
  text_at (Some n) = called_in t n

  pub number_there : (m : Option NameAt) (y : Called) → text_at m ≡ Some y → (n : NameAt) × (m ≡ Some n) × (called_in t n ≡ Some y)
  number_there None y e = cc
  number_there (Some n) y e = (n, refl, e)

  pub plain_there : (n : NameAt) (y : Text) → called_in t n ≡ Some (plain y) → (n ≡ plain_name n.number) × (slice_get t.texts n.number ≡ Some y)
  plain_there n y e = let w = by n.is_unwrapped (slice_get t.texts n.number) e in (same_name n (plain_name n.number) refl w.0, w.1)
    where
      by : (b : Bool) (o : Option Text) → option_map (called b) o ≡ Some (plain y) → (b ≡ false) × (o ≡ Some y)
      by false (Some z) f = (refl, cc)
      by true (Some z) f = cc
      by b None f = cc

  pub unwrapped_there : (n : NameAt) (y : Text) → called_in t n ≡ Some (unwrapped y) → (n ≡ unwrapped_name n.number) × (slice_get t.texts n.number ≡ Some y)
  unwrapped_there n y e = let w = by n.is_unwrapped (slice_get t.texts n.number) e in (same_name n (unwrapped_name n.number) refl w.0, w.1)
    where
      by : (b : Bool) (o : Option Text) → option_map (called b) o ≡ Some (unwrapped y) → (b ≡ true) × (o ≡ Some y)
      by true (Some z) f = (refl, cc)
      by false (Some z) f = cc
      by b None f = cc

  -- of what a number after `~` stands for
  pub unwrapped_text : (n : ℕ) (y : Called) → called_in t (unwrapped_name n) ≡ Some y → (z : Text) × (y ≡ unwrapped z) × (slice_get t.texts n ≡ Some z)
  unwrapped_text n y e = by (slice_get t.texts n) refl e
    where
      by : (o : Option Text) → slice_get t.texts n ≡ o → option_map (called true) o ≡ Some y → (z : Text) × (y ≡ unwrapped z) × (slice_get t.texts n ≡ Some z)
      by None f g = cc
      by (Some z) f g = (z, sym (same_some g), f)
