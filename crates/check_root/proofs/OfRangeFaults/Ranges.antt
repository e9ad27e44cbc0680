-- A bad range is told at an end or at an occurrence.
use Rattle.std.proofs.Common.{ℕ, ◌↔◌, ◌⊎◌, inl, inr, List, Option}
use Rattle.cddl_language.specs.Faults.{HasBadRange, Specification, bounds, definitions, first_end, last_end, rules}
use Rattle.cddl_language.specs.Literals.{Values}
use Rattle.cddl_language.specs.Terms.{Text}
use Rattle.check_terms.specs.Table.{Table}
use Rattle.check_reading.specs.declared.words.word.Word.{Word}
use Rattle.lists.specs.Least.{IsLeast, lesser_of}
use Rattle.lists.proofs.Lemmas.{same_least as alike, lesser_least as either}
use Rattle.check_reached.specs.declared.asked.Asked.{Asked}
use Rattle.check_reached.specs.Asked.{AreAsked}
use Rattle.check_reached.specs.Reached.{AreReachedWords}
use Rattle.check_root.specs.RangeFaults.Bounds.{IsOverWord}
use Rattle.check_root.specs.RangeFaults.Ends.{IsBadEnd}
use Rattle.std.specs.List.{Contains}
use Rattle.std.specs.List.Sorted.{IsStrictlyIncreasing}
use Rattle.all_offsets.specs.Offsets.{AreOffsets, IsAmong}
use Rattle.all_offsets.proofs.Lemmas.{of_either, same_offsets}
use Rattle.check_root.proofs.OfRangeFaults.Bounding as Bounding
use Rattle.check_root.proofs.OfRangeFaults.Bounding.{IsAtBounds, at_bounds, bounds_told, told_bounds}
use Rattle.check_root.proofs.OfRangeFaults.Ending as Ending
use Rattle.check_root.proofs.OfRangeFaults.Ending.{IsAtEnd, at_first_end, at_last_end, end_told, told_end}
use Rattle.check_root.proofs.OfRangeFaults.Whole.{OneTerm}

module _ (s : Specification) (worth : Values) (root : Text) where
  joined : (at : ℕ) → IsAtEnd s worth root at ⊎ IsAtBounds s root at → HasBadRange s worth root at
  joined at (inl (at_first_end {r = r} {xs = xs} {x = x} {y = y} {o = o} h z n e)) = first_end {r = r} {xs = xs} {x = x} {y = y} {o = o} h z n e
  joined at (inl (at_last_end {r = r} {xs = xs} {x = x} {y = y} {o = o} h z n e)) = last_end {r = r} {xs = xs} {x = x} {y = y} {o = o} h z n e
  joined at (inr (at_bounds {r = r} {xs = xs} {e = e} {t = t} h k o p)) = bounds {r = r} {xs = xs} {e = e} {t = t} h k o p

  apart : (at : ℕ) → HasBadRange s worth root at → IsAtEnd s worth root at ⊎ IsAtBounds s root at
  apart at (first_end {r = r} {xs = xs} {x = x} {y = y} {o = o} h z n e) = inl (at_first_end {r = r} {xs = xs} {x = x} {y = y} {o = o} h z n e)
  apart at (last_end {r = r} {xs = xs} {x = x} {y = y} {o = o} h z n e) = inl (at_last_end {r = r} {xs = xs} {x = x} {y = y} {o = o} h z n e)
  apart at (bounds {r = r} {xs = xs} {e = e} {t = t} h k o p) = inr (at_bounds {r = r} {xs = xs} {e = e} {t = t} h k o p)

  module _ (t : Table) (ends : Ending.Laws s worth root) (sites : Bounding.Laws s root) (asked : List Asked) (ws : List Word) (are : AreAsked (rules s) root t asked) (reached : AreReachedWords (rules s) root t ws) (one : OneTerm t) where
    pub least_range : (a b : Option ℕ) → IsLeast (IsAmong (IsBadEnd (definitions s) worth t) asked) a → IsLeast (IsAmong (IsOverWord t.texts) ws) b → IsLeast (HasBadRange s worth root) (lesser_of a b)
    least_range a b h k = alike (λ at. IsAtEnd s worth root at ⊎ IsAtBounds s root at) (HasBadRange s worth root) joined apart (lesser_of a b) (either (IsAtEnd s worth root) (IsAtBounds s root) a b (alike (IsAmong (IsBadEnd (definitions s) worth t) asked) (IsAtEnd s worth root) (told_end s worth root t ends asked are one) (end_told s worth root t ends asked are) a h) (alike (IsAmong (IsOverWord t.texts) ws) (IsAtBounds s root) (told_bounds s root sites t ws reached) (bounds_told s root sites t ws reached) b k))

    pub all_ranges : (xs ys zs : List ℕ) → AreOffsets (IsAmong (IsBadEnd (definitions s) worth t) asked) xs → AreOffsets (IsAmong (IsOverWord t.texts) ws) ys → IsStrictlyIncreasing zs → ((p : ℕ) → Contains zs p ↔ (Contains xs p ⊎ Contains ys p)) → AreOffsets (HasBadRange s worth root) zs
    all_ranges xs ys zs h k rising each = same_offsets (λ at. IsAtEnd s worth root at ⊎ IsAtBounds s root at) (HasBadRange s worth root) zs joined apart (of_either (IsAtEnd s worth root) (IsAtBounds s root) xs ys zs (same_offsets (IsAmong (IsBadEnd (definitions s) worth t) asked) (IsAtEnd s worth root) xs (told_end s worth root t ends asked are one) (end_told s worth root t ends asked are) h) (same_offsets (IsAmong (IsOverWord t.texts) ws) (IsAtBounds s root) ys (told_bounds s root sites t ws reached) (bounds_told s root sites t ws reached) k) rising each)
