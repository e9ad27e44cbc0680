-- The edges of a node, followed from the last one down.
use Rattle.std.proofs.Common.{◌≡◌, ℕ, ◌+◌, ◌<◌, ◌≤◌, List, length, get_or, Bool, true, false, Option, Some, None, ◌⊎◌, inl, inr, slice_get, sym, ap, subst, ◌∙◌, arith}
use Rattle.std.proofs.lemmas.Option.{slice_get-get_or, get_or_from_slice_get}
use Rattle.lists.proofs.Lemmas.{never_some, within}
use Rattle.graphs.specs.declared.cycles.Edge.{Edge}
use Rattle.graphs.specs.Cycles.Links.{IsLast, Joins}
use Rattle.graphs.specs.Cycles.Turns.{AreBelow, IsHeld, IsLeft, IsReady, left_at_most}
use Rattle.graphs.proofs.OfCycles.Lists.{same_some}
use Rattle.graphs.proofs.OfCycles.Ways.{edge_of, joins_of, same_to}

pub flag_on : (placed : List Bool) (i : ℕ) → i < length placed → get_or placed i false ≡ true → slice_get placed i ≡ Some true
flag_on placed i l e = slice_get-get_or placed i false l ∙ ap Some e

pub flag_off : (placed : List Bool) (i : ℕ) → get_or placed i false ≡ false → slice_get placed i ≡ Some true → ⊥
flag_off placed i e f = never (sym e ∙ get_or_from_slice_get placed i true false f)
  where
    never : false ≡ true → ⊥
    never q = cc

module _ (nodes : ℕ) (edges : List Edge) (placed : List Bool) (a : ℕ) where
  last_there : (o : Option ℕ) (most : ℕ) → IsLast nodes edges a most o → (e : ℕ) → o ≡ Some e → (b : ℕ) × Joins nodes edges e a b
  last_there None most h e q = absurd (never_some e q)
  last_there (Some f) most h e q = (h.to, subst (λ g. Joins nodes edges g a h.to) (same_some f e q) h.joins)

  before_last : (o : Option ℕ) (most : ℕ) → IsLast nodes edges a most o → (e b : ℕ) → Joins nodes edges e a b → e < most → IsLeft o e
  before_last None most h e b j l = absurd (h e b j l)
  before_last (Some f) most h e b j l = h.last e b j l

  pub fewer_left : (o : Option ℕ) (e : ℕ) → IsLast nodes edges a e o → left_at_most o < e + 1
  fewer_left None e h = omega arith
  fewer_left (Some f) e h = let l = h.below in omega (arith, l)

  pub begins_below : (o : Option ℕ) → (slice_get placed a ≡ Some true → ⊥) → IsLast nodes edges a (length edges) o → AreBelow nodes edges placed a o
  begins_below o fresh h = record {
    fresh = fresh;
    there = λ e q. last_there o (length edges) h e q;
    below = λ e b j. inl (before_last o (length edges) h e b j (within edges e _ j.there));
  }

  left_or_now : (o next : Option ℕ) (e to f b : ℕ) → next ≡ Some e → IsLast nodes edges a e o → Joins nodes edges e a to → slice_get placed to ≡ Some true → Joins nodes edges f a b → IsLeft next f → IsLeft o f ⊎ (slice_get placed b ≡ Some true)
  left_or_now o next e to f b q h j p i l = elim (earlier (subst (λ u. IsLeft u f) q l)) [
    | inl s ↦ inr (subst (λ z. slice_get placed z ≡ Some true) (same_to nodes edges e a to a b j (subst (λ g. Joins nodes edges g a b) s i)) p)
    | inr m ↦ inl (before_last o e h f b i m)
  ]
    where
      earlier : f ≤ e → (f ≡ e) ⊎ (f < e)
      earlier m = grind arith

  pub goes_below : (o next : Option ℕ) (e to : ℕ) → next ≡ Some e → AreBelow nodes edges placed a next → IsLast nodes edges a e o → Joins nodes edges e a to → slice_get placed to ≡ Some true → AreBelow nodes edges placed a o
  goes_below o next e to q kept h j p = record {
    fresh = kept.fresh;
    there = λ f r. last_there o e h f r;
    below = λ f b i. elim (kept.below f b i) [ inl l ↦ left_or_now o next e to f b q h j p i l | inr r ↦ inr r ];
  }

  pub all_below : (next : Option ℕ) → next ≡ None → AreBelow nodes edges placed a next → IsReady nodes edges placed a
  all_below next q kept = record {
    fresh = kept.fresh;
    below = λ b d. elim (kept.below d.place b (joins_of nodes edges d)) [ inl l ↦ absurd (subst (λ u. IsLeft u d.place) q l) | inr p ↦ p ];
  }

  pub is_held : (e to : ℕ) → Joins nodes edges e a to → (slice_get placed to ≡ Some true → ⊥) → IsHeld nodes edges placed a
  is_held e to j n = record { by = to; edge = edge_of nodes edges e a to j; not_yet = n }
