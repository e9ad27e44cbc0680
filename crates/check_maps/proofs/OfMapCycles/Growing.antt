-- One more row is told.
use Rattle.std.proofs.Common.{◌≡◌, ℕ, ◌+◌, ◌<◌, ◌⊎◌, inl, inr, List, [], ◌∷◌, ◌++◌, length, Option, Some, sym, ap, subst, ◌∙◌, slice_get}
use Rattle.lists.proofs.Lemmas.{get_front, get_last, last_or_below}
use Rattle.cddl_language.specs.MapFaults.{point_in}
use Rattle.cddl_language.specs.Reach.{entry_points}
use Rattle.cddl_language.specs.Terms.{Definition, Entry, Ref, Text}
use Rattle.check_terms.specs.Table.{Table}
use Rattle.check_terms.specs.Trees.{IsEntry}
use Rattle.check_instances.specs.Closed.Closed.{AreReached}
use Rattle.check_maps.specs.declared.spliced.owners.Owner.{Owner}
use Rattle.check_maps.specs.Spliced.Spliced.{IsTarget}
use Rattle.check_maps.specs.MapCycles.Coming.{AreTargets}

pub targets_push : (xs : List Definition) (root : Text) (refs : List Ref) (t : Table) (row : ℕ) (targets new : List (Option Owner)) (w : Option Owner) → length targets ≡ row → new ≡ targets ++ w ∷ [] → ((e : Entry) → IsEntry t row e → AreReached xs root (entry_points e) → IsTarget xs refs (point_in xs e) w) → AreTargets xs root refs t row targets → AreTargets xs root refs t (row + 1) new
targets_push xs root refs t row targets new w all f told are n e h i r = by (last_or_below n row h)
  where
    by : (n < row) ⊎ (n ≡ row) → (o : Option Owner) × (slice_get new n ≡ Some o) × IsTarget xs refs (point_in xs e) o
    by (inl g) = let p = are n e g i r in (p.0, ap (λ (ps : List (Option Owner)). slice_get ps n) f ∙ get_front targets (w ∷ []) n p.0 p.1, p.2)
    by (inr g) = (w, ap (λ (ps : List (Option Owner)). slice_get ps n) f ∙ get_last targets w n (all ∙ sym g), told e (subst (λ m. IsEntry t m e) g i) r)
