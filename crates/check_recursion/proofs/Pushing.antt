-- One more row is told.
use Rattle.std.proofs.Common.{◌≡◌, ℕ, ◌+◌, ◌<◌, ◌⊎◌, inl, inr, List, [], ◌∷◌, ◌++◌, length, Some, sym, ap, subst, ◌∙◌, slice_get}
use Rattle.lists.proofs.Lemmas.{get_front, get_last, last_or_below, push_length as length_more}
use Rattle.cddl_language.specs.Kinds.{part_of}
use Rattle.cddl_language.specs.Reach.{points}
use Rattle.cddl_language.specs.Terms.{Definition, Ref, Term, Text}
use Rattle.check_terms.specs.Table.{Table}
use Rattle.check_terms.specs.Trees.{IsTerm}
use Rattle.check_instances.specs.Closed.Closed.{AreReached}
use Rattle.check_instances.specs.declared.openings.openings.Part.{Part}
use Rattle.check_instances.specs.Openings.Openings.{IsPart}
use Rattle.check_recursion.specs.Order.{AreParts}

pub length_push : (parts new : List Part) (q : Part) (row : ℕ) → length parts ≡ row → new ≡ parts ++ q ∷ [] → length new ≡ row + 1
length_push parts new q row e f = ap length f ∙ length_more parts q ∙ ap (λ k. k + 1) e

pub parts_push : (xs : List Definition) (root : Text) (refs : List Ref) (t : Table) (row : ℕ) (parts new : List Part) (q : Part) → length parts ≡ row → new ≡ parts ++ q ∷ [] → ((x : Term) → IsTerm t row x → AreReached xs root (points x) → IsPart t refs (part_of xs x) q) → AreParts xs root refs t row parts → AreParts xs root refs t (row + 1) new
parts_push xs root refs t row parts new q all f told are n x h i r = by (last_or_below n row h)
  where
    by : (n < row) ⊎ (n ≡ row) → (p : Part) × (slice_get new n ≡ Some p) × IsPart t refs (part_of xs x) p
    by (inl g) = let p = are n x g i r in (p.0, ap (λ (ps : List Part). slice_get ps n) f ∙ get_front parts (q ∷ []) n p.0 p.1, p.2)
    by (inr g) = (q, ap (λ (ps : List Part). slice_get ps n) f ∙ get_last parts q n (all ∙ sym g), told x (subst (λ m. IsTerm t m x) g i) r)
