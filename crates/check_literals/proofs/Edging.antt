-- The edges of the graph are those from each row to the rows that it needs.
use Rattle.std.proofs.Common.{◌≡◌, ℕ, zero, suc, ◌+◌, ◌<◌, ◌⊎◌, inl, inr, List, [], ◌∷◌, length, map, Some, slice_get, refl, sym, ap, subst, ◌∙◌, arith}
use Rattle.std.specs.Prelude.{Contains}
use Rattle.std.proofs.lemmas.List.Elements.{Contains-append_cases, Contains-append_left, Contains-append_right}
use Rattle.std.proofs.lemmas.List.{length-map}
use Rattle.std.proofs.lemmas.Option.{slice_get_within}
use Rattle.lists.proofs.Lemmas.{at_head, first_or_later as head_or, later, place_of as place_of_element}
use Rattle.graphs.specs.declared.cycles.Edge.{Edge}
use Rattle.graphs.specs.Cycles.Graph.{IsBottomUp, IsEdge}
use Rattle.check_literals.specs.Edges.{edge_to, edges_at, edges_from}
use Rattle.check_literals.specs.declared.needs.Need as D
use Rattle.check_literals.specs.Needs.{Need, need_view, parts}
use Rattle.check_literals.specs.Found.{IsOrdered}

-- elements

pub element_at : {A : Type 0} (xs : List A) (x : A) (i : ℕ) → slice_get xs i ≡ Some x → Contains xs x
element_at [] x i e = absurd (cc)
element_at (y ∷ xs) x zero e = let same : y ≡ x = cc in subst (Contains (y ∷ xs)) same (at_head y xs)
element_at (y ∷ xs) x (suc i) e = later y xs x (element_at xs x i e)

-- the edges of one row

to_part : (n : ℕ) (ps : List ℕ) (m : ℕ) → Contains ps m → Contains (map (edge_to n) ps) (edge_to n m)
to_part n [] m c = absurd (omega (arith, c.1))
to_part n (p ∷ ps) m c = elim (head_or p ps m c) [ inl e ↦ subst (λ k. Contains (map (edge_to n) (p ∷ ps)) (edge_to n k)) e (at_head (edge_to n p) (map (edge_to n) ps)) | inr g ↦ later (edge_to n p) (map (edge_to n) ps) (edge_to n m) (to_part n ps m g) ]

from_row : (n : ℕ) (ps : List ℕ) (e : Edge) → Contains (map (edge_to n) ps) e → (e.from ≡ n) × Contains ps e.to
from_row n [] e c = absurd (omega (arith, c.1))
from_row n (p ∷ ps) e c = by (head_or (edge_to n p) (map (edge_to n) ps) e c) (from_row n ps e)
  where
    by : (edge_to n p ≡ e) ⊎ Contains (map (edge_to n) ps) e → (Contains (map (edge_to n) ps) e → (e.from ≡ n) × Contains ps e.to) → (e.from ≡ n) × Contains (p ∷ ps) e.to
    by (inl same) rest = (sym (ap (λ (x : Edge). x.from) same), subst (Contains (p ∷ ps)) (ap (λ (x : Edge). x.to) same) (at_head p ps))
    by (inr g) rest = let h = rest g in (h.0, later p ps e.to h.1)

-- the edges of all rows

pub edge_found : (n : ℕ) (ds : List Need) (k a b : ℕ) (d : Need) → slice_get ds k ≡ Some d → Contains (parts d) b → a ≡ n + k → Contains (edges_from n ds) (edge_to a b)
edge_found n [] k a b d e c h = absurd (cc)
edge_found n (x ∷ ds) zero a b d e c h =
    let same : x ≡ d = cc in
    let here : n ≡ a = omega (arith, h) in
    subst (λ m. Contains (edges_from n (x ∷ ds)) (edge_to m b)) here (Contains-append_left (edges_at n x) (edges_from (suc n) ds) (edge_to n b) (to_part n (parts x) b (subst (λ y. Contains (parts y) b) (sym same) c)))
edge_found n (x ∷ ds) (suc k) a b d e c h = Contains-append_right (edges_at n x) (edges_from (suc n) ds) (edge_to a b) (edge_found (suc n) ds k a b d e c (omega (arith, h)))

-- the row of this number needs the other
pub record Needs (n : ℕ) (ds : List Need) (a b : ℕ) : Type 0 where
  pub place : ℕ
  pub need : Need
  pub there : slice_get ds place ≡ Some need
  pub number : a ≡ n + place
  pub part : Contains (parts need) b

pub edge_told : (n : ℕ) (ds : List Need) (e : Edge) → Contains (edges_from n ds) e → Needs n ds e.from e.to
edge_told n [] e c = absurd (omega (arith, c.1))
edge_told n (x ∷ ds) e c = by (Contains-append_cases (edges_at n x) (edges_from (suc n) ds) e c) (edge_told (suc n) ds e)
  where
    by : Contains (edges_at n x) e ⊎ Contains (edges_from (suc n) ds) e → (Contains (edges_from (suc n) ds) e → Needs (suc n) ds e.from e.to) → Needs n (x ∷ ds) e.from e.to
    by (inl g) rest = let h = from_row n (parts x) e g in record { place = 0; need = x; there = refl; number = omega (arith, h.0); part = h.1 }
    by (inr g) rest = let h = rest g in record { place = suc h.place; need = h.need; there = h.there; number = omega (arith, h.number); part = h.part }

module _ (ds : List Need) (order : List ℕ) (is : IsBottomUp (length ds) (edges_from 0 ds) order) where
  pub edge_there : (a b : ℕ) (d : Need) → slice_get ds a ≡ Some d → Contains (parts d) b → b < length ds → IsEdge (length ds) (edges_from 0 ds) a b
  edge_there a b d e c lt =
      let at = place_of_element (edges_from 0 ds) (edge_to a b) (edge_found 0 ds a a b d e c (omega arith)) in
      record { place = at.0; there = at.1; begins = slice_get_within ds a d e; ends = lt }

  pub ordered : IsOrdered ds order
  ordered = record {
    within_rows = is.within;
    once = is.once;
    after = λ i a b d at e c lt. is.after i a b at (edge_there a b d e c lt);
  }

  -- a row that is not in the order needs one that is not in it
  pub others_need : (a : ℕ) → a < length ds → (Contains order a → ⊥) → (d : Need) × (slice_get ds a ≡ Some d) × (b : ℕ) × Contains (parts d) b × (Contains order b → ⊥)
  others_need a lt out =
      let other = is.others a lt out in
      let needs = edge_told 0 ds (edge_to a other.0) (element_at (edges_from 0 ds) (edge_to a other.0) (other.1).place (other.1).there) in
      let same : a ≡ needs.place = omega (arith, needs.number) in
      (needs.need, ap (slice_get ds) same ∙ needs.there, other.0, needs.part, other.2)

-- as the code has it
pub bottom_up_of : (needs : List D.Need) (n : ℕ) (edges : List Edge) (order : List ℕ) → n ≡ length needs → edges ≡ edges_from 0 (map need_view needs) → IsBottomUp n edges order → IsBottomUp (length (map need_view needs)) (edges_from 0 (map need_view needs)) order
bottom_up_of needs n edges order e g is = subst (λ k. IsBottomUp k (edges_from 0 (map need_view needs)) order) (e ∙ sym (length-map needs need_view)) (subst (λ es. IsBottomUp n es order) g is)
