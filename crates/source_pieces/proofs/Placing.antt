-- What was found by the walk stands in the rule at its place.
use Rattle.std.proofs.Common.{◌≡◌, ℕ, zero, suc, ◌+◌, inl, inr, List, [], ◌∷◌, map, Some, slice_get, refl, sym, ap, subst, ◌∙◌, arith}
use Rattle.std.specs.List.{Contains}
use Rattle.std.proofs.lemmas.List.Elements.{Contains-append_cases, Contains-append_left, Contains-append_right}
use Rattle.lists.proofs.Lemmas.{first_or_later, later, none_in, same_some}
use Rattle.cddl_token.specs.declared.Token.{Token}
use Rattle.tree_nodes.specs.Syntax.Syntax as S
use Rattle.tree_nodes.specs.declared.tree.Leaf.{Leaf}
use Rattle.check_terms.specs.Table.{Table}
use Rattle.source_pieces.specs.Instances.{all_as_written}
use Rattle.source_pieces.specs.Origins.{AreRead, ArePieces, IsPieceAt, Stands}
use Rattle.source_pieces.specs.Pieces.{Piece, in_rule, placed, rule_by_rule}
use Rattle.source_pieces.specs.Walk.{view_found}
use Rattle.source_pieces.specs.declared.node.Found.{Found}
use Rattle.source_pieces.specs.declared.piece.PieceAt.{PieceAt}

module _ {X Y : Type 0} (f : X → Y) where
  in_map : (xs : List X) (x : X) → Contains xs x → Contains (map f xs) (f x)
  in_map [] x h = absurd (none_in x h)
  in_map (z ∷ xs) x h = elim (first_or_later z xs x h) [ inl e ↦ (0, omega arith, ap f e) | inr g ↦ later (f z) (map f xs) (f x) (in_map xs x g) ]

  from_map : (xs : List X) (y : Y) → Contains (map f xs) y → (x : X) × Contains xs x × (f x ≡ y)
  from_map [] y h = absurd (none_in y h)
  from_map (z ∷ xs) y h =
      elim (first_or_later (f z) (map f xs) y h) [
        | inl e ↦ (z, (0, omega arith, refl), e)
        | inr g ↦ let w = from_map xs y g in (w.0, later z xs w.0 w.1, w.2)
      ]

from_rules : (rs : List S.Rule) (i k : ℕ) (p : Piece) → Contains (rule_by_rule i rs) (k, p) → (j : ℕ) × (k ≡ i + j) × (r : S.Rule) × (slice_get rs j ≡ Some r) × Contains (in_rule r) p
from_rules [] i k p h = absurd (none_in (k, p) h)
from_rules (x ∷ rs) i k p h =
    elim (Contains-append_cases (placed i (in_rule x)) (rule_by_rule (i + 1) rs) (k, p) h) [
      | inl g ↦
          let w = from_map (λ (q : Piece). (i, q)) (in_rule x) (k, p) g in
          let here : k ≡ i = sym (ap (λ (y : ℕ × Piece). y.0) w.2) in
          (0, omega arith, x, refl, subst (Contains (in_rule x)) (ap (λ (y : ℕ × Piece). y.1) w.2) w.1)
      | inr g ↦
          let w = from_rules rs (i + 1) k p g in
          let there : k ≡ i + 1 + w.0 = w.1 in
          (suc w.0, omega arith, w.2, w.3, w.4)
    ]

in_rules : (rs : List S.Rule) (i j k : ℕ) (r : S.Rule) (p : Piece) → k ≡ i + j → slice_get rs j ≡ Some r → Contains (in_rule r) p → Contains (rule_by_rule i rs) (k, p)
in_rules [] i j k r p e g h = cc
in_rules (x ∷ rs) i zero k r p e g h =
    let is_first : i ≡ k = omega arith in
    let is : x ≡ r = same_some g in
    Contains-append_left (placed i (in_rule x)) (rule_by_rule (i + 1) rs) (k, p)
    (subst (λ (n : ℕ). Contains (placed i (in_rule x)) (n, p)) is_first (in_map (λ (q : Piece). (i, q)) (in_rule x) p (subst (λ (y : S.Rule). Contains (in_rule y) p) (sym is) h)))
in_rules (x ∷ rs) i (suc j) k r p e g h = Contains-append_right (placed i (in_rule x)) (rule_by_rule (i + 1) rs) (k, p) (in_rules rs (i + 1) j k r p (omega arith) g h)

pub pieces_stand : (t : Table) (read : Leaf → Token) (rs : List S.Rule) (fs : List Found) (xs : List PieceAt) → map (view_found read) fs ≡ rule_by_rule 0 rs → AreRead t read fs xs → ArePieces all_as_written t rs xs
pieces_stand t read rs fs xs e are = record { each = each; all = all }
  where
    each : (a : PieceAt) → Contains xs a → Stands all_as_written t rs a
    each a c =
        let r = are.each a c in
        let f = r.0 in
        let w = from_rules rs 0 f.rule (view_found read f).1 (subst (λ (ys : List (ℕ × Piece)). Contains ys (view_found read f)) e (in_map (view_found read) fs f r.1)) in
        let at : f.rule ≡ 0 + w.0 = w.1 in
        let rule : a.rule ≡ f.rule = r.2.rule in
        let same : w.0 ≡ a.rule = omega arith in
        record {
          rule = w.2;
          piece = (view_found read f).1;
          there = subst (λ (n : ℕ). slice_get rs n ≡ Some w.2) same w.3;
          contained = w.4;
          is = r.2.is;
        }

    all : (i : ℕ) (r : S.Rule) (p : Piece) → slice_get rs i ≡ Some r → Contains (in_rule r) p → (a : PieceAt) × Contains xs a × (a.rule ≡ i) × IsPieceAt t p a
    all i r p g h =
        let w = from_map (view_found read) fs (i, p) (subst (λ (ys : List (ℕ × Piece)). Contains ys (i, p)) (sym e) (in_rules rs 0 i i r p (omega arith) g h)) in
        let a = are.all w.0 w.1 in
        (a.0, a.1, a.2.rule ∙ ap (λ (y : ℕ × Piece). y.0) w.2, subst (λ (q : Piece). IsPieceAt t q a.0) (ap (λ (y : ℕ × Piece). y.1) w.2) a.2.is)
