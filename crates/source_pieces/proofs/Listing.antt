-- The entries of a group in brackets, one by one.
use Rattle.std.proofs.Common.{◌≡◌, ℕ, suc, ◌+◌, List, [], ◌∷◌, ◌++◌, arith, length, map, Option, refl, sym, ap, subst, ◌∙◌, append_assoc}
use Rattle.std.proofs.lemmas.List.{append-nil}
use Rattle.cddl_token.specs.declared.Token.{Token}
use Rattle.tree_nodes.specs.Syntax.Syntax as S
use Rattle.tree_nodes.specs.declared.tree.Leaf.{Leaf}
use Rattle.tree_nodes.specs.declared.tree.Entry.{Entry}
use Rattle.tree_nodes.specs.declared.tree.Group.{Group}
use Rattle.tree_nodes.specs.declared.tree.GrpChoice.{GrpChoice}
use Rattle.tree_nodes.specs.declared.tree.GrpEnt.TheViews.{out-Group, out-GrpChoice}
use Rattle.tree_nodes.specs.View.{view_grpent, view_entry, view_choice, view_group, with_entries, with_choices}
use Rattle.tree_nodes.proofs.Lemmas.{view-Entry, view_out-GrpChoice, view_out-Group}
use Rattle.source_pieces.specs.declared.node.Found.{Found}
use Rattle.source_pieces.specs.Pieces.{Around, Inner, Piece, an_entry, count_of, entries_in, entries_of, inner_of}
use Rattle.source_pieces.specs.Walk.{Adds, listed_choices, listed_entries, view_around}
use Rattle.source_pieces.specs.declared.node.AroundNode.{AroundNode}
use Rattle.source_pieces.proofs.Adding.{adds_as, adds_both}

module _ (read : Leaf → Token) (b : Around) where
  entry_is : (x : Entry) → inner_of (view_entry read x).0 ≡ inner_of (view_grpent read x.grpent)
  entry_is x = ap (λ (y : S.GrpEnt × Option Token). inner_of y.0) (view-Entry read x.grpent x.comma)

  entries_with : (k : ℕ) (es : S.GrpChoice) (xs : List Entry) → entries_of b k 0 (with_entries es (map (view_entry read) xs)) ≡ entries_of b k (length xs) es ++ listed_entries read b k xs
  entries_with k es [] = sym (append-nil (entries_of b k 0 es))
  entries_with k es (x ∷ xs) =
      let before = entries_of b k (suc (length xs)) es in
      entries_with k (S.entries es (view_entry read x).0 (view_entry read x).1) xs
      ∙ append_assoc before (an_entry b k (length xs) (inner_of (view_entry read x).0) ∷ []) (listed_entries read b k xs)
      ∙ ap (λ (e : Inner). before ++ an_entry b k (length xs) e ∷ listed_entries read b k xs) (entry_is x)

  choice_is : (k : ℕ) (x : GrpChoice) → entries_of b k 0 (view_choice read x).1 ≡ listed_entries read b k (out-GrpChoice x).entries.items
  choice_is k x = ap (λ (y : Token × S.GrpChoice). entries_of b k 0 y.1) (view_out-GrpChoice read x) ∙ entries_with k S.no_entries (out-GrpChoice x).entries.items

  choices_with : (g : S.Group) (xs : List GrpChoice) → entries_in b 0 (with_choices g (map (view_choice read) xs)) ≡ entries_in b (length xs) g ++ listed_choices read b xs
  choices_with g [] = sym (append-nil (entries_in b 0 g))
  choices_with g (x ∷ xs) =
      let before = entries_in b (suc (length xs)) g in
      choices_with (S.orelse g (view_choice read x).0 (view_choice read x).1) xs
      ∙ append_assoc before (entries_of b (length xs) 0 (view_choice read x).1) (listed_choices read b xs)
      ∙ ap (λ (ps : List Piece). before ++ (ps ++ listed_choices read b xs)) (choice_is (length xs) x)

  pub own_entries : (g : Group) → entries_in b 0 (view_group read g) ≡ listed_entries read b (length (out-Group g).others.items) (out-Group g).first.items ++ listed_choices read b (out-Group g).others.items
  own_entries g =
      let first = (out-Group g).first.items in
      let others = (out-Group g).others.items in
      ap (entries_in b 0) (view_out-Group read g)
      ∙ choices_with (S.sole (with_entries S.no_entries (map (view_entry read) first))) others
      ∙ ap (λ (ps : List Piece). ps ++ listed_choices read b others) (entries_with (length others) S.no_entries first)

-- how many alternatives a group has
module _ (read : Leaf → Token) where
  counted_with : (g : S.Group) (xs : List GrpChoice) → count_of (with_choices g (map (view_choice read) xs)) ≡ count_of g + length xs
  counted_with g [] = omega arith
  counted_with g (x ∷ xs) = let h = counted_with (S.orelse g (view_choice read x).0 (view_choice read x).1) xs in omega (arith, h)

  pub group_count : (g : Group) → length (out-Group g).others.items + 1 ≡ count_of (view_group read g)
  group_count g =
      let first = (out-Group g).first.items in
      let h = ap count_of (view_out-Group read g) ∙ counted_with (S.sole (with_entries S.no_entries (map (view_entry read) first))) (out-Group g).others.items in
      omega (arith, h)

-- If what is left is added, all is.
pub record Follows (old now : List Found) (k : ℕ) (left all : (Leaf → Token) → List Piece) : Type 0 where
  pub follows : (new : List Found) → Adds now new k left → Adds old new k all

pub none_left : {A : Type 0} (xs : List A) → length xs ≡ 0 → xs ≡ []
none_left [] e = refl
none_left (x ∷ xs) e = absurd (omega (arith, e))

pub listed_as : {a b : List Found} {r : ℕ} (around : AroundNode) (k : ℕ) (xs ys : List Entry) → xs ≡ ys → Adds a b r (λ read. listed_entries read (view_around read around) k xs) → Adds a b r (λ read. listed_entries read (view_around read around) k ys)
listed_as {a} {b} {r} around k xs ys e h = subst (λ (zs : List Entry). Adds a b r (λ read. listed_entries read (view_around read around) k zs)) e h

pub whole_group : {a b c : List Found} {r : ℕ} (around : AroundNode) (g : Group) (first : List Entry) (others : List GrpChoice) → first ≡ (out-Group g).first.items → others ≡ (out-Group g).others.items → Adds a b r (λ read. listed_entries read (view_around read around) (length others) first) → Adds b c r (λ read. listed_choices read (view_around read around) others) → Adds a c r (λ read. entries_in (view_around read around) 0 (view_group read g))
whole_group around g first others e f x y =
    adds_as _
    (λ read.
    own_entries read (view_around read around) g
    ∙ ap (λ (xs : List Entry). listed_entries read (view_around read around) (length (out-Group g).others.items) xs ++ listed_choices read (view_around read around) (out-Group g).others.items) (sym e)
    ∙ ap (λ (ys : List GrpChoice). listed_entries read (view_around read around) (length ys) first ++ listed_choices read (view_around read around) ys) (sym f))
    (adds_both x y)
