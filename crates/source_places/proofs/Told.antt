-- What the type of a piece is told as, by what it is of.
use Rattle.std.proofs.Common.{◌≡◌, ◌∙◌, ℕ, Option, Some, None, slice_get, refl, sym, ap, subst}
use Rattle.lists.proofs.Lemmas.{one_of, same_some, some_none}
use Rattle.tree_nodes.specs.Syntax.Syntax as S
use Rattle.cddl_language.specs.Language.{TypeName, type, word}
use Rattle.cddl_language.specs.Reading.{term_of, text_of}
use Rattle.cddl_language.specs.Terms.{Term, Text}
use Rattle.check_terms.specs.Table.{AreDistinct, Table}
use Rattle.check_terms.specs.Trees.{IsTerm}
use Rattle.table_making.specs.declared.origin.TypeOrigin.{TypeOrigin}
use Rattle.table_making.specs.declared.origin.TypeOrigin.TheVariants as T
use Rattle.source_pieces.specs.Origins.{IsClosedKey, IsClosedOrigin, MayBeClosed, in_its_place, is_of, may_be_group, no_type, of_type, of_value as of_keyed, of_word as of_token}
use Rattle.source_pieces.specs.Pieces.{Around, Piece, a_key, a_member, a_type, a_value, a_word, an_entry, name_of_piece, told_name}
use Rattle.source_places.specs.States.{or_else, told_origin}
use Rattle.source_pieces.specs.declared.piece.PieceAt.{PieceAt}

module _ (t : Table) where
  -- what has the origin of a type is of it
  pub origin_of : {f : Term → Term} (p : Piece) (o : Option TypeOrigin) (u : TypeOrigin) → MayBeClosed f t p o → o ≡ Some u → IsClosedOrigin f t p u
  origin_of {f = f} p o u (is_of {u = v} h) e = subst (IsClosedOrigin f t p) (same_some e) h
  origin_of p o u no_type e = cc
  origin_of p o u may_be_group e = cc
  origin_of p o u in_its_place e = cc

  no_origin : {f : Term → Term} {p : Piece} {u : TypeOrigin} → IsClosedOrigin f t p u → {r : Around} {q : Piece} → p ≡ a_key r q → ⊥
  no_origin (of_type h) e = cc
  no_origin (of_token h) e = cc
  no_origin (of_keyed h) e = cc

  -- what an entry has as its key is of nothing in its place
  pub place_alone : {f : Term → Term} {p : Piece} {o : Option TypeOrigin} → MayBeClosed f t p o → {r : Around} {q : Piece} → p ≡ a_key r q → o ≡ None
  place_alone (is_of h) e = absurd (no_origin h e)
  place_alone no_type e = refl
  place_alone may_be_group e = refl
  place_alone in_its_place e = refl

  -- the type of a value is of something
  pub value_typed : {f : Term → Term} {p : Piece} {o : Option TypeOrigin} → MayBeClosed f t p o → (r : Around) (q : Piece) (z : S.Types) → p ≡ a_value r q z → (u : TypeOrigin) × (o ≡ Some u)
  value_typed (is_of {u = u} h) r q z e = (u, refl)
  value_typed no_type r q z e = cc
  value_typed may_be_group r q z e = cc
  value_typed in_its_place r q z e = cc

  -- the name that an origin stands for
  pub data IsNameOf : TypeOrigin → TypeName → Type 0 where
    row_name : {n : ℕ} {z : Term} → IsTerm t n z → IsNameOf (T.Row n) (type z)
    word_name : {n : ℕ} {y : Text} → slice_get t.texts n ≡ Some y → IsNameOf (T.Word n) (word y)

  pub piece_name : {f : Term → Term} {p : Piece} {u : TypeOrigin} → IsClosedOrigin f t p u → (y : TypeName) × (name_of_piece f p ≡ Some y) × IsNameOf u y
  piece_name {f = f} (of_type {x = z} h) = (type (f (term_of z)), refl, row_name h)
  piece_name (of_token {w = w} h) = (word (text_of w), refl, word_name h)
  piece_name {f = f} (of_keyed {x = z} h) = (type (f (term_of z)), refl, row_name h)

  -- what may be of something is of what its name says
  pub may_name : {f : Term → Term} {p : Piece} {o : Option TypeOrigin} → MayBeClosed f t p o → (y : TypeName) → name_of_piece f p ≡ Some y → (u : TypeOrigin) × (o ≡ Some u) × IsNameOf u y
  may_name (is_of {u = u} h) y e = let w = piece_name h in (u, refl, subst (IsNameOf u) (same_some (sym w.1 ∙ e)) w.2)
  may_name no_type y e = cc
  may_name may_be_group y e = cc
  may_name in_its_place y e = cc

  pub told_with : {f : Term → Term} (p : Piece) (a : PieceAt) → MayBeClosed f t p a.origin → IsClosedKey f t p a.key → (y : TypeName) → told_name f p ≡ Some y → (u : TypeOrigin) × (told_origin a ≡ Some u) × IsNameOf u y
  told_with (a_key r q) a d g y e =
      let w = may_name g y e in
      (w.0, ap (λ (o : Option TypeOrigin). or_else o a.key) (place_alone d refl) ∙ w.1, w.2)
  told_with (a_type z) a d g y e = let w = may_name d y e in (w.0, ap (λ (o : Option TypeOrigin). or_else o a.key) w.1, w.2)
  told_with (a_word z) a d g y e = let w = may_name d y e in (w.0, ap (λ (o : Option TypeOrigin). or_else o a.key) w.1, w.2)
  told_with (a_value r q z) a d g y e = let w = may_name d y e in (w.0, ap (λ (o : Option TypeOrigin). or_else o a.key) w.1, w.2)
  told_with (a_member r z) a d g y e = cc
  told_with (an_entry r j i z) a d g y e = cc

  -- where nothing is told of it, it is of nothing

  may_none : {f : Term → Term} {p : Piece} {o : Option TypeOrigin} → MayBeClosed f t p o → name_of_piece f p ≡ None → o ≡ None
  may_none (is_of h) e = let w = piece_name h in absurd (some_none (sym w.1 ∙ e))
  may_none no_type e = refl
  may_none may_be_group e = refl
  may_none in_its_place e = refl

  both_none : (a : PieceAt) → a.origin ≡ None → a.key ≡ None → told_origin a ≡ None
  both_none a e f = ap (λ (o : Option TypeOrigin). or_else o a.key) e ∙ f

  told_none : {f : Term → Term} (p : Piece) (a : PieceAt) → MayBeClosed f t p a.origin → IsClosedKey f t p a.key → told_name f p ≡ None → told_origin a ≡ None
  told_none (a_key r q) a d g e = both_none a (place_alone d refl) (may_none g e)
  told_none (a_type z) a d g e = cc
  told_none (a_word z) a d g e = cc
  told_none (a_value r q z) a d g e = cc
  told_none (a_member r z) a d g e = both_none a (may_none d refl) g
  told_none (an_entry r j i z) a d g e = both_none a (may_none d refl) g

  pub told_by : {f : Term → Term} (p : Piece) (a : PieceAt) → MayBeClosed f t p a.origin → IsClosedKey f t p a.key → (u : TypeOrigin) → told_origin a ≡ Some u → (y : TypeName) × (told_name f p ≡ Some y) × IsNameOf u y
  told_by {f = f} p a d g u e = by (told_name f p) refl
    where
      by : (o : Option TypeName) → told_name f p ≡ o → (y : TypeName) × (told_name f p ≡ Some y) × IsNameOf u y
      by None h = absurd (some_none (sym e ∙ told_none p a d g h))
      by (Some y) h =
          let w = told_with p a d g y h in
          (y, h, subst (λ (v : TypeOrigin). IsNameOf v y) (same_some (sym w.1 ∙ e)) w.2)

-- an origin stands for one name, and a name is that of one origin
module _ (t : Table) (distinct : AreDistinct t.texts) (one_term : (n : ℕ) (a b : Term) → IsTerm t n a → IsTerm t n b → a ≡ b) (one_row : (n m : ℕ) (a : Term) → IsTerm t n a → IsTerm t m a → n ≡ m) where
  pub one_name : {u : TypeOrigin} {y z : TypeName} → IsNameOf t u y → IsNameOf t u z → y ≡ z
  one_name (row_name {n = n} {z = a} g) (row_name {z = b} h) = ap type (one_term n a b g h)
  one_name (word_name {n = n} {y = a} g) (word_name {y = b} h) = ap word (one_of (slice_get t.texts n) a b g h)

  pub one_origin : {u v : TypeOrigin} {y : TypeName} → IsNameOf t u y → IsNameOf t v y → u ≡ v
  one_origin (row_name {n = n} {z = a} g) (row_name {n = m} h) = ap T.Row (one_row n m a g h)
  one_origin (word_name {n = n} {y = a} g) (word_name {n = m} h) = ap T.Word (distinct n m a g h)
