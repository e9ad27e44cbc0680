-- What a piece is stays when the table of terms grows, and by other words for what the terms of its rule are in an instance.
use Rattle.std.proofs.Common.{◌≡◌, ◌∙◌, ℕ, Option, Some, None, ap, option_map, slice_get, refl, subst}
use Rattle.cddl_language.specs.Reading.{term_of, text_of}
use Rattle.cddl_language.specs.Terms.{Term, Text}
use Rattle.check_terms.specs.Table.{Grows, Holds, Table}
use Rattle.check_terms.specs.Trees.{IsTerm, term_tree}
use Rattle.table_making.specs.declared.origin.TypeOrigin.{TypeOrigin}
use Rattle.source_pieces.specs.Origins.{IsClosedKey, IsClosedOrigin, IsClosedPiece, IsNumberOf, MayBeClosed, called_in, in_its_place, is_of, may_be_group, no_type, of_type, of_value, of_word}
use Rattle.source_pieces.specs.Pieces.{Called, Piece, a_key, a_member, a_type, a_value, a_word, an_entry, name_there}
use Rattle.source_pieces.specs.Walk.{called}
use Rattle.source_pieces.specs.declared.piece.NameAt.{NameAt}
use Rattle.source_pieces.specs.declared.piece.PieceAt.{PieceAt}
use Rattle.source_pieces.proofs.Growing.{kept}

called_kept : (old new : Table) (n : NameAt) (y : Called) → Grows old new → called_in old n ≡ Some y → called_in new n ≡ Some y
called_kept old new n y g e = by (slice_get old.texts n.number) refl e
  where
    by : (o : Option Text) → slice_get old.texts n.number ≡ o → option_map (called n.is_unwrapped) o ≡ Some y → called_in new n ≡ Some y
    by None f h = cc
    by (Some z) f h = ap (option_map (called n.is_unwrapped)) (g.texts n.number z f) ∙ h

pub name_kept : (old new : Table) (y : Option Called) (o : Option NameAt) → Grows old new → IsNumberOf old y o → IsNumberOf new y o
name_kept old new None o g h = h
name_kept old new (Some y) o g h = (h.0, h.1, called_kept old new h.0 y g h.2)

module _ (f g : Term → Term) (e : (t : Term) → term_tree (f t) ≡ term_tree (g t)) (old new : Table) (more : Grows old new) where
  term_as : (n : ℕ) (t : Term) → IsTerm old n (f t) → IsTerm new n (g t)
  term_as n t h = subst (Holds new (Some n)) (e t) (kept more h)

  origin_as : (p : Piece) (o : TypeOrigin) → IsClosedOrigin f old p o → IsClosedOrigin g new p o
  origin_as p o (of_type {x = x} {n = n} h) = of_type (term_as n (term_of x) h)
  origin_as p o (of_word {w = w} {k = k} h) = of_word (more.texts k (text_of w) h)
  origin_as p o (of_value {x = x} {n = n} h) = of_value (term_as n (term_of x) h)

  pub may_as : (p : Piece) (o : Option TypeOrigin) → MayBeClosed f old p o → MayBeClosed g new p o
  may_as p o (is_of {u = u} h) = is_of (origin_as p u h)
  may_as p o no_type = no_type
  may_as p o may_be_group = may_be_group
  may_as p o in_its_place = in_its_place

  pub key_as : (p : Piece) (o : Option TypeOrigin) → IsClosedKey f old p o → IsClosedKey g new p o
  key_as (a_key a k) o h = may_as k o h
  key_as (a_value a k x) o h = may_as k o h
  key_as (a_type x) o h = h
  key_as (a_word w) o h = h
  key_as (a_member a x) o h = h
  key_as (an_entry a k i e) o h = h

  pub piece_as : (p : Piece) (a : PieceAt) → IsClosedPiece f old p a → IsClosedPiece g new p a
  piece_as p a h = record { origin = may_as p a.origin h.origin; key = key_as p a.key h.key; around = h.around; entry = h.entry; name = name_kept old new (name_there p) a.name more h.name; own = h.own; span = h.span }
