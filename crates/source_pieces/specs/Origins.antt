-- The origins of types that stand in the text, by the numbers of a table of terms.
use Rattle.std.specs.Prelude.{◌≡◌, ℕ, List, Contains, Option, Some, None, option_map, slice_get}
use Rattle.cddl_token.specs.declared.Token.{Token}
use Rattle.tree_nodes.specs.Syntax.Syntax as S
use Rattle.tree_nodes.specs.declared.tree.Leaf.{Leaf}
use Rattle.cddl_language.specs.Reading.{term_of, text_of}
use Rattle.cddl_language.specs.Terms.{Term}
use Rattle.check_terms.specs.Table.{Table}
use Rattle.check_terms.specs.Trees.{IsTerm}
use Rattle.table_making.specs.declared.origin.TypeOrigin.{TypeOrigin}
use Rattle.table_making.specs.declared.origin.TypeOrigin.TheVariants as T
use Rattle.source_pieces.specs.Instances.{as_written}
use Rattle.source_pieces.specs.Pieces.{Around, Called, Inner, Piece, a_key, a_member, a_type, a_value, a_word, an_entry, brackets, in_rule, name_there, the_rule, tokens_of_piece}
use Rattle.source_pieces.specs.Spans.{IsSpan}
use Rattle.source_pieces.specs.Walk.{called, view_found}
use Rattle.source_pieces.specs.declared.node.Found.{Found}
use Rattle.source_pieces.specs.declared.piece.EntryAt.{EntryAt}
use Rattle.source_pieces.specs.declared.piece.NameAt.{NameAt}
use Rattle.source_pieces.specs.declared.piece.PieceAt.{PieceAt}
use Rattle.source_pieces.specs.declared.span.Span.{Span}

-- Of what a piece is, by what a term of its rule is in an instance.

pub data IsClosedOrigin (closed : Term → Term) (t : Table) : Piece → TypeOrigin → Type 0 where
  of_type : {x : S.Types} {n : ℕ} → IsTerm t n (closed (term_of x)) → IsClosedOrigin closed t (a_type x) (T.Row n)
  of_word : {w : Token} {k : ℕ} → slice_get t.texts k ≡ Some (text_of w) → IsClosedOrigin closed t (a_word w) (T.Word k)
  of_value : {a : Around} {k : Piece} {x : S.Types} {n : ℕ} → IsTerm t n (closed (term_of x)) → IsClosedOrigin closed t (a_value a k x) (T.Row n)

-- what the piece is of, which an entry is not, nor a member, nor what an entry has as its key
pub data MayBeClosed (closed : Term → Term) (t : Table) : Piece → Option TypeOrigin → Type 0 where
  is_of : {p : Piece} {u : TypeOrigin} → IsClosedOrigin closed t p u → MayBeClosed closed t p (Some u)
  no_type : {a : Around} {k i : ℕ} {e : Inner} → MayBeClosed closed t (an_entry a k i e) None
  may_be_group : {a : Around} {x : S.Types} → MayBeClosed closed t (a_member a x) None
  in_its_place : {a : Around} {k : Piece} → MayBeClosed closed t (a_key a k) None

-- what the key is of, where the piece is that of an entry or a value's type
abbrev pub IsClosedKey : (closed : Term → Term) → Table → Piece → Option TypeOrigin → Type 0
IsClosedKey closed t (a_key a k) o = MayBeClosed closed t k o
IsClosedKey closed t (a_value a k x) o = MayBeClosed closed t k o
IsClosedKey closed t (a_type x) o = o ≡ None
IsClosedKey closed t (a_word w) o = o ≡ None
IsClosedKey closed t (a_member a x) o = o ≡ None
IsClosedKey closed t (an_entry a k i e) o = o ≡ None

-- where the brackets are round a group
abbrev pub AreRound : Around → Option Span → Type 0
AreRound (brackets o c) m = (b : Span) × (m ≡ Some b) × (b.first ≡ o.start) × (b.end ≡ c.end)
AreRound the_rule m = m ≡ None

-- the same of the group of an entry or of a member, and of the map's group in which a key or a value is
abbrev pub AreRoundIt : Piece → Option Span → Type 0
AreRoundIt (an_entry a k i e) m = AreRound a m
AreRoundIt (a_key a k) m = AreRound a m
AreRoundIt (a_value a k x) m = AreRound a m
AreRoundIt (a_member a x) m = AreRound a m
AreRoundIt (a_type x) m = m ≡ None
AreRoundIt (a_word w) m = m ≡ None

-- where the entry stands in its group
pub record IsEntryIn (k i : ℕ) (at : EntryAt) : Type 0 where
  pub alternative : at.alternative ≡ k
  pub place : at.place ≡ i

-- the same, where the piece is an entry
abbrev pub MayBeIn : Piece → Option EntryAt → Type 0
MayBeIn (an_entry a k i e) m = (at : EntryAt) × (m ≡ Some at) × IsEntryIn k i at
MayBeIn (a_type x) m = m ≡ None
MayBeIn (a_word w) m = m ≡ None
MayBeIn (a_key a k) m = m ≡ None
MayBeIn (a_value a k x) m = m ≡ None
MayBeIn (a_member a x) m = m ≡ None

-- a name by its number
abbrev pub called_in : Table → NameAt → Option Called
called_in t n = option_map (called n.is_unwrapped) (slice_get t.texts n.number)

-- it is that name, if there is one
abbrev pub IsNumberOf : Table → Option Called → Option NameAt → Type 0
IsNumberOf t None o = o ≡ None
IsNumberOf t (Some y) o = (n : NameAt) × (o ≡ Some n) × (called_in t n ≡ Some y)

-- It is that piece.
pub record IsClosedPiece (closed : Term → Term) (t : Table) (p : Piece) (a : PieceAt) : Type 0 where
  pub origin : MayBeClosed closed t p a.origin
  pub key : IsClosedKey closed t p a.key
  pub around : AreRoundIt p a.around
  pub entry : MayBeIn p a.entry
  pub name : IsNumberOf t (name_there p) a.name
  pub own : a.asked ≡ None
  pub span : IsSpan (tokens_of_piece p) a.span

-- The same of pieces as they are written.

abbrev pub MayBeOf : Table → Piece → Option TypeOrigin → Type 0
MayBeOf t p o = MayBeClosed as_written t p o

abbrev pub IsKeyOf : Table → Piece → Option TypeOrigin → Type 0
IsKeyOf t p o = IsClosedKey as_written t p o

abbrev pub IsPieceAt : Table → Piece → PieceAt → Type 0
IsPieceAt t p a = IsClosedPiece as_written t p a

-- read of the node f
pub record IsRead (t : Table) (read : Leaf → Token) (f : Found) (a : PieceAt) : Type 0 where
  pub rule : a.rule ≡ f.rule
  pub is : IsPieceAt t (view_found read f).1 a

-- Each is read of one of the nodes, and of each node one is.
pub record AreRead (t : Table) (read : Leaf → Token) (fs : List Found) (xs : List PieceAt) : Type 0 where
  pub each : (a : PieceAt) → Contains xs a → (f : Found) × Contains fs f × IsRead t read f a
  pub all : (f : Found) → Contains fs f → (a : PieceAt) × Contains xs a × IsRead t read f a

-- It stands in the rule at its place.
pub record Stands (closed : S.Rule → Term → Term) (t : Table) (rs : List S.Rule) (a : PieceAt) : Type 0 where
  pub rule : S.Rule
  pub piece : Piece
  pub there : slice_get rs a.rule ≡ Some rule
  pub contained : Contains (in_rule rule) piece
  pub is : IsClosedPiece (closed rule) t piece a

-- Each stands in a rule, and what stands in a rule is among them.
pub record ArePieces (closed : S.Rule → Term → Term) (t : Table) (rs : List S.Rule) (xs : List PieceAt) : Type 0 where
  pub each : (a : PieceAt) → Contains xs a → Stands closed t rs a
  pub all : (i : ℕ) (r : S.Rule) (p : Piece) → slice_get rs i ≡ Some r → Contains (in_rule r) p → (a : PieceAt) × Contains xs a × (a.rule ≡ i) × IsClosedPiece (closed r) t p a
