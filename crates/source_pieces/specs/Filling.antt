-- Pieces with the arguments of an instance in the place of parameters.
use Rattle.std.specs.Prelude.{◌≡◌, ◌<◌, ℕ, List, Some, Contains, length, slice_get}
use Rattle.tree_nodes.specs.Syntax.Syntax as S
use Rattle.cddl_language.specs.Reading.{parameters_in}
use Rattle.cddl_language.specs.Terms.{Ref, arguments_of, name_of}
use Rattle.check_terms.specs.Definitions.{AreTexts}
use Rattle.check_terms.specs.Filled.{term_trees}
use Rattle.check_terms.specs.Fill.Slots.{ArePlacesOf}
use Rattle.check_terms.specs.Fill.Templates.{AreTrees}
use Rattle.check_terms.specs.Table.{Table}
use Rattle.check_terms.specs.declared.fill.slots.Slots.{Slots}
use Rattle.source_pieces.specs.Instances.{term_in}
use Rattle.source_pieces.specs.Origins.{IsClosedPiece, IsPieceAt}
use Rattle.source_pieces.specs.Pieces.{Piece}
use Rattle.source_pieces.specs.Rules.{AreRules}
use Rattle.source_pieces.specs.declared.filling.Filling.{Filling}
use Rattle.source_pieces.specs.declared.piece.PieceAt.{PieceAt}

-- the slots are those of the rule's parameters
pub record AreSlotsOf (t : Table) (r : S.Rule) (slots : Slots) : Type 0 where
  pub numbers : List ℕ
  pub places : ArePlacesOf slots numbers
  pub texts : AreTexts t.texts numbers (parameters_in r)

-- By the numbers of the table t: the rules, the slots of their parameters, and the name and the arguments of the instance q.
pub record IsFilling (t : Table) (rs : List S.Rule) (x : Filling) (q : Ref) : Type 0 where
  pub rules : AreRules t rs x.rules.now
  pub slots : (i : ℕ) (r : S.Rule) (y : Slots) → slice_get rs i ≡ Some r → slice_get x.slots.now i ≡ Some y → AreSlotsOf t r y
  pub name : slice_get t.texts x.name ≡ Some (name_of q)
  pub arguments : AreTrees t x.arguments.now (term_trees (arguments_of q))
  pub some : 0 < length x.arguments.now

-- It is the same piece in the instance q.
pub record IsFilled (rs : List S.Rule) (q : Ref) (old new : Table) (a b : PieceAt) : Type 0 where
  pub rule : b.rule ≡ a.rule
  pub is : (r : S.Rule) (p : Piece) → slice_get rs a.rule ≡ Some r → IsPieceAt old p a → IsClosedPiece (term_in q r) new p b

-- Each is one of these in the instance, and each of these is there.
pub record ArePiecesFilled (rs : List S.Rule) (q : Ref) (old new : Table) (xs ys : List PieceAt) : Type 0 where
  pub each : (b : PieceAt) → Contains ys b → (a : PieceAt) × Contains xs a × IsFilled rs q old new a b
  pub all : (a : PieceAt) → Contains xs a → (b : PieceAt) × Contains ys b × IsFilled rs q old new a b
