-- What one step of the walk over a tree adds to the list of pieces.
use Rattle.std.specs.Prelude.{◌≡◌, ℕ, Bool, true, false, List, [], ◌∷◌, ◌++◌, length, map}
use Rattle.std.specs.List.{flat_map}
use Rattle.cddl_token.specs.declared.Token.{Token}
use Rattle.tree_nodes.specs.Syntax.Syntax as S
use Rattle.cddl_language.specs.Terms.{Text}
use Rattle.tree_nodes.specs.declared.tree.Leaf.{Leaf}
use Rattle.tree_nodes.specs.declared.tree.Entry.{Entry}
use Rattle.tree_nodes.specs.declared.tree.Further.{Further}
use Rattle.tree_nodes.specs.declared.tree.GrpChoice.{GrpChoice}
use Rattle.tree_nodes.specs.declared.tree.GrpEnt.TheViews.{out-GrpChoice}
use Rattle.tree_nodes.specs.View.{view_group, view_grpent, view_key, view_type1, view_type2, view_types, view_value}
use Rattle.source_pieces.specs.declared.node.AroundNode.{AroundNode}
use Rattle.source_pieces.specs.declared.node.AroundNode.TheVariants as AroundV
use Rattle.source_pieces.specs.declared.node.InnerNode.{InnerNode}
use Rattle.source_pieces.specs.declared.node.InnerNode.TheVariants as InnerV
use Rattle.source_pieces.specs.declared.node.Found.{Found}
use Rattle.source_pieces.specs.declared.node.Node.{Node}
use Rattle.source_pieces.specs.declared.node.Node.TheVariants as NodeV
use Rattle.source_pieces.specs.declared.names.LoneName.{LoneName}
use Rattle.source_pieces.specs.Pieces.{Around, Called, Inner, Piece, a_key, a_member, a_type, a_value, a_word, an_entry, brackets, in_entry, in_type1, inner_of, key_piece, of_group, of_types, operand, placed, plain, the_rule, unwrapped}

abbrev pub view_around : (Leaf → Token) → AroundNode → Around
view_around read (AroundV.Brackets o c) = brackets (read o) (read c)
view_around read AroundV.Rule = the_rule

abbrev pub view_inner : (Leaf → Token) → InnerNode → Inner
view_inner read (InnerV.Types t) = of_types (view_types read t.now)
view_inner read (InnerV.Group o g c) = of_group (read o) (view_group read g.now) (read c)

abbrev pub view_node : (Leaf → Token) → Node → Piece
view_node read (NodeV.Choice t) = a_type (view_types read t.now)
view_node read (NodeV.Operation t) = a_type (S.only (view_type1 read t.now))
view_node read (NodeV.Operand t) = operand (view_type2 read t.now)
view_node read (NodeV.Literal v) = operand (S.literal (view_value read v))
view_node read (NodeV.Word l) = a_word (read l)
view_node read (NodeV.Key a k) = a_key (view_around read a) (key_piece (view_key read k.now))
view_node read (NodeV.Value a k t) = a_value (view_around read a) (key_piece (view_key read k.now)) (view_types read t.now)
view_node read (NodeV.Member a t) = a_member (view_around read a) (view_types read t.now)
view_node read (NodeV.Entry e) = an_entry (view_around read e.around) e.alternative e.place (view_inner read e.inner)

-- a name by itself, or after `~`

abbrev pub called : Bool → Text → Called
called false y = plain y
called true y = unwrapped y

abbrev pub name_of : LoneName → Called
name_of n = called n.is_unwrapped n.text.now

-- with the place of its rule
abbrev pub view_found : (Leaf → Token) → Found → ℕ × Piece
view_found read f = (f.rule, view_node read f.node)

-- the list has grown by these, whatever token a leaf is read as
pub record Adds (old new : List Found) (rule : ℕ) (added : (Leaf → Token) → List Piece) : Type 0 where
  pub each : (read : Leaf → Token) → map (view_found read) new ≡ map (view_found read) old ++ placed rule (added read)

-- those of a further type of a list, and of an entry of a group and of a further choice with this round it

abbrev pub further_pieces : (Leaf → Token) → Further → List Piece
further_pieces read x = in_type1 (view_type1 read x.type1)

abbrev pub entry_pieces : AroundNode → (Leaf → Token) → Entry → List Piece
entry_pieces a read e = in_entry (view_around read a) (view_grpent read e.grpent)

abbrev pub choice_pieces : AroundNode → (Leaf → Token) → GrpChoice → List Piece
choice_pieces a read c = flat_map (entry_pieces a read) (out-GrpChoice c).entries.items

-- The entries of a list that are left, and of further choices that are left, with what comes after each in its list.

abbrev pub listed_entries : (Leaf → Token) → Around → (alternative : ℕ) → List Entry → List Piece
listed_entries read a k [] = []
listed_entries read a k (e ∷ es) = an_entry a k (length es) (inner_of (view_grpent read e.grpent)) ∷ listed_entries read a k es

abbrev pub listed_choices : (Leaf → Token) → Around → List GrpChoice → List Piece
listed_choices read a [] = []
listed_choices read a (c ∷ cs) = listed_entries read a (length cs) (out-GrpChoice c).entries.items ++ listed_choices read a cs
