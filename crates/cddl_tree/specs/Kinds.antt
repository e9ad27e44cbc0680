-- Kinds of tokens, by what they are where a type2 is awaited, and after a type1.
use Rattle.std.specs.Prelude.{◌≡◌}
use Rattle.cddl_token.specs.declared.Token.{Token}
use Rattle.cddl_token.specs.declared.Kind.{Kind}
use Rattle.cddl_token.specs.declared.Kind.TheVariants as K
use Rattle.tree_nodes.specs.declared.tree.Leaf.{Leaf}
use Rattle.tree_nodes.specs.declared.tree.Type2.{Type2}
use Rattle.tree_nodes.specs.declared.tree.Operator.{Operator}
use Rattle.cddl_tree.specs.declared.frames.Current.{Current}
use Rattle.tree_nodes.specs.View.{view_type2, view_operator}
use Rattle.tree_nodes.specs.Syntax.Machine as M
use Rattle.tree_nodes.specs.Syntax.Syntax as S

-- no operand of one token
abbrev pub IsNoOperand : Kind → Type 0
IsNoOperand K.Number = ⊥
IsNoOperand K.Text = ⊥
IsNoOperand K.Bytes = ⊥
IsNoOperand K.Name = ⊥
IsNoOperand K.Hash = ⊥
IsNoOperand _ = Unit {0}

-- nor a reference, an occurrence or parentheses
abbrev pub IsNoHead : Kind → Type 0
IsNoHead K.Number = ⊥
IsNoHead K.Text = ⊥
IsNoHead K.Bytes = ⊥
IsNoHead K.Name = ⊥
IsNoHead K.Hash = ⊥
IsNoHead K.NameOpen = ⊥
IsNoHead K.Tilde = ⊥
IsNoHead K.Ampersand = ⊥
IsNoHead K.ParenOpen = ⊥
IsNoHead K.Occur = ⊥
IsNoHead _ = Unit {0}

-- the operand of one token that the machine gets
abbrev pub IsOperandOf : (Leaf → Token) → Type2 → Current → Type 0
IsOperandOf read x t = (k : M.AtType2) → M.step_want k t.kind (read t.leaf) ≡ M.got k (view_type2 read x)

abbrev pub IsNoOperator : Kind → Type 0
IsNoOperator K.Range = ⊥
IsNoOperator K.RangeBelow = ⊥
IsNoOperator K.Control = ⊥
IsNoOperator _ = Unit {0}

-- the operator that the machine takes
abbrev pub IsOperatorOf : (Leaf → Token) → Operator → Current → Type 0
IsOperatorOf read o t = (k : M.AtType1) → (r : S.Type1) → M.step_have k r t.kind (read t.leaf) ≡ M.operated k r (view_operator read o)
