use Rattle.std.proofs.Common.{◌∙◌, ap, sym}
use Rattle.cddl_token.specs.declared.Kind.{Kind}
use Rattle.tree_nodes.specs.Syntax.Syntax as S
use Rattle.tree_nodes.specs.Syntax.Machine as M
use Rattle.tree_nodes.specs.declared.tree.Value.TheVariants as V
use Rattle.tree_nodes.specs.declared.tree.Ref.TheVariants as R
use Rattle.tree_nodes.proofs.Lemmas.{view-Literal, view-Typename, view-Name, view-Hash}
use Rattle.cddl_tree.proofs.Bodies.{no_operand}
use Rattle.cddl_tree.proofs.want.operand_of.Goals as goal

pub returns-in-Number : goal.returns-in-Number
returns-in-Number c read k = ap (λ (i : Kind). M.step_want k i (read c.args.token.leaf)) c.in-Number.is ∙ ap (M.got k) (sym (view-Literal read (V.Number c.args.token.leaf)))

pub returns-in-Text : goal.returns-in-Text
returns-in-Text c read k = ap (λ (i : Kind). M.step_want k i (read c.args.token.leaf)) c.in-Text.is ∙ ap (M.got k) (sym (view-Literal read (V.Text c.args.token.leaf)))

pub returns-in-Bytes : goal.returns-in-Bytes
returns-in-Bytes c read k = ap (λ (i : Kind). M.step_want k i (read c.args.token.leaf)) c.in-Bytes.is ∙ ap (M.got k) (sym (view-Literal read (V.Bytes c.args.token.leaf)))

pub returns-in-Name : goal.returns-in-Name
returns-in-Name c read k = ap (λ (i : Kind). M.step_want k i (read c.args.token.leaf)) c.in-Name.is ∙ ap (M.got k) (sym (view-Typename read (R.Name c.args.token.leaf) ∙ ap S.typename (view-Name read c.args.token.leaf)))

pub returns-in-Hash : goal.returns-in-Hash
returns-in-Hash c read k = ap (λ (i : Kind). M.step_want k i (read c.args.token.leaf)) c.in-Hash.is ∙ ap (M.got k) (sym (view-Hash read c.args.token.leaf))

pub returns-in_default : goal.returns-in_default
returns-in_default c = no_operand c.args.token.kind c.in_default.not-Number c.in_default.not-Text c.in_default.not-Bytes c.in_default.not-Name c.in_default.not-Hash
