use Rattle.tree_nodes.specs.Syntax.Machine as M
use Rattle.std.proofs.Common.{◌∙◌, ap, refl}
use Rattle.cddl_tree.specs.declared.frames.AtType1.{AtType1}
use Rattle.cddl_tree.specs.Frames.{made, view_home, view_at_type1}
use Rattle.cddl_tree.proofs.Steps.{made_made}
use Rattle.cddl_tree.proofs.positions.type_at.Goals as goal

pub returns-in-Ok : goal.returns-in-Ok
returns-in-Ok c read b = ap (λ (x : AtType1). made M.lower (view_at_type1 read b x)) c.in-Ok.ensures.ok ∙ made_made M.head M.lower (view_home read b c.args.home)

pub returns-in-Err : goal.returns-in-Err
returns-in-Err c = refl
