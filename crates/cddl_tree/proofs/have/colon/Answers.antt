use Rattle.std.proofs.Common.{◌∙◌, ap}
use Rattle.tree_nodes.specs.Syntax.Syntax as S
use Rattle.tree_nodes.specs.Syntax.Machine as M
use Rattle.cddl_tree.specs.Frames.{as_entry, Gives}
use Rattle.tree_nodes.specs.View.{leaf, view_key}
use Rattle.cddl_tree.proofs.Steps.{refused_on}
use Rattle.cddl_tree.proofs.Closing.{colon_taken, colon_several}
use Rattle.cddl_tree.proofs.have.colon.Goals as goal

pub returns-in-Some : goal.returns-in-Some
returns-in-Some c read rs b = colon_taken (as_entry b) (λ (m : M.State). Gives read c.args.token rs b c.value_at.result m) (leaf read c.args.occur) _ _ (view_key read c.in-Some.key) (read c.args.token.leaf) (c.in-Ok.ensures.sole read) (λ p. (c.in-Some.ensures read) p (leaf read c.args.occur)) (c.value_at.ensures read c.args.token rs b)

pub returns-in-None : goal.returns-in-None
returns-in-None c read rs b = refused_on (as_entry b) c.args.token.start _ _ c.unexpected.ensures (λ p. ap (λ (ts : S.Types). M.colon p (leaf read c.args.occur) ts (read c.args.token.leaf)) (c.in-Ok.ensures.sole read) ∙ c.in-None.ensures read p (leaf read c.args.occur))

pub returns-in-Err : goal.returns-in-Err
returns-in-Err c read rs b = refused_on (as_entry b) c.args.token.start _ _ c.unexpected-in-Err.ensures (λ p. colon_several p _ _ (read c.args.token.leaf) (c.in-Err.ensures.several read))
