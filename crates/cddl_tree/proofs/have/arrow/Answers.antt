use Rattle.tree_nodes.specs.Syntax.Machine as M
use Rattle.cddl_tree.specs.Frames.{as_entry, Gives}
use Rattle.cddl_tree.proofs.Steps.{refused_on}
use Rattle.cddl_tree.proofs.Closing.{arrow_taken, arrow_several}
use Rattle.tree_nodes.proofs.Lemmas.{view-TypeKey}
use Rattle.cddl_tree.proofs.have.arrow.Goals as goal

pub returns-in-Ok : goal.returns-in-Ok
returns-in-Ok c read rs b = arrow_taken (as_entry b) (λ (m : M.State). Gives read c.args.token rs b c.value_at.result m) _ _ _ _ (read c.args.token.leaf) (c.in-Ok.ensures.sole read) (view-TypeKey read _ _ _) (c.value_at.ensures read c.args.token rs b)

pub returns-in-Err : goal.returns-in-Err
returns-in-Err c read rs b = refused_on (as_entry b) c.args.token.start _ _ c.unexpected.ensures (λ p. arrow_several p _ _ (read c.args.token.leaf) (c.in-Err.ensures.several read))
