use Rattle.std.proofs.Common.{ap}
use Rattle.tree_nodes.specs.View.{view_types}
use Rattle.tree_nodes.specs.Syntax.Machine as M
use Rattle.cddl_tree.specs.Frames.{view_home, view_at_type1, Gives}
use Rattle.cddl_tree.proofs.Steps.{on_all}
use Rattle.cddl_tree.proofs.Closing.{choice_opened}
use Rattle.cddl_tree.proofs.positions.next_choice.Goals as goal

pub returns-in-Ok-new_box : goal.returns-in-Ok-new_box
returns-in-Ok-new_box c read t rs b = choice_opened (view_home read b c.args.home) (view_types read c.in-Ok.types.value) (view_types read c.args.types) (read c.args.slash) _ (λ (m : M.State). Gives read t rs b c.want.result m) (ap (view_types read) c.in-Ok.ensures.ok) (ap (view_at_type1 read b) c.in-Ok-new_box.ensures.ok) (c.want.ensures read t rs b)

pub returns-in-Err-new_box : goal.returns-in-Err-new_box
returns-in-Err-new_box c read t rs b = on_all (view_home read b c.args.home) _ (λ k. tt)

pub returns-in-Err : goal.returns-in-Err
returns-in-Err c read t rs b = on_all (view_home read b c.args.home) _ (λ k. tt)
