use Rattle.std.proofs.lemmas.Result.{IfOk-weaker}
use Rattle.check_faults.specs.Text.{of_tree, no_tree}
use Rattle.check_faults.proofs.text.of_tokens.Goals as goal

pub all_faults-found-requires : goal.all_faults-found-requires
all_faults-found-requires c = c.trees_are_of_tokens.ensures _ _ _ c.requires.of_text.1 c.in-Ok.ensures.tree

pub returns-in-Ok : goal.returns-in-Ok
returns-in-Ok c = IfOk-weaker c.all_faults-found.result _ _ (λ v h text are. of_tree are c.in-Ok.ensures.tree h) c.all_faults-found.ensures

pub returns-in-Err-At : goal.returns-in-Err-At
returns-in-Err-At c text are = no_tree are _ _ (rw c.in-Err-At.field-0-is at c.in-Err-At.ensures.refused) c.new.ensures.items
