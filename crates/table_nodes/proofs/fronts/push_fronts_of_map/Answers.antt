use Rattle.std.proofs.Common.{sym, subst, Vec, Global}
use Rattle.table_nodes.specs.Fronts.{AreFronts}
use Rattle.table_nodes.specs.Nodes.{alternatives_view}
use Rattle.table_nodes.proofs.Beginning.{of_map}
use Rattle.table_nodes.proofs.fronts.push_fronts_of_map.Goals.{then-is_kept+in_ok-push, else-is_kept}
use Rattle.table_nodes.proofs.fronts.push_fronts_of_map.Goals as goal

pub loop-way-preserved : goal.loop-way-preserved
loop-way-preserved c = elim c.if-is_kept.branch [
  | then-is_kept+in_ok-push w ↦ subst (λ (v : Vec _ Global). AreFronts c.args.types.now v.items) (sym w.fronts-is) (subst (AreFronts c.args.types.now) (sym w.in_ok-push.ensures.items) (of_map c.args.types.now c.loop-way.fronts.items _ (alternatives_view c.args.alternatives.now) c.requires.map c.loop-way.invariant c.front_in-entries.ensures))
  | else-is_kept w ↦ subst (λ (v : Vec _ Global). AreFronts c.args.types.now v.items) (sym w.fronts-is) c.loop-way.invariant
]
