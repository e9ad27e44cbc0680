use Rattle.std.proofs.Common.{◌≡◌, ℕ, subst, arith}
use Rattle.table_nodes.specs.Majors.{most_shown, shows, told_in, types_in}
use Rattle.table_nodes.specs.declared.nodes.TypeId.{TypeId}
use Rattle.table_nodes.proofs.Rowing.{no_rows, one_round_more}
use Rattle.table_nodes.proofs.majors.told_of.Goals as goal

pub loop-round-init : goal.loop-round-init
loop-round-init c = rw c.new-rows.ensures.items (λ n m. no_rows c.args.types.now n m)

pub loop-round-preserved : goal.loop-round-preserved
loop-round-preserved c = one_round_more c.args.types.now c.loop-round.rows.items _ c.loop-round.round _ (omega arith) c.loop-round.invariant (rw c.deref.ensures.value at c.in_ok-rows.ensures)

pub returns : goal.returns
unfolding most_shown
returns c = subst (λ k. (n : TypeId) (m : ℕ) → told_in c.loop-round.rows.items n m ≡ shows (types_in c.args.types.now) k n m) (omega (arith, c.loop-round-test.false, c.loop-round.auto.round-end)) c.loop-round.invariant
