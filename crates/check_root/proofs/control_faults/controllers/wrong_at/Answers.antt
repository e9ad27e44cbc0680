use Rattle.std.proofs.Common.{refl, sym, ◌∙◌}
use Rattle.check_root.proofs.OfControlFaults.Rows.{right_told, wrong_told}
use Rattle.check_root.proofs.control_faults.controllers.wrong_at.Goals as goal

pub returns-then-is_wrong : goal.returns-then-is_wrong
returns-then-is_wrong c xs root worth literals flags there = wrong_told xs root worth c.args.terms.now c.args.literals.now literals c.args.wrong flags c.args.asked there (sym c.is_wrong.ensures ∙ c.if-is_wrong.true)

pub returns-else-is_wrong : goal.returns-else-is_wrong
returns-else-is_wrong c xs root worth literals flags there = right_told xs root worth c.args.terms.now c.args.literals.now literals c.args.wrong flags c.args.asked there (λ n a b h k. (c.equal_numbers.ensures.term n n a b h k).0 refl) (sym c.is_wrong.ensures ∙ c.if-is_wrong.false)
