use Rattle.std.proofs.Common.{sym, subst, ◌∙◌}
use Rattle.check_groups.specs.Causes.Rows.{IsRowAt}
use Rattle.check_groups.proofs.OfCauses.Rows.{entry_row_at, group_row_at, no_row_at}
use Rattle.check_groups.proofs.causes.rows.row_at.Goals as goal

pub returns-in_default : goal.returns-in_default
returns-in_default c xs root refs k = no_row_at xs root c.args.terms.now c.args.number _ (sym c.row.ensures ∙ c.in_default.is)

pub returns-then-is_entry : goal.returns-then-is_entry
returns-then-is_entry c xs root refs k = entry_row_at xs root c.args.terms.now c.args.number c.in-Some.row c.entry_row.result (sym c.in-Some.ensures) (sym c.is_entry.ensures ∙ c.if-is_entry.true) (λ e h r. c.entry_row.ensures xs root refs k e h r)

pub returns-else-is_entry : goal.returns-else-is_entry
returns-else-is_entry c xs root refs k = subst (IsRowAt xs root c.args.terms.now c.args.number) (sym c.group_row.ensures) (group_row_at xs root c.args.terms.now c.args.number c.in-Some.row (sym c.in-Some.ensures) (sym c.is_entry.ensures ∙ c.if-is_entry.false))
