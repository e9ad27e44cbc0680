use Rattle.check_groups.proofs.OfCauses.Rows.{grouped_row, keyed_row, typed_row}
use Rattle.check_groups.proofs.causes.rows.entry_row.Goals as goal

pub returns-in-Typed : goal.returns-in-Typed
returns-in-Typed c xs root refs k e h r = typed_row xs root c.args.terms.now c.args.row c.in-Typed.is c.typed_row.result (λ o x i a s. c.typed_row.ensures xs root refs k o x i a s) e h r

pub returns-in-Grouped : goal.returns-in-Grouped
returns-in-Grouped c xs root refs k e h r = grouped_row xs root c.args.terms.now c.args.row c.in-Grouped.is e h

pub returns-in_default : goal.returns-in_default
returns-in_default c xs root refs k e h r = keyed_row xs root c.args.terms.now c.args.row c.in_default.not-Typed c.in_default.not-Grouped e h
