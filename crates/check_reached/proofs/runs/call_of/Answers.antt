use Rattle.std.proofs.Common.{sym, ◌∙◌}
use Rattle.check_reached.proofs.Named.{ref_arguments}
use Rattle.check_reached.proofs.runs.call_of.Goals as goal

pub returns : goal.returns
returns c = λ r ref. record { row = ref; arguments = ref_arguments c.args.terms.now c.args.number c.in-Some.row r c.in_ok-arguments.arguments.items (sym c.row.ensures ∙ c.in-Some.is) c.in_ok-arguments.ensures ref }
