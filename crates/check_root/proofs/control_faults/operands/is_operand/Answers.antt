use Rattle.std.proofs.Common.{sym, ap, ◌∙◌}
use Rattle.std.specs.Option.{option_map}
use Rattle.cddl_language.specs.Faults.{is_operand}
use Rattle.cddl_literal.specs.Literals.{view}
use Rattle.check_terms.specs.Texts.Controls.{computation_view}
use Rattle.check_root.proofs.control_faults.operands.is_operand.Goals as goal

pub returns-in-Join : goal.returns-in-Join
returns-in-Join c = c.is_string.ensures c.in-Join.field-0 ∙ ap (λ k. is_operand (computation_view k) (option_map (λ l. view l.now) c.args.literal)) (sym c.in-Join.is)
