use Rattle.std.proofs.Common.{◌∙◌}
use Rattle.seq_run.specs.Running.{change_of}
use Rattle.cddl_examples.proofs.Printed.{denied, printed}
use Rattle.cddl_examples.proofs.checking.print_check.Goals as goal

pub returns-in-Ok-clause-printed : goal.returns-in-Ok-clause-printed
returns-in-Ok-clause-printed g c = printed c.table_has_root.ensures c.args.text.now c.in-Ok.field-0 (change_of g.W.Write.contents c.args.out.now c.print_line.new.out) c.print_line.result c.in-Ok.ensures.tabled c.print_line.ensures

pub returns-clause-printed : goal.returns-clause-printed
returns-clause-printed g c =
    denied c.args.text.now c.in-Err-At.field-0 c.in-Err-At.code c.in-Err-At.at (change_of g.W.Write.contents c.args.out.now c.print_line-2.new.out) c.print_line-2.result c.as_bytes.result.now
    c.in-Err-At.field-0-is c.in-Err-At.ensures.unread (c.as_bytes.ensures.value ∙ c.in_ok-line.ensures) c.print_line-2.ensures
