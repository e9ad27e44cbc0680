use Rattle.std.proofs.Common.{inl, option_copied, option_map, ◌∙◌}
use Rattle.seq_run.specs.Running.{change_of}
use Rattle.cddl_tool.proofs.Telling.{line_told, nothing_told}
use Rattle.cddl_tool.proofs.ending.tell_line.Goals as goal

pub returns-in-Ok : goal.returns-in-Ok
returns-in-Ok g c =
    line_told c.args.options.now (option_map (λ t. t.now) c.args.text) (change_of g.E.Write.contents c.args.err.now c.say.new.err) c.args.end.now (option_copied c.args.rejected) c.status_of.result c.requires.rewrites
    c.as_slice.result.now (λ kept few. c.say.ensures kept few) (c.in-Ok.ensures.0, c.in-Ok.ensures.1, c.as_slice.ensures.value ∙ c.in-Ok.ensures.2) c.status_of.ensures

pub returns-in-Err : goal.returns-in-Err
returns-in-Err g c =
    nothing_told c.args.options.now (option_map (λ t. t.now) c.args.text) (change_of g.E.Write.contents c.args.err.now c.say_no_memory.new.err) c.args.end.now (option_copied c.args.rejected) c.say_no_memory.result (inl c.requires.rewrites) c.say_no_memory.ensures.status
    (λ kept few. c.say_no_memory.ensures.line kept few)
