use Rattle.std.proofs.Common.{inr, option_copied, option_map, string_bytes, ◌∙◌}
use Rattle.seq_run.specs.Running.{change_of}
use Rattle.cddl_tool.proofs.Refusing.{said_as}
use Rattle.cddl_tool.proofs.Telling.{no_reasons, nothing_told, reasons_told}
use Rattle.cddl_tool.proofs.ending.tell_reasons.Goals as goal

pub returns-in-Ok-clause-told : goal.returns-in-Ok-clause-told
returns-in-Ok-clause-told g c =
    reasons_told c.args.options.now (option_map (λ t. t.now) c.args.text) (change_of g.E.Write.contents c.args.err.now c.say_text.new.err) c.args.end.now (option_copied c.args.rejected) c.status_of.result c.requires
    (string_bytes c.in-Ok.reasons) c.in-Ok.ensures.reasons (said_as _ _ (string_bytes c.in-Ok.reasons) c.as_str.ensures.value c.say_text.ensures.said) c.status_of.ensures

pub returns-in-Ok-clause-quiet : goal.returns-in-Ok-clause-quiet
returns-in-Ok-clause-quiet g c = λ none.
    c.say_text.ensures.nothing (c.as_str.ensures.value ∙ no_reasons c.args.options.now (option_map (λ t. t.now) c.args.text) (option_copied c.args.rejected) (string_bytes c.in-Ok.reasons) none c.in-Ok.ensures.reasons)

pub returns-in-Err-clause-told : goal.returns-in-Err-clause-told
returns-in-Err-clause-told g c =
    nothing_told c.args.options.now (option_map (λ t. t.now) c.args.text) (change_of g.E.Write.contents c.args.err.now c.say_no_memory.new.err) c.args.end.now (option_copied c.args.rejected) c.say_no_memory.result (inr c.in-Err.ensures.wanted) c.say_no_memory.ensures.status
    (λ kept few. c.say_no_memory.ensures.line kept few)

pub returns-in-Err-clause-quiet : goal.returns-in-Err-clause-quiet
returns-in-Err-clause-quiet g c = λ none. absurd (none c.in-Err.ensures.wanted)
