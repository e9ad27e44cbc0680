use Rattle.std.proofs.Common.{ap, ◌∙◌}
use Rattle.std.proofs.lemmas.Result.{IfOk-weaker}
use Rattle.clap.specs.Words.{app_of}
use Rattle.command_line.specs.Chosen.{spec_app, stream_app}
use Rattle.command_line.proofs.Commands.{IsApp, with_arg}
use Rattle.command_line.proofs.words.with_judgement.Goals as goal

pub returns-clause-app : goal.returns-clause-app
returns-clause-app c =
    let old_is : IsApp c.in_ok-with_stream.field-0 (stream_app (spec_app (app_of c.args.command))) = record { shape = c.in_ok-with_stream.ensures.app ∙ ap stream_app c.in_ok-with_specification.ensures.app; own = c.in_ok-with_stream.ensures.local } in
    let step = with_arg old_is c.steps_arg.ensures.rule c.steps_arg.ensures.own c.in_ok-arg.ensures in
    IfOk-weaker c.arg-2.result _ _ (λ r h. (with_arg step c.flag_arg.ensures.rule c.flag_arg.ensures.own h).shape) c.arg-2.ensures

pub returns-clause-local : goal.returns-clause-local
returns-clause-local c =
    let old_is : IsApp c.in_ok-with_stream.field-0 (stream_app (spec_app (app_of c.args.command))) = record { shape = c.in_ok-with_stream.ensures.app ∙ ap stream_app c.in_ok-with_specification.ensures.app; own = c.in_ok-with_stream.ensures.local } in
    let step = with_arg old_is c.steps_arg.ensures.rule c.steps_arg.ensures.own c.in_ok-arg.ensures in
    IfOk-weaker c.arg-2.result _ _ (λ r h. (with_arg step c.flag_arg.ensures.rule c.flag_arg.ensures.own h).own) c.arg-2.ensures
