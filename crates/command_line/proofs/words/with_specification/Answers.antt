use Rattle.std.proofs.Common.{refl}
use Rattle.std.proofs.lemmas.Result.{IfOk-weaker}
use Rattle.clap.specs.Words.{app_of}
use Rattle.command_line.proofs.Commands.{IsApp, with_arg}
use Rattle.command_line.proofs.words.with_specification.Goals as goal

pub returns-clause-app : goal.returns-clause-app
returns-clause-app c =
    let old_is : IsApp c.args.command (app_of c.args.command) = record { shape = refl; own = c.requires } in
    let step = with_arg old_is c.spec_arg.ensures.rule c.spec_arg.ensures.own c.in_ok-arg.ensures in
    let step-2 = with_arg step c.root_arg.ensures.rule c.root_arg.ensures.own c.in_ok-arg-2.ensures in
    IfOk-weaker c.arg-3.result _ _ (λ r h. (with_arg step-2 c.flag_arg.ensures.rule c.flag_arg.ensures.own h).shape) c.arg-3.ensures

pub returns-clause-local : goal.returns-clause-local
returns-clause-local c =
    let old_is : IsApp c.args.command (app_of c.args.command) = record { shape = refl; own = c.requires } in
    let step = with_arg old_is c.spec_arg.ensures.rule c.spec_arg.ensures.own c.in_ok-arg.ensures in
    let step-2 = with_arg step c.root_arg.ensures.rule c.root_arg.ensures.own c.in_ok-arg-2.ensures in
    IfOk-weaker c.arg-3.result _ _ (λ r h. (with_arg step-2 c.flag_arg.ensures.rule c.flag_arg.ensures.own h).own) c.arg-3.ensures
