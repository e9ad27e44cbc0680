use Rattle.std.proofs.Common.{refl}
use Rattle.std.proofs.lemmas.Result.{IfOk-weaker}
use Rattle.clap.specs.Words.{app_of}
use Rattle.command_line.proofs.Commands.{IsApp, with_arg}
use Rattle.command_line.proofs.words.with_code.Goals as goal

pub returns-clause-app : goal.returns-clause-app
returns-clause-app c =
    let old_is : IsApp c.args.command (app_of c.args.command) = record { shape = refl; own = c.requires } in
    IfOk-weaker c.arg.result _ _ (λ r h. (with_arg old_is c.code_arg.ensures.rule c.code_arg.ensures.own h).shape) c.arg.ensures

pub returns-clause-local : goal.returns-clause-local
returns-clause-local c =
    let old_is : IsApp c.args.command (app_of c.args.command) = record { shape = refl; own = c.requires } in
    IfOk-weaker c.arg.result _ _ (λ r h. (with_arg old_is c.code_arg.ensures.rule c.code_arg.ensures.own h).own) c.arg.ensures
