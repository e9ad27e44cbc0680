use Rattle.std.proofs.lemmas.Result.{IfOk-weaker}
use Rattle.command_line.specs.Chosen.{check_app, validate_app, rewrite_app, show_app, explain_app, top_app}
use Rattle.command_line.proofs.Commands.{IsApp, with_command}
use Rattle.command_line.proofs.words.command.Goals as goal

pub returns : goal.returns
returns c =
    let top_is : IsApp c.top_command.result top_app = record { shape = c.top_command.ensures.app; own = c.top_command.ensures.local } in
    let check_is : IsApp c.in_ok-check_command.field-0 check_app = record { shape = c.in_ok-check_command.ensures.app; own = c.in_ok-check_command.ensures.local } in
    let validate_is : IsApp c.in_ok-validate_command.field-0 validate_app = record { shape = c.in_ok-validate_command.ensures.app; own = c.in_ok-validate_command.ensures.local } in
    let rewrite_is : IsApp c.in_ok-rewrite_command.field-0 rewrite_app = record { shape = c.in_ok-rewrite_command.ensures.app; own = c.in_ok-rewrite_command.ensures.local } in
    let show_is : IsApp c.in_ok-show_command.field-0 show_app = record { shape = c.in_ok-show_command.ensures.app; own = c.in_ok-show_command.ensures.local } in
    let explain_is : IsApp c.in_ok-explain_command.field-0 explain_app = record { shape = c.in_ok-explain_command.ensures.app; own = c.in_ok-explain_command.ensures.local } in
    let one = with_command top_is check_is c.in_ok-subcommand.ensures in
    let two = with_command one validate_is c.in_ok-subcommand-2.ensures in
    let three = with_command two rewrite_is c.in_ok-subcommand-3.ensures in
    let four = with_command three show_is c.in_ok-subcommand-4.ensures in
    IfOk-weaker c.subcommand-5.result _ _ (λ r h. (with_command four explain_is h).shape) c.subcommand-5.ensures
