use Rattle.std.proofs.Common.{ap, ◌∙◌, codes}
use Rattle.std.proofs.lemmas.Result.{IfOk-weaker}
use Rattle.clap.specs.Simple.{app_of_fields}
use Rattle.clap.specs.Words.{new_app}
use Rattle.command_line.specs.Chosen.{judging_app}
use Rattle.command_line.proofs.Commands.{IsApp, with_arg}
use Rattle.command_line.proofs.words.validate_command.Goals as goal

pub returns-clause-app : goal.returns-clause-app
returns-clause-app c =
    let inner : IsApp c.in_ok-with_judgement.field-0 (judging_app (new_app (codes "validate"))) = record { shape = c.in_ok-with_judgement.ensures.app ∙ ap judging_app (ap app_of_fields c.after_help-command.ensures ∙ (ap app_of_fields c.about.ensures ∙ c.new.ensures.app)); own = c.in_ok-with_judgement.ensures.local } in
    IfOk-weaker c.arg.result _ _ (λ r h. (with_arg inner c.flag_arg.ensures.rule c.flag_arg.ensures.own h).shape) c.arg.ensures

pub returns-clause-local : goal.returns-clause-local
returns-clause-local c =
    let inner : IsApp c.in_ok-with_judgement.field-0 (judging_app (new_app (codes "validate"))) = record { shape = c.in_ok-with_judgement.ensures.app ∙ ap judging_app (ap app_of_fields c.after_help-command.ensures ∙ (ap app_of_fields c.about.ensures ∙ c.new.ensures.app)); own = c.in_ok-with_judgement.ensures.local } in
    IfOk-weaker c.arg.result _ _ (λ r h. (with_arg inner c.flag_arg.ensures.rule c.flag_arg.ensures.own h).own) c.arg.ensures
