use Rattle.std.proofs.Common.{ap, ◌∙◌}
use Rattle.std.proofs.lemmas.Result.{IfOk-weaker}
use Rattle.clap.specs.Simple.{app_of_fields}
use Rattle.clap.specs.Words.{App, with_rule}
use Rattle.command_line.specs.Chosen.{code_rule}
use Rattle.command_line.proofs.words.explain_command.Goals as goal

pub returns-clause-app : goal.returns-clause-app
returns-clause-app c =
    IfOk-weaker c.with_code.result _ _ (λ r h. h ∙ ap (λ (a : App). with_rule a code_rule) (ap app_of_fields c.after_help-command.ensures ∙ (ap app_of_fields c.about.ensures ∙ c.new.ensures.app))) c.with_code.ensures.app
