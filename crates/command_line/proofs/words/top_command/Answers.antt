use Rattle.std.proofs.Common.{ap, ◌∙◌, true}
use Rattle.clap.specs.Simple.{app_of_fields}
use Rattle.clap.specs.Words.{App}
use Rattle.command_line.proofs.words.top_command.Goals as goal

pub returns-clause-app : goal.returns-clause-app
returns-clause-app c =
    ap app_of_fields c.subcommand_required.ensures ∙ ap (λ (a : App). record { top = record a.top { subcommand_required = true }; subs = a.subs })
    (ap app_of_fields c.version.ensures ∙ ap (λ (a : App). record { top = record a.top { has_version = true }; subs = a.subs }) (ap app_of_fields c.about.ensures ∙ c.new.ensures.app))
