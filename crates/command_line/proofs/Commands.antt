-- How a command grows.
use Rattle.std.proofs.Common.{◌≡◌, Bool, false, ◌||◌, ap, ap₂, ◌∙◌}
use Rattle.clap.specs.Words.{App, Rule, app_of, rule_of, with_rule, with_subcommand, AddsArg, AddsSubcommand}
use Rattle.clap.specs.declared.builder.arg.Arg.{Arg}
use Rattle.clap.specs.declared.builder.command.Command.{Command}
use Rattle.clap.specs.declared.builder.command.Command.TheViews.{out-Command}

-- the command has this shape, and no global argument
pub record IsApp (c : Command) (app : App) : Type 0 where
  pub shape : app_of c ≡ app
  pub own : (out-Command c).has_globals ≡ false

pub with_arg : {old new : Command} {app : App} {a : Arg} {rule : Rule} → IsApp old app → rule_of a ≡ rule → a.global ≡ false → AddsArg old a new → IsApp new (with_rule app rule)
with_arg is rule own adds = record {
  shape = adds.shape own ∙ ap₂ with_rule is.shape rule;
  own = adds.globals ∙ ap₂ (λ (b d : Bool). b || d) is.own own;
}

pub with_command : {old new sub : Command} {app below : App} → IsApp old app → IsApp sub below → AddsSubcommand old sub new → IsApp new (with_subcommand app below.top)
with_command is below adds = record {
  shape = adds.shape below.own ∙ ap₂ with_subcommand is.shape (ap (λ (a : App). a.top) below.shape);
  own = adds.globals ∙ ap₂ (λ (b d : Bool). b || d) is.own below.own;
}
