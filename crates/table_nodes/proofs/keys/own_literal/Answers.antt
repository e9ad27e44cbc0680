use Rattle.std.proofs.Common.{None, Some, refl, ap, ◌∙◌}
use Rattle.item_nodes.specs.View.{view}
use Rattle.table_nodes.specs.Choices.{type_in}
use Rattle.table_nodes.specs.Keys.{shown_value}
use Rattle.table_nodes.proofs.OfKeys.{by_none}
use Rattle.table_nodes.proofs.keys.own_literal.Goals as goal

pub returns-in-Value : goal.returns-in-Value
returns-in-Value c = by_none (type_in c.args.types.now) 0 c.args.node (Some (view c.in-Value.literal.now)) refl (c.shown_at.ensures (λ m. None) ∙ ap (λ s. shown_value s (λ m. None)) c.in-Value.is)

pub returns-in-Same : goal.returns-in-Same
returns-in-Same c = by_none (type_in c.args.types.now) 0 c.args.node None refl (c.shown_at.ensures (λ m. None) ∙ ap (λ s. shown_value s (λ m. None)) c.in-Same.is)

pub returns-in-Nothing : goal.returns-in-Nothing
returns-in-Nothing c = by_none (type_in c.args.types.now) 0 c.args.node None refl (c.shown_at.ensures (λ m. None) ∙ ap (λ s. shown_value s (λ m. None)) c.in-Nothing.is)
