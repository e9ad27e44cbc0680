use Rattle.std.proofs.Common.{◌≡◌, ℕ, Option, None, Some, refl, sym, ap, ◌∙◌, subst, arith}
use Rattle.cbor_data.specs.Value.{Value}
use Rattle.cddl_meaning.specs.Forms.{key_in, most_forms}
use Rattle.item_nodes.specs.View.{view}
use Rattle.table_nodes.specs.Choices.{type_in}
use Rattle.table_nodes.specs.Keys.{shown_value}
use Rattle.table_nodes.specs.declared.nodes.TypeId.{TypeId}
use Rattle.table_nodes.proofs.OfKeys.{by_form, by_next}
use Rattle.table_nodes.proofs.keys.literal_type.Goals as goal

pub loop-left-init : goal.loop-left-init
unfolding most_forms
loop-left-init c = refl

pub returns-in-Value : goal.returns-in-Value
returns-in-Value c =
    let shows = λ (next : TypeId → Option Value). c.shown_at.ensures next ∙ ap (λ s. shown_value s next) c.in-Value.is in
    let type_at = type_in c.args.types.now in
    c.loop-left.invariant ∙ (by_form type_at c.loop-left.left c.loop-left.node (Some (view c.in-Value.field-0.now)) shows ∙ sym (by_form type_at 0 c.loop-left.node (Some (view c.in-Value.field-0.now)) shows))

pub returns-in-Nothing : goal.returns-in-Nothing
returns-in-Nothing c =
    let shows = λ (next : TypeId → Option Value). c.shown_at.ensures next ∙ ap (λ s. shown_value s next) c.in-Nothing.is in
    let type_at = type_in c.args.types.now in
    c.loop-left.invariant ∙ (by_form type_at c.loop-left.left c.loop-left.node None shows ∙ sym (by_form type_at 0 c.loop-left.node None shows))

pub loop-left-preserved : goal.loop-left-preserved
loop-left-preserved c = c.loop-left.invariant ∙ by_next (type_in c.args.types.now) c.loop-left.left c.loop-left.node c.in-Same.next (λ e. absurd (omega (arith, e, c.loop-left-test.true))) (λ next. c.shown_at.ensures next ∙ ap (λ s. shown_value s next) c.in-Same.is)

pub returns : goal.returns
returns c = let none : c.loop-left.left ≡ 0 = omega (arith, c.loop-left-test.false) in subst (λ (k : ℕ). key_in (type_in c.args.types.now) most_forms c.args.node ≡ key_in (type_in c.args.types.now) k c.loop-left.node) none c.loop-left.invariant
