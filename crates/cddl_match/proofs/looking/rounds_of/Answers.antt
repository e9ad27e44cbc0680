use Rattle.std.proofs.Common.{refl, sym, subst, ◌∙◌, arith}
use Rattle.table_nodes.specs.Language.{language_of}
use Rattle.table_nodes.specs.Nodes.{most_view, type_view}
use Rattle.cddl_match.specs.Ahead.{IsEntered}
use Rattle.match_moves.specs.Views.{values}
use Rattle.cddl_match.proofs.Ways.{and_on, stays, a_round}
use Rattle.cddl_match.proofs.looking.rounds_of.Goals as goal

pub loop-base-init : goal.loop-base-init
loop-base-init c = record { within = omega arith; group = refl; comes = λ entered. stays (language_of c.args.table.now) _ }

pub loop-base-smaller : goal.loop-base-smaller
loop-base-smaller c = omega (arith, c.loop-base.invariant.within, c.in-Some.ensures.within.0, c.in-Some.ensures.within.1)

pub loop-base-preserved : goal.loop-base-preserved
loop-base-preserved c = record {
  within = omega (arith, c.loop-base.invariant.within, c.in-Some.ensures.within.1);
  group = c.in-Another.ensures.group _ refl ∙ c.loop-base.invariant.group;
  comes = λ entered. and_on (language_of c.args.table.now) (c.loop-base.invariant.comes entered) (a_round (language_of c.args.table.now) c.loop-base.rounds.least (most_view c.loop-base.rounds.most) c.loop-base.rounds.group c.loop-base.rounds.base c.loop-base.rounds.place (values c.loop-base.rounds.items.now) c.loop-base.rounds.far (c.in-Some.ensures.told c.loop-base.rounds.group (subst (λ g. IsEntered (language_of c.args.table.now) g c.args.entered.node (type_view c.args.entered.form.now) c.args.entered.groups c.args.entered.types) (sym c.loop-base.invariant.group) entered)) (sym c.is_over.ensures ∙ c.loop-base-test.true) c.in-Another.ensures.next) refl;
}

pub returns-in_default : goal.returns-in_default
returns-in_default c = record {
  comes = λ entered. and_on (language_of c.args.table.now) (c.loop-base.invariant.comes entered) (a_round (language_of c.args.table.now) c.loop-base.rounds.least (most_view c.loop-base.rounds.most) c.loop-base.rounds.group c.loop-base.rounds.base c.loop-base.rounds.place (values c.loop-base.rounds.items.now) c.loop-base.rounds.far (c.in-Some.ensures.told c.loop-base.rounds.group (subst (λ g. IsEntered (language_of c.args.table.now) g c.args.entered.node (type_view c.args.entered.form.now) c.args.entered.groups c.args.entered.types) (sym c.loop-base.invariant.group) entered)) (sym c.is_over.ensures ∙ c.loop-base-test.true) c.after_round.ensures.next) refl;
  within = omega (arith, c.loop-base.invariant.within, c.in-Some.ensures.within.1);
}
