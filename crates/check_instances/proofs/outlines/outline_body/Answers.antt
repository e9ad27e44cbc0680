use Rattle.std.proofs.Common.{◌∙◌, get_or, sym, subst}
use Rattle.check_instances.specs.Lists.{IsIn}
use Rattle.check_instances.specs.Outlines.{IsBodyOf}
use Rattle.check_instances.proofs.Lists.{read_in}
use Rattle.check_instances.proofs.OfOutlines.Making.{body_chosen, term_kept}
use Rattle.check_instances.proofs.outlines.outline_body.Goals as goal

pub loop-row-preserved : goal.loop-row-preserved
loop-row-preserved c =
    let keeps = c.growing_keeps.ensures in
    let start = c.args.terms.now in
    let old = c.loop-row.terms in
    let new = c.with_reference.new.terms in
    let inv = c.loop-row.invariant in
    let made = c.in_ok-choices.ensures in
    record {
      grown = keeps.further start old new inv.grown made.grows;
      texts = made.texts ∙ inv.texts;
      stand = λ x ps h.
          let so = inv.stand x ps h in
          let ns = c.deref-row-items.result.now in
          let row = get_or ns c.loop-row.row-index 0 in
          let there = subst (IsIn row) c.deref-row-items.ensures.value (read_in ns c.loop-row.row-index 0 c.loop-row-test.true) in
          made.stand x ps so.0 so.1 (term_kept start old x ps (keeps.tree start old inv.grown) row (c.in_ok-rows.ensures x ps h row there));
    }

pub returns-clause-outline : goal.returns-clause-outline
returns-clause-outline c = λ x ps h.
    let keeps = c.growing_keeps.ensures in
    let start = c.args.terms.now in
    let new = c.either.new.terms in
    let so = c.loop-row.invariant.stand x ps h in
    let grown = keeps.further start c.loop-row.terms new c.loop-row.invariant.grown c.in_ok-row.ensures.grows in
    subst (IsBodyOf new x ps) (sym c.body_of.ensures) (body_chosen new x ps c.in_ok-row.row c.args.body (keeps.body start new grown c.args.body x h) (c.in_ok-row.ensures.stands x ps so.0 so.1))
