use Rattle.std.proofs.Common.{sym, subst, drop_of_length-le}
use Rattle.cddl_meaning.specs.Alike.{AlikeAll}
use Rattle.cddl_language.specs.Language.{chosen_names}
use Rattle.check_instances.specs.Closed.Closed.{EntriesRow}
use Rattle.table_making.proofs.Forming.{entries_walk_begun, entries_walk_ended, entries_walk_on}
use Rattle.table_making.proofs.Listing.{next_row}
use Rattle.table_making.proofs.chosen.chosen.Goals as goal

pub loop-row-init : goal.loop-row-init
loop-row-init c = λ s ess src a re can. entries_walk_begun s c.args.terms.now ess c.deref-row-items.result.now _ c.new-chosen.ensures.items re (c.choices_nest.ensures s.definitions ess can) (subst (AlikeAll (EntriesRow c.args.terms.now) ess) (sym c.deref-row-items.ensures.value) (c.in_ok-rows.ensures ess a))

pub loop-row-preserved : goal.loop-row-preserved
loop-row-preserved c = λ s ess src a re can. entries_walk_on s c.args.terms.now (chosen_names s.worth s.definitions ess) _ _ _ _ _ (next_row c.deref-row-items.result.now c.loop-row.row-index c.loop-row-test.true) (λ es h q may ms al. c.in_ok-add_chosen.ensures s es src h q may ms al) (c.loop-row.invariant s ess src a re can)

pub returns : goal.returns
returns c = λ s ess src a re can. entries_walk_ended s c.args.terms.now (chosen_names s.worth s.definitions ess) _ _ (drop_of_length-le c.deref-row-items.result.now c.loop-row-test.false) (c.loop-row.invariant s ess src a re can)
