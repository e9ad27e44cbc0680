use Rattle.std.proofs.Common.{◌++◌, sym, subst, drop_of_length-le}
use Rattle.cddl_meaning.specs.Alike.{AlikeAll}
use Rattle.cddl_language.specs.Terms.{entry_list}
use Rattle.check_instances.specs.Closed.Closed.{EntryRow}
use Rattle.table_making.proofs.Forming.{entry_walk_begun, entry_walk_ended, entry_walk_on, names_of_entries}
use Rattle.table_making.proofs.Listing.{next_row}
use Rattle.table_making.proofs.chosen.add_chosen.Goals as goal

pub loop-entry-init : goal.loop-entry-init
loop-entry-init c = λ s es src is re can ns a. entry_walk_begun s c.args.terms.now es c.deref-entry-items.result.now ns _ re can (subst (AlikeAll (EntryRow c.args.terms.now) (entry_list es)) (sym c.deref-entry-items.ensures.value) (c.in-Ok.ensures es is)) a

pub loop-entry-preserved : goal.loop-entry-preserved
loop-entry-preserved c = λ s es src is re can ns a. entry_walk_on s c.args.terms.now (ns ++ names_of_entries s c.args.terms.now es) _ _ _ _ _ c.chosen_entry.result (next_row c.deref-entry-items.result.now c.loop-entry.entry-index c.loop-entry-test.true) c.in_ok-push.ensures (λ e h q may. c.chosen_entry.ensures s e src h q may) (c.loop-entry.invariant s es src is re can ns a)

pub returns : goal.returns
returns c = λ s es src is re can ns a. entry_walk_ended s c.args.terms.now (ns ++ names_of_entries s c.args.terms.now es) _ _ (drop_of_length-le c.deref-entry-items.result.now c.loop-entry-test.false) (c.loop-entry.invariant s es src is re can ns a)
