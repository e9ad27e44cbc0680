use Rattle.tree_nodes.specs.declared.tree.Entry.{Entry}
use Rattle.tree_nodes.specs.declared.tree.GrpChoice.{GrpChoice}
use Rattle.check_sites.specs.Entries.Walk.{choice_part, entry_part}
use Rattle.check_sites.proofs.OfEntries.Adding.{on_ok, adds, adds_as, adds_both, continues_first, continues_last, continues_next, one_of, several, several_next, several_none}
use Rattle.check_sites.proofs.OfEntries.Nodes.{group_parts, grouped_inside, keyed_inside, typed_inside}
use Rattle.check_sites.proofs.entries.walk.+walk.Goals as goal

pub add_group-loop-choice-init : goal.add_group-loop-choice-init
add_group-loop-choice-init t c = continues_first GrpChoice (several c.args.place choice_part) _ _

pub add_group-loop-choice-preserved : goal.add_group-loop-choice-preserved
add_group-loop-choice-preserved t c =
    continues_next GrpChoice (several c.args.place choice_part) _ _ _ (one_of c.args.place choice_part) (several_next c.args.place choice_part) _ _ c.choice-item.result c.loop-choice-test.true c.choice-item.is c.in_ok-add_entries-2.ensures.lists c.loop-choice.invariant

pub add_group-returns : goal.add_group-returns
add_group-returns t c =
    adds_as _ (λ read. group_parts read c.args.group.now) (adds_both c.in_ok-add_entries.ensures (adds c.args.place _ (continues_last GrpChoice (several c.args.place choice_part) _ _ _ (several_none c.args.place choice_part) _ _ c.loop-choice-test.false c.deref-choice-items.ensures.value c.loop-choice.invariant)))

pub add_entries-loop-entry-init : goal.add_entries-loop-entry-init
add_entries-loop-entry-init t c = continues_first Entry (several c.args.place entry_part) _ _

pub add_entries-loop-entry-preserved : goal.add_entries-loop-entry-preserved
add_entries-loop-entry-preserved t c =
    continues_next Entry (several c.args.place entry_part) _ _ _ (one_of c.args.place entry_part) (several_next c.args.place entry_part) _ _ c.entry-item.result c.loop-entry-test.true c.entry-item.is c.in_ok-add_entry.ensures.lists c.loop-entry.invariant

pub add_entries-returns : goal.add_entries-returns
add_entries-returns t c =
    adds c.args.place _ (continues_last Entry (several c.args.place entry_part) _ _ _ (several_none c.args.place entry_part) _ _ c.loop-entry-test.false c.deref-entry-items.ensures.value c.loop-entry.invariant)

pub add_entry-returns-in-Typed : goal.add_entry-returns-in-Typed
add_entry-returns-in-Typed t c = adds_as _ (λ read. typed_inside read _ _ _ c.in-Typed.is) c.in_ok-push_entry.ensures

pub add_entry-returns-in-Keyed : goal.add_entry-returns-in-Keyed
add_entry-returns-in-Keyed t c = adds_as _ (λ read. keyed_inside read _ _ _ _ c.in-Keyed.is) c.in_ok-push_entry.ensures

pub add_entry-returns-in-Grouped : goal.add_entry-returns-in-Grouped
add_entry-returns-in-Grouped t c =
    on_ok c.add_group.result _ _ (λ h. adds_as _ (λ read. grouped_inside read _ _ _ c.in-Grouped.group _ c.in-Grouped.is) (adds_both c.in_ok-push_entry.ensures h)) c.add_group.ensures
