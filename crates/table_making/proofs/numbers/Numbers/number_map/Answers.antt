use Rattle.std.proofs.Common.{drop_of_length-le, subst}
use Rattle.lists.proofs.Lemmas.{next_drop}
use Rattle.table_making.specs.Numbers.{AreEntriesAt, AreEntriesOf, NumbersEntries, keys_of}
use Rattle.table_making.proofs.Numbering.{entries_stay, numbering_begun, numbering_ended, numbering_on}
use Rattle.table_making.proofs.numbers.Numbers.number_map.Goals as goal

pub loop-alternative-init : goal.loop-alternative-init
loop-alternative-init c = numbering_begun AreEntriesAt AreEntriesOf (keys_of c.args.self.now) c.args.forms.now _ c.new-alternatives.ensures.items

pub loop-alternative-preserved : goal.loop-alternative-preserved
loop-alternative-preserved c =
    let numbered = subst (λ fs. NumbersEntries (keys_of c.loop-alternative.self) (keys_of c.number_entries.new.self) fs c.in_ok-entries.entries.items) c.deref.ensures.value c.in_ok-entries.ensures in
    numbering_on AreEntriesAt AreEntriesOf entries_stay (keys_of c.args.self.now) (keys_of c.loop-alternative.self) (keys_of c.number_entries.new.self) c.args.forms.now _ _ c.alternative-item.result c.loop-alternative.alternatives.items c.push.new.items.items c.in_ok-entries.entries (next_drop c.args.forms.now c.loop-alternative.alternative-index c.alternative-item.result c.loop-alternative-test.true c.alternative-item.is) c.in_ok-push.ensures numbered.grows numbered.there numbered.named c.loop-alternative.invariant

pub returns : goal.returns
returns c = record {
  grows = c.loop-alternative.invariant.grows;
  there = numbering_ended AreEntriesAt AreEntriesOf (keys_of c.args.self.now) (keys_of c.loop-alternative.self) c.args.forms.now _ c.loop-alternative.alternatives.items (drop_of_length-le c.args.forms.now c.loop-alternative-test.false) c.loop-alternative.invariant;
  named = c.loop-alternative.invariant.named;
}
