use Rattle.std.proofs.Common.{subst, sym}
use Rattle.cddl_meaning.specs.Forms as F
use Rattle.table_nodes.specs.Nodes.{most_view}
use Rattle.table_making.specs.Forms.{group_form_view}
use Rattle.table_making.specs.Numbers.{MakesGroup, NumbersGroups, keys_of}
use Rattle.table_making.proofs.Numbering.{made_alternatives, made_entry, made_group_ref, made_repeat, made_sequence}
use Rattle.table_making.proofs.numbers.Numbers.group_node.Goals as goal

pub returns-in_ok-number-in-Entry : goal.returns-in_ok-number-in-Entry
returns-in_ok-number-in-Entry c = subst (λ f. MakesGroup (keys_of c.args.self.now) (keys_of c.number_type.new.self) (group_form_view f) (F.Entry c.in_ok-number-in-Entry.number)) (sym c.in-Entry.is) (made_entry (keys_of c.args.self.now) (keys_of c.number_type.new.self) c.in-Entry.origin c.in_ok-number-in-Entry.number c.in_ok-number-in-Entry.ensures)

pub returns-in_ok-number-in-Ref : goal.returns-in_ok-number-in-Ref
returns-in_ok-number-in-Ref c = subst (λ f. MakesGroup (keys_of c.args.self.now) (keys_of c.number_group.new.self) (group_form_view f) (F.GroupRef c.in_ok-number-in-Ref.number)) (sym c.in-Ref.is) (made_group_ref (keys_of c.args.self.now) (keys_of c.number_group.new.self) c.in-Ref.origin c.in_ok-number-in-Ref.number c.in_ok-number-in-Ref.ensures)

pub returns-in_ok-numbers-in-Sequence : goal.returns-in_ok-numbers-in-Sequence
returns-in_ok-numbers-in-Sequence c = subst (λ f. MakesGroup (keys_of c.args.self.now) (keys_of c.number_groups.new.self) (group_form_view f) (F.Sequence c.in_ok-numbers-in-Sequence.numbers.items)) (sym c.in-Sequence.is) (made_sequence (keys_of c.args.self.now) (keys_of c.number_groups.new.self) c.in-Sequence.origins.items c.in_ok-numbers-in-Sequence.numbers.items (subst (λ os. NumbersGroups (keys_of c.args.self.now) (keys_of c.number_groups.new.self) os c.in_ok-numbers-in-Sequence.numbers.items) c.deref.ensures.value c.in_ok-numbers-in-Sequence.ensures))

pub returns-in_ok-numbers-in-Alternatives : goal.returns-in_ok-numbers-in-Alternatives
returns-in_ok-numbers-in-Alternatives c = subst (λ f. MakesGroup (keys_of c.args.self.now) (keys_of c.number_groups-in-Alternatives.new.self) (group_form_view f) (F.Alternatives c.in_ok-numbers-in-Alternatives.numbers.items)) (sym c.in-Alternatives.is) (made_alternatives (keys_of c.args.self.now) (keys_of c.number_groups-in-Alternatives.new.self) c.in-Alternatives.origins.items c.in_ok-numbers-in-Alternatives.numbers.items (subst (λ os. NumbersGroups (keys_of c.args.self.now) (keys_of c.number_groups-in-Alternatives.new.self) os c.in_ok-numbers-in-Alternatives.numbers.items) c.deref-in-Alternatives.ensures.value c.in_ok-numbers-in-Alternatives.ensures))

pub returns-in_ok-group-in-Repeat : goal.returns-in_ok-group-in-Repeat
returns-in_ok-group-in-Repeat c = subst (λ f. MakesGroup (keys_of c.args.self.now) (keys_of c.number_group-in-Repeat.new.self) (group_form_view f) (F.Repeat c.in-Repeat.least (most_view c.in-Repeat.most) c.in_ok-group-in-Repeat.group)) (sym c.in-Repeat.is) (made_repeat (keys_of c.args.self.now) (keys_of c.number_group-in-Repeat.new.self) c.in-Repeat.least (most_view c.in-Repeat.most) c.in-Repeat.group c.in_ok-group-in-Repeat.group c.in_ok-group-in-Repeat.ensures)
