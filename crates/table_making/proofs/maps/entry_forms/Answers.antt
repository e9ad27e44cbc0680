use Rattle.std.proofs.Common.{drop_of_length-le}
use Rattle.table_making.proofs.Listing.{next_item}
use Rattle.table_making.proofs.Mapping.{members_begun, members_ended, members_on}
use Rattle.table_making.proofs.maps.entry_forms.Goals as goal

pub loop-member-init : goal.loop-member-init
loop-member-init c = λ s ms h re. members_begun s c.args.terms.now ms c.args.members.now _ c.new-forms.ensures.items h re

pub loop-member-preserved : goal.loop-member-preserved
loop-member-preserved c = λ s ms h re. members_on s c.args.terms.now ms _ _ _ c.loop-member.forms.items c.push.new.items.items c.in_ok-entry_form.field-0 (next_item c.args.members.now c.loop-member.member-index _ c.loop-member-test.true) c.in_ok-push.ensures (λ m is known. c.in_ok-entry_form.ensures s m is known) (c.loop-member.invariant s ms h re)

pub returns : goal.returns
returns c = λ s ms h re. members_ended s c.args.terms.now ms _ c.loop-member.forms.items (drop_of_length-le c.args.members.now c.loop-member-test.false) (c.loop-member.invariant s ms h re)
