use Rattle.std.proofs.Common.{List, drop_of_length-le, sym, subst}
use Rattle.lists.proofs.Lemmas.{next_drop}
use Rattle.cddl_meaning.specs.Alike.{AlikeAll}
use Rattle.check_groups.specs.Splices.Maps.{IsMember}
use Rattle.alternatives.specs.declared.Member.{Member}
use Rattle.table_making.proofs.Mapping.{map_begun, map_ended, map_on}
use Rattle.table_making.proofs.maps.map_forms.Goals as goal

pub loop-members-init : goal.loop-members-init
loop-members-init c = λ s mss h re. map_begun s c.args.terms.now mss c.args.alternatives.now _ c.new-forms.ensures.items h re

pub loop-members-preserved : goal.loop-members-preserved
loop-members-preserved c = λ s mss h re. map_on s c.args.terms.now mss _ _ c.members-item.result c.loop-members.forms.items c.push.new.items.items c.in_ok-entry_forms.field-0 (next_drop c.args.alternatives.now c.loop-members.members-index c.members-item.result c.loop-members-test.true c.members-item.is) c.in_ok-push.ensures (λ ms are known. c.in_ok-entry_forms.ensures s ms (subst (λ (ns : List Member). AlikeAll (IsMember c.args.terms.now) ms ns) (sym c.deref.ensures.value) are) known) (c.loop-members.invariant s mss h re)

pub returns : goal.returns
returns c = λ s mss h re. map_ended s c.args.terms.now mss _ c.loop-members.forms.items (drop_of_length-le c.args.alternatives.now c.loop-members-test.false) (c.loop-members.invariant s mss h re)
