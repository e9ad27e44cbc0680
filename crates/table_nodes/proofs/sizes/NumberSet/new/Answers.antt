use Rattle.std.proofs.Common.{◌≡◌, ◌∙◌, ℕ, List, ap, sym}
use Rattle.std.specs.Arc.{arc_slice_items}
use Rattle.cddl_meaning.specs.Forms.{is_member}
use Rattle.table_nodes.specs.declared.sizes.NumberRange.{NumberRange}
use Rattle.table_nodes.specs.Sizes.{sizes_view}
use Rattle.table_nodes.proofs.Members.{same_bits_test, same_test}
use Rattle.table_nodes.proofs.sizes.NumberSet.new.Goals as goal

same_members : (c : goal.After-drop-ranges-2) (n : ℕ) → is_member n (sizes_view c.args.ranges.items) ≡ is_member n (sizes_view (arc_slice_items c.in_ok-ranges.ranges))
same_members c n =
    let among = λ (rs : List NumberRange). is_member n (sizes_view rs) in
    sym (ap among (c.in_ok-ranges.ensures.ok ∙ c.deref-2.ensures.value) ∙ (c.in_ok-merged.ensures.members n ∙ (ap among c.deref.ensures.value ∙ c.sort.ensures.members n)))

pub returns-clause-sizes : goal.returns-clause-sizes
returns-clause-sizes c = same_test (sizes_view c.args.ranges.items) (sizes_view (arc_slice_items c.in_ok-ranges.ranges)) (same_members c)

pub returns-clause-bits : goal.returns-clause-bits
returns-clause-bits c = same_bits_test (sizes_view c.args.ranges.items) (sizes_view (arc_slice_items c.in_ok-ranges.ranges)) (same_members c)
