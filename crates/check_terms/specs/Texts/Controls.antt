-- When a `Control` is one that is known.
use Rattle.cddl_language.specs.Controls as L
use Rattle.check_terms.specs.declared.texts.controls.Control.{Control}
use Rattle.check_terms.specs.declared.texts.controls.Control.TheVariants as C
use Rattle.check_terms.specs.declared.texts.controls.Comparison.{Comparison}
use Rattle.check_terms.specs.declared.texts.controls.Comparison.TheVariants as Comp
use Rattle.check_terms.specs.declared.texts.controls.Membership.{Membership}
use Rattle.check_terms.specs.declared.texts.controls.Membership.TheVariants as Memb
use Rattle.check_terms.specs.declared.texts.controls.Computation.{Computation}
use Rattle.check_terms.specs.declared.texts.controls.Computation.TheVariants as Comput

abbrev pub comparison_view : Comparison → L.Comparison
comparison_view Comp.Equal = L.equal
comparison_view Comp.Different = L.different
comparison_view Comp.Less = L.less
comparison_view Comp.AtMost = L.at_most
comparison_view Comp.Greater = L.greater
comparison_view Comp.AtLeast = L.at_least

abbrev pub membership_view : Membership → L.Membership
membership_view Memb.Size = L.of_size
membership_view Memb.Bits = L.of_bits

abbrev pub computation_view : Computation → L.Computation
computation_view Comput.Sum = L.sum
computation_view (Comput.Join j) = L.join j

abbrev pub control_view : Control → L.Control
control_view C.LeftAlone = L.left_alone
control_view C.LeftAndRight = L.left_and_right
control_view C.HeldItem = L.held_item
control_view C.HeldSequence = L.held_sequence
control_view (C.Compared c) = L.compared (comparison_view c)
control_view (C.Member m) = L.member (membership_view m)
control_view (C.Computed c) = L.computed (computation_view c)
