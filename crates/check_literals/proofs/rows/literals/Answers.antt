use Rattle.std.proofs.Common.{ℕ, List, length, map, sym, subst, ap, ◌∙◌}
use Rattle.cddl_language.specs.Reading.{definitions_in, rules_of}
use Rattle.check_literals.specs.Edges.{edges_from}
use Rattle.check_literals.specs.Found.{AreTold, IsOrdered}
use Rattle.check_literals.specs.Needs.{need_view}
use Rattle.check_literals.specs.declared.needs.Need.{Need}
use Rattle.check_literals.proofs.Edging.{bottom_up_of, ordered}
use Rattle.check_literals.proofs.Assembling.{assembled}
use Rattle.check_literals.proofs.rows.literals.Goals as goal

pub progress_of-requires : goal.progress_of-requires
progress_of-requires c =
    let needs = c.in_ok-needs.needs.items in
    let up = bottom_up_of needs c.len.result c.deref-2.result.now c.in_ok-order.order.items (c.len.ensures ∙ (c.in_ok-needs.needs.ok).0) (c.deref-2.ensures.value ∙ c.in_ok-edges.ensures ∙ ap (λ (ds : List Need). edges_from 0 (map need_view ds)) c.deref.ensures.value) c.in_ok-order.ensures in
    let is = ordered (map need_view needs) c.in_ok-order.order.items up in
    subst (λ (ds : List Need). IsOrdered (map need_view ds) c.deref-4.result.now) (sym c.deref-3.ensures.value) (subst (IsOrdered (map need_view needs)) (sym c.deref-4.ensures.value) is)

pub returns : goal.returns
returns c = λ x worth root refs right is kinds.
    let needs = c.in_ok-needs.needs.items in
    let up = bottom_up_of needs c.len.result c.deref-2.result.now c.in_ok-order.order.items (c.len.ensures ∙ (c.in_ok-needs.needs.ok).0) (c.deref-2.ensures.value ∙ c.in_ok-edges.ensures ∙ ap (λ (ds : List Need). edges_from 0 (map need_view ds)) c.deref.ensures.value) c.in_ok-order.ensures in
    let told = subst (λ (ds : List Need). AreTold c.args.terms.now (map need_view ds) c.in_ok-order.order.items (length c.in_ok-order.order.items) c.in_ok-known.known) c.deref-3.ensures.value (subst (λ (os : List ℕ). AreTold c.args.terms.now (map need_view c.deref-3.result.now) os (length os) c.in_ok-known.known) c.deref-4.ensures.value c.in_ok-known.ensures) in
    assembled worth (definitions_in (rules_of x)) root c.args.terms.now c.one_value.ensures.answer refs c.args.closed.now c.args.kinds.now is c.equal_numbers.ensures.reference kinds (c.reached_values.ensures.types x worth right root) (map need_view needs) c.in_ok-needs.ensures c.in_ok-order.order.items up c.in_ok-known.known told
