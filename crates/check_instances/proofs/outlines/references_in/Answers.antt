use Rattle.std.proofs.Common.{◌<◌, [], Some, sym, subst, ap, ◌∙◌, slice_get}
use Rattle.check_terms.specs.Fill.Rows.{with_part}
use Rattle.check_instances.specs.Outlines.{references_after}
use Rattle.check_instances.proofs.OfOutlines.Parts.{AreTaken, none_taken, one_taken, whole}
use Rattle.check_instances.proofs.OfOutlines.Taking.{bound, fewer}
use Rattle.check_instances.proofs.outlines.references_in.Goals as goal

pub loop-number-init : goal.loop-number-init
loop-number-init c = λ x ps h.
    let t = c.args.terms.now in
    let keys = c.in_ok-add_part.ensures ∙ ap (λ ks. with_part ks (Some c.row_of.result)) c.new-parts.ensures.empty in
    let own = subst (λ n. AreTaken t x ps (with_part [] (Some n)) []) (sym c.row_of.ensures) (none_taken t x ps _ (whole t x ps c.args.body h)) in
    subst (AreTaken t x ps c.add_part.new.parts.keys) (sym c.new-references.ensures.items) (subst (λ ks. AreTaken t x ps ks []) (sym keys) own)

pub loop-number-smaller : goal.loop-number-smaller
loop-number-smaller c =
    let t = c.args.terms.now in
    subst (λ ks. bound ks < bound c.loop-number.parts.keys) (sym c.in_ok-take_row.ensures.parts) (fewer t c.in-Some.number c.loop-number.parts.keys c.pop_last.new.self.keys c.is_table.ensures c.in-Some.ensures.removal c.in-Some.ensures.all_below)

pub loop-number-preserved : goal.loop-number-preserved
loop-number-preserved c = λ x ps h.
    let t = c.args.terms.now in
    let k = c.in-Some.number in
    let left = c.pop_last.new.self.keys in
    let step = one_taken t x ps k c.loop-number.parts.keys left c.loop-number.references.items c.in-Some.ensures.removal (c.loop-number.invariant x ps h) in
    subst (AreTaken t x ps c.take_row.new.parts.keys) (sym c.in_ok-take_row.ensures.references) (subst (λ ks. AreTaken t x ps ks (references_after (slice_get t.rows k) k c.loop-number.references.items)) (sym c.in_ok-take_row.ensures.parts) step)

pub returns : goal.returns
returns c = λ x ps h. (c.loop-number.invariant x ps h).1
