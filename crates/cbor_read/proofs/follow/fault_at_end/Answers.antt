use Rattle.std.proofs.Common.{◌+◌, length, sym, ◌∙◌, subst}
use Rattle.cbor_data.specs.Faults.{IsFaultOf}
use Rattle.cbor_read.proofs.Following.{full_end, cut_end}
use Rattle.cbor_read.proofs.follow.fault_at_end.Goals as goal
use Rattle.cbor_read.proofs.follow.fault_at_end.Goals.{then-count-from, else-count-from}

pub returns : goal.returns
returns c =
    let l = c.args.limits in
    let o = c.args.offset in
    let most = c.from.ensures ∙ c.item_bytes.ensures.value in
    λ b same open_here.
    elim c.if-count-from.branch [
      | then-count-from w ↦ subst (λ n. IsFaultOf l o b c.if-count-from.kind (o + n)) (sym same) (subst (λ k. IsFaultOf l o b k (o + length b)) (sym w.kind-is) (full_end l o b open_here (sym same ∙ (w.if-count-from.true ∙ most))))
      | else-count-from w ↦ subst (λ n. IsFaultOf l o b c.if-count-from.kind (o + n)) (sym same) (subst (λ k. IsFaultOf l o b k (o + length b)) (sym w.kind-is) (cut_end l o b open_here (λ e. w.if-count-from.false (same ∙ (e ∙ sym most)))))
    ]
