use Rattle.std.proofs.Common.{slice_index_or, sym, ap, ◌∙◌, subst}
use Rattle.cddl_meaning.specs.Forms as F
use Rattle.table_nodes.specs.Nodes.{group_view}
use Rattle.tape_match.specs.Says.{DoesAs}
use Rattle.tape_match.proofs.Left.{one_of}
use Rattle.tape_match.proofs.Says.{name_does, one_alternative, one_in_sequence}
use Rattle.tape_match.proofs.asking.group_named.Goals as goal

pub returns-in-Ref : goal.returns-in-Ref
returns-in-Ref c = λ l. subst (λ f. DoesAs l f (l.group_at c.in-Ref.to) 1) (sym (ap group_view c.in-Ref.is)) (name_does l c.in-Ref.to)

pub returns-in-len1 : goal.returns-in-len1
returns-in-len1 c = λ l.
    let part = slice_index_or c.as_slice.result.now 0 (record { number = 0 }) in
    let one = one_of c.as_slice.result.now (record { number = 0 }) c.in-len1.len_at_least c.in-len1.len_below in
    subst (λ f. DoesAs l f (l.group_at part) 1) (sym (ap group_view c.in-Sequence.is ∙ ap F.Sequence (sym c.as_slice.ensures.value ∙ one))) (one_in_sequence l part)

pub returns-in-len1-as_slice : goal.returns-in-len1-as_slice
returns-in-len1-as_slice c = λ l.
    let part = slice_index_or c.as_slice-in-Alternatives.result.now 0 (record { number = 0 }) in
    let one = one_of c.as_slice-in-Alternatives.result.now (record { number = 0 }) c.in-len1-as_slice.len_at_least c.in-len1-as_slice.len_below in
    subst (λ f. DoesAs l f (l.group_at part) 1) (sym (ap group_view c.in-Alternatives.is ∙ ap F.Alternatives (sym c.as_slice-in-Alternatives.ensures.value ∙ one))) (one_alternative l part)
