use Rattle.std.proofs.Common.{slice_index_or, sym, ap, ◌∙◌, subst}
use Rattle.cddl_meaning.specs.Forms as F
use Rattle.table_nodes.specs.Nodes.{type_view}
use Rattle.tape_match.specs.Says.{SaysAs}
use Rattle.tape_match.proofs.Left.{one_of}
use Rattle.tape_match.proofs.Says.{name_says, one_says}
use Rattle.tape_match.proofs.asking.type_named.Goals as goal

pub returns-in-Ref-clause-says : goal.returns-in-Ref-clause-says
returns-in-Ref-clause-says c = λ l. subst (λ f. SaysAs l f (l.type_at c.in-Ref.to) 1) (sym (ap type_view c.in-Ref.is)) (name_says l c.in-Ref.to)

pub returns-in-len1-clause-says : goal.returns-in-len1-clause-says
returns-in-len1-clause-says c = λ l.
    let member = slice_index_or c.as_slice.result.now 0 (record { number = 0 }) in
    let one = one_of c.as_slice.result.now (record { number = 0 }) c.in-len1.len_at_least c.in-len1.len_below in
    subst (λ f. SaysAs l f (l.type_at member) 1) (sym (ap type_view c.in-Choice.is ∙ ap F.Choice (sym c.as_slice.ensures.value ∙ one))) (one_says l member)

pub returns-in-Ref-clause-keyed : goal.returns-in-Ref-clause-keyed
returns-in-Ref-clause-keyed c = λ next. ap (λ f. F.key_by next (type_view f)) c.in-Ref.is

pub returns-in-len1-clause-keyed : goal.returns-in-len1-clause-keyed
returns-in-len1-clause-keyed c = λ next.
    let one = one_of c.as_slice.result.now (record { number = 0 }) c.in-len1.len_at_least c.in-len1.len_below in
    ap (λ f. F.key_by next f) (ap type_view c.in-Choice.is ∙ ap F.Choice (sym c.as_slice.ensures.value ∙ one))
