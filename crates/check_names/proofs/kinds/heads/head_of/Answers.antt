use Rattle.std.proofs.Common.{subst, sym, ◌∙◌, ap}
use Rattle.check_names.specs.Kinds.Heads.{IsHead, top_body, without}
use Rattle.check_names.proofs.OfKinds.Heading.{entry_head, types_head}
use Rattle.check_names.proofs.kinds.heads.head_of.Goals as goal

pub returns-in-Entry : goal.returns-in-Entry
returns-in-Entry c x h = entry_head c.args.terms.now c.args.definition.now.body x.body _ h.body c.in-Entry.is x.parameters

pub returns-in-Types : goal.returns-in-Types
returns-in-Types c x h =
    let t = c.args.terms.now in
    subst (λ g. IsHead t.texts g (top_body x.parameters x.body)) (sym (c.without_parameters.ensures ∙ ap (λ ps. without ps c.head_of_type.result) c.deref.ensures.value)) (types_head t c.len.ensures.table c.args.definition.now.body x.body _ c.head_of_type.result h.body c.in-Types.is c.head_of_type.ensures c.args.definition.now.parameters.items x.parameters h.parameters)
