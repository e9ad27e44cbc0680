use Rattle.std.proofs.Common.{length, sym, subst, ◌∙◌}
use Rattle.std.proofs.lemmas.Result.{IfOk-weaker}
use Rattle.check_names.specs.Environment.Names.{AreNames}
use Rattle.cddl_check.proofs.all_faults.recursions.Goals as goal

pub returns : goal.returns
returns c =
    IfOk-weaker c.all_recursion.result _ _
    (λ v h s worth tree root refs reading order.
    let x = c.args.reading.now.survey in
    let names = subst (AreNames (length c.args.terms.now.texts) x.known.items x.definitions.items) (sym c.deref-2.ensures.value) reading.named.names in
    h s root refs x.known.items x.definitions.items (c.deref.ensures.value ∙ reading.named.starts) reading.named.known reading.named.defined names reading.meant.closed order)
    c.all_recursion.ensures
