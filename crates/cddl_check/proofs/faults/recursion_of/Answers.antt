use Rattle.std.proofs.Common.{length, sym, subst, ◌∙◌}
use Rattle.check_names.specs.Environment.Names.{AreNames}
use Rattle.cddl_check.proofs.faults.recursion_of.Goals as goal

pub returns : goal.returns
returns c s worth tree root refs reading order =
    let v = c.args.reading.now.survey in
    let names = subst (AreNames (length c.args.terms.now.texts) v.known.items v.definitions.items) (sym c.deref-2.ensures.value) reading.named.names in
    c.recursion.ensures s root refs v.known.items v.definitions.items (c.deref.ensures.value ∙ reading.named.starts) reading.named.known reading.named.defined names reading.meant.closed order
