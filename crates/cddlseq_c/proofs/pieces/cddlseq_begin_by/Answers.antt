use Rattle.std.proofs.Common.{Some, refl, sym, ap, ◌∙◌}
use Rattle.cddlseq_c.specs.Handles.{by_it, by_nothing, is_made, unmade}
use Rattle.cddlseq_c.specs.Pieces.{begun_by}
use Rattle.cddlseq_c.proofs.pieces.cddlseq_begin_by.Goals as goal

pub returns-in_default-clause-made : goal.returns-in_default-clause-made
returns-in_default-clause-made c = by_nothing (sym c.in_default.ensures.taken) refl

pub returns-in-Ok-clause-made : goal.returns-in-Ok-clause-made
returns-in-Ok-clause-made c = by_it c.in-Some.held.value (sym c.in-Some.ensures.taken) _ (is_made (c.put-in-Ok.ensures ∙ ap Some (c.in-Ok.ensures ∙ ap begun_by c.deref.ensures)))

pub returns-in-Err-clause-made : goal.returns-in-Err-clause-made
returns-in-Err-clause-made c = by_it c.in-Some.held.value (sym c.in-Some.ensures.taken) _ (unmade refl)
