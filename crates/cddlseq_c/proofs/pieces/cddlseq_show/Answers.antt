use Rattle.std.proofs.Common.{refl, sym, subst}
use Rattle.cddlseq_c.specs.Fed.{Fed}
use Rattle.cddlseq_c.specs.Handles.{by_it, by_nothing}
use Rattle.cddlseq_c.specs.Pieces.{IsShownBy}
use Rattle.cddlseq_c.proofs.pieces.cddlseq_show.Goals as goal

pub returns-in_default-clause-shown : goal.returns-in_default-clause-shown
returns-in_default-clause-shown c = by_nothing (sym c.in_default.ensures.taken) (record { out = refl; no_bytes = refl })

pub returns-clause-shown : goal.returns-clause-shown
returns-clause-shown c =
    by_it c.in-Some.held.value (sym c.in-Some.ensures.taken) c.show-status.result
    (subst (λ (f : Fed). IsShownBy c.args.wanted f c.args.out.now c.show-status.new.out c.show-status.new.needed c.show-status.result) c.deref.ensures c.show-status.ensures)
