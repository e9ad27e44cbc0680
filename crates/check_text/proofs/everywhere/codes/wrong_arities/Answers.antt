use Rattle.std.proofs.Common.{◌++◌, sym, subst, ap, ◌∙◌}
use Rattle.cddl_language.specs.Faults.{HasWrongArity}
use Rattle.all_offsets.specs.Offsets.{AreOf}
use Rattle.check_text.proofs.OfEverywhere.OfRules.{wrong_arities}
use Rattle.check_text.proofs.everywhere.codes.wrong_arities.Goals as goal

pub returns : goal.returns
returns c s tree e is =
    let items = c.in_ok-extend_from_slice.ensures.items ∙ ap (λ ys. c.in_ok-offsets.offsets.items ++ ys) c.deref.ensures.value in
    subst (AreOf (HasWrongArity s)) (sym items) (wrong_arities s _ _ (c.in_ok-offsets.ensures s tree e is) (c.in_ok-at_names.ensures s tree e is))
