use Rattle.std.proofs.Common.{subst, sym}
use Rattle.lists.specs.Least.{IsLeast}
use Rattle.cddl_language.specs.Faults.{HasWrongArity, by_rule}
use Rattle.check_text.specs.RuleFaults.Arity.{HasWrongArityAtRule}
use Rattle.check_text.proofs.OfSiteFaults.Lemmas.{least_wrong_arity}
use Rattle.check_text.proofs.text.wrong_arity.Goals as goal

pub returns : goal.returns
returns c s tree e is = subst (IsLeast (HasWrongArity s)) (sym c.lesser.ensures) (least_wrong_arity s (HasWrongArityAtRule s) (λ at r k h w d o. record { rule = r; count = k; present = h; counted = w; differs = d; offset = o }) (λ at h. by_rule h.present h.counted h.differs h.offset) _ _ (c.wrong_arity-at_rules.ensures s tree e is) (c.in_ok-at_names.ensures s tree e is))
