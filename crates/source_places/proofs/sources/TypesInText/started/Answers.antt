use Rattle.std.proofs.Common.{ℕ, sym, subst, ◌∙◌}
use Rattle.lists.proofs.Lemmas.{same_some}
use Rattle.source_places.specs.States.{HasNumber}
use Rattle.source_places.proofs.Stepping.{if_none}
use Rattle.source_places.proofs.sources.TypesInText.started.Goals as goal

pub returns-in_err-rule-clause-none : goal.returns-in_err-rule-clause-none
returns-in_err-rule-clause-none c = if_none c.from_residual-in_err-rule.result _ (λ n i e h. c.in_err-rule.ensures.none i (subst (λ (k : ℕ). HasNumber c.args.self.now i k) (sym (same_some (c.in_ok-number.ensures ∙ e))) h))
