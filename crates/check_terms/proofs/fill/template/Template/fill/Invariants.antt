use Rattle.std.proofs.Common.{drop}
use Rattle.check_terms.proofs.OfFill.Filled.{AreFilled}
use Rattle.check_terms.proofs.fill.template.Template.fill.Given as goal

abbrev pub invariant-loop-step : goal.invariant-loop-step
invariant-loop-step l = AreFilled l.initial.terms l.terms l.self.steps.items (drop l.step-index l.self.steps.items) l.arguments l.made.items
