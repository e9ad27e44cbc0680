use Rattle.std.proofs.Common.{Option, subst}
use Rattle.source_places.specs.States.{IsStateOf}
use Rattle.source_places.specs.declared.place.State.{State}
use Rattle.source_places.proofs.Stepping.{begun, none_further}
use Rattle.source_places.proofs.sources.TypesInText.step.Goals as goal

pub returns-in-Some : goal.returns-in-Some
returns-in-Some c = λ ids h. begun c.args.self.now c.args.link ids c.in-Some.new c.in-Some.ensures.some

pub returns-in_ok-new-in-Some-state : goal.returns-in_ok-new-in-Some-state
returns-in_ok-new-in-Some-state c = λ ids h. c.in_ok-new-in-Some-state.ensures ids c.in-None.ensures.none (subst (λ (o : Option State). IsStateOf c.args.self.now ids o) c.in-Some-state.is h)

pub returns-in-None-state : goal.returns-in-None-state
returns-in-None-state c = λ ids h. none_further c.args.self.now c.args.link ids c.in-None.ensures.none (subst (λ (o : Option State). IsStateOf c.args.self.now ids o) c.in-None-state.is h)
