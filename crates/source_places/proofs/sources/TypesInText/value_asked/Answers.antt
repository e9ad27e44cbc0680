use Rattle.source_places.specs.States.{of_map, of_unfilled}
use Rattle.source_places.proofs.Stepping.{no_asked, none_then, some_then}
use Rattle.source_places.proofs.sources.TypesInText.value_asked.Goals as goal

pub returns-in-Some-clause-some : goal.returns-in-Some-clause-some
returns-in-Some-clause-some c = of_unfilled c.in-Some.ensures.some

pub returns-in-None-clause-some : goal.returns-in-None-clause-some
returns-in-None-clause-some c = some_then c.asked_in.result _ _ (λ a h. of_map c.in-None.ensures.none h) c.asked_in.ensures.some

pub returns-in-None-clause-none : goal.returns-in-None-clause-none
returns-in-None-clause-none c = none_then c.asked_in.result _ _ (λ none a h. no_asked c.args.self.now c.args.number c.args.found c.args.key c.args.link a (c.in-None.ensures.none a) (none a) h) c.asked_in.ensures.none
