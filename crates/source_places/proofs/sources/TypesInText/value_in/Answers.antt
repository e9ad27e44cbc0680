use Rattle.source_places.specs.States.{of_asked, of_value}
use Rattle.source_places.proofs.Stepping.{none_then, some_then}
use Rattle.source_places.proofs.sources.TypesInText.value_in.Goals as goal

pub returns-in-Some-clause-some : goal.returns-in-Some-clause-some
returns-in-Some-clause-some c = of_value c.in-Some.ensures.some

pub returns-clause-some : goal.returns-clause-some
returns-clause-some c = some_then c.value_asked.result _ _ (λ a h. of_asked c.in-None.ensures.none h) c.value_asked.ensures.some

pub returns-clause-none : goal.returns-clause-none
returns-clause-none c = none_then c.value_asked.result _ _ (λ none a. (c.in-None.ensures.none a, none a)) c.value_asked.ensures.none
