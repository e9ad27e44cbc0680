use Rattle.source_places.specs.States.{it_asks, it_is}
use Rattle.source_places.proofs.Stepping.{no_type_or_asked, none_then, some_then}
use Rattle.source_places.proofs.sources.TypesInText.type_or_asked.Goals as goal

pub returns-in-Some-clause-some : goal.returns-in-Some-clause-some
returns-in-Some-clause-some c = it_is c.in-Some.ensures.some

pub returns-in-None-clause-some : goal.returns-in-None-clause-some
returns-in-None-clause-some c = some_then c.asked_there.result _ _ (λ a h. it_asks c.in-None.ensures.none h) c.asked_there.ensures.some

pub returns-in-None-clause-none : goal.returns-in-None-clause-none
returns-in-None-clause-none c = none_then c.asked_there.result _ _ (λ none a h. no_type_or_asked c.args.self.now c.args.number c.args.found c.args.link a (c.in-None.ensures.none a) (none a) h) c.asked_there.ensures.none
