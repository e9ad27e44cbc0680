use Rattle.source_places.proofs.LastInstance.{none_more, one_last}
use Rattle.source_places.proofs.sources.TypesInText.later_instance.Goals as goal

pub returns-in-Some : goal.returns-in-Some
returns-in-Some c = λ ids h. one_last c.args.self.now ids c.args.link c.in-Some.instance c.in-Some.ensures.some.0 c.in-Some.ensures.some.1

pub returns-in-None : goal.returns-in-None
returns-in-None c = λ ids h. none_more c.args.self.now ids c.args.link c.args.last c.in-None.ensures.none h
