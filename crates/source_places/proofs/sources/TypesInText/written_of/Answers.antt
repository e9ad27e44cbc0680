use Rattle.std.proofs.Common.{refl, subst, sym}
use Rattle.lists.proofs.Lemmas.{same_some}
use Rattle.table_making.specs.declared.origin.TypeOrigin.{TypeOrigin}
use Rattle.source_places.specs.States.{IsElsewhere, as_it_is, elsewhere}
use Rattle.source_places.proofs.sources.TypesInText.written_of.Goals as goal

pub returns-in-Some : goal.returns-in-Some
returns-in-Some c = elsewhere refl c.in-Some.ensures.some

pub returns-in-None : goal.returns-in-None
returns-in-None c = as_it_is (λ b u e h. c.in-None.ensures.none b (subst (λ (o : TypeOrigin). IsElsewhere c.args.self.now c.args.number o b) (sym (same_some e)) h))
