use Rattle.std.proofs.Common.{Option, sym, subst, ◌∙◌}
use Rattle.lists.proofs.Lemmas.{some_none}
use Rattle.table_making.specs.declared.origin.TypeOrigin.{TypeOrigin}
use Rattle.source_places.specs.States.{IsWrittenIn, as_it_is}
use Rattle.source_places.proofs.sources.TypesInText.written.Goals as goal

pub returns-in-Some : goal.returns-in-Some
returns-in-Some c = subst (λ (o : Option TypeOrigin). IsWrittenIn c.args.self.now c.args.number o c.args.found.span c.written_of.result) (sym c.in-Some.is ∙ c.sought.ensures) c.written_of.ensures

pub returns-in-None : goal.returns-in-None
returns-in-None c = as_it_is (λ b u e h. some_none (sym e ∙ (sym c.sought.ensures ∙ c.in-None.is)))
