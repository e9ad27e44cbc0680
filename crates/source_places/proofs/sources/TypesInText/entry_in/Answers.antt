use Rattle.source_places.specs.States.{within}
use Rattle.source_places.proofs.Stepping.{any_entry, no_entry, none_then, ok_then, some_then}
use Rattle.source_places.proofs.sources.TypesInText.entry_in.Goals as goal

pub returns-in-None-clause-some : goal.returns-in-None-clause-some
returns-in-None-clause-some c = ok_then c.entry_called.result _ _ (λ o f. some_then o _ _ (λ a h. any_entry c.args.self.now c.args.found c.in-Some.around c.args.alternative c.args.place a c.in-Some.is h) f) c.entry_called.ensures.some

pub returns-in-None-clause-none : goal.returns-in-None-clause-none
returns-in-None-clause-none c = ok_then c.entry_called.result _ _ (λ o f. none_then o _ _ (λ none a h. no_entry c.args.self.now c.args.found c.in-Some.around c.args.alternative c.args.place a c.in-Some.is (c.in-None.ensures.none a) (none a) h) f) c.entry_called.ensures.none

pub returns-in-Some-first_entry-clause-some : goal.returns-in-Some-first_entry-clause-some
returns-in-Some-first_entry-clause-some c = any_entry c.args.self.now c.args.found c.in-Some.around c.args.alternative c.args.place _ c.in-Some.is (within c.in-Some-first_entry.ensures.some)
