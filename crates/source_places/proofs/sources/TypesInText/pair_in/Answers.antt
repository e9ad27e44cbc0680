use Rattle.std.proofs.Common.{sym, subst}
use Rattle.type_links.specs.declared.link.Link.{Link}
use Rattle.source_places.specs.States.{ArePairIn}
use Rattle.source_places.proofs.Stepping.{no_pair_of_type, none_then, ok_then, pair_value, some_then}
use Rattle.source_places.proofs.sources.TypesInText.pair_in.Goals as goal

pub returns-in-Key-clause-some : goal.returns-in-Key-clause-some
returns-in-Key-clause-some c = ok_then c.value_in.result _ _ (λ o f. some_then o _ _ (λ a h. subst (λ (m : Link). ArePairIn c.args.self.now c.args.number c.args.found m c.args.link a) (sym c.in-Key.is) h) f) c.value_in.ensures.some

pub returns-in-Key-clause-none : goal.returns-in-Key-clause-none
returns-in-Key-clause-none c = ok_then c.value_in.result _ _ (λ o f. none_then o _ _ (λ none a h. pair_value c.args.self.now c.args.number c.args.found c.args.first c.args.link a c.in-Key.is h (none a)) f) c.value_in.ensures.none

pub returns-in-Type-clause-none : goal.returns-in-Type-clause-none
returns-in-Type-clause-none c = λ a h. no_pair_of_type c.args.self.now c.args.number c.args.found c.args.first c.args.link a c.in-Type.is h
