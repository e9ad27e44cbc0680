use Rattle.std.proofs.Common.{sym, subst}
use Rattle.type_links.specs.declared.link.Link.{Link}
use Rattle.source_places.specs.States.{IsOneIn, of_key, of_type}
use Rattle.source_places.proofs.Stepping.{no_one_alternative, no_one_entry, none_then, ok_then, one_key, one_type, some_then}
use Rattle.source_places.proofs.sources.TypesInText.one_in.Goals as goal

pub returns-in-Key-clause-some : goal.returns-in-Key-clause-some
returns-in-Key-clause-some c = ok_then c.key_in.result _ _ (λ o f. some_then o _ _ (λ a h. subst (λ (m : Link). IsOneIn c.args.self.now c.args.number c.args.found m a) (sym c.in-Key.is) (of_key h)) f) c.key_in.ensures.some

pub returns-in-Key-clause-none : goal.returns-in-Key-clause-none
returns-in-Key-clause-none c = ok_then c.key_in.result _ _ (λ o f. none_then o _ _ (λ none a h. none a (one_key c.args.self.now c.args.number c.args.found c.args.link a c.in-Key.is h)) f) c.key_in.ensures.none

pub returns-in-Type-clause-some : goal.returns-in-Type-clause-some
returns-in-Type-clause-some c = some_then c.type_or_asked.result _ _ (λ a h. of_type h) c.type_or_asked.ensures.some

pub returns-in-Type-clause-none : goal.returns-in-Type-clause-none
returns-in-Type-clause-none c = none_then c.type_or_asked.result _ _ (λ none a h. none a (one_type c.args.self.now c.args.number c.args.found c.args.link a c.in-Type.is h)) c.type_or_asked.ensures.none

pub returns-in-Alternative-clause-none : goal.returns-in-Alternative-clause-none
returns-in-Alternative-clause-none c = λ a h. no_one_alternative c.args.self.now c.args.number c.args.found c.args.link a c.in-Alternative.is h

pub returns-in-Entry-clause-none : goal.returns-in-Entry-clause-none
returns-in-Entry-clause-none c = λ a h. no_one_entry c.args.self.now c.args.number c.args.found c.args.link a c.in-Entry.is h
