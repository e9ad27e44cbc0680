use Rattle.std.proofs.Common.{refl, sym, subst}
use Rattle.type_links.specs.declared.link.Link.{Link}
use Rattle.type_links.specs.declared.link.Link.TheVariants as L
use Rattle.source_places.specs.States.{ArePairIn, of_entry}
use Rattle.source_places.proofs.Stepping.{none_then, ok_then, pair_entry, some_then}
use Rattle.source_places.proofs.sources.TypesInText.entry_after.Goals as goal

pub returns-in-Entry-clause-some : goal.returns-in-Entry-clause-some
returns-in-Entry-clause-some c = ok_then c.entry_in.result _ _ (λ o f. some_then o _ _ (λ a h. subst (λ (l : Link). ArePairIn c.args.self.now c.args.number c.args.found (L.Alternative c.args.alternative) l a) (sym c.in-Entry.is) (of_entry h)) f) c.entry_in.ensures.some

pub returns-in-Entry-clause-none : goal.returns-in-Entry-clause-none
returns-in-Entry-clause-none c = ok_then c.entry_in.result _ _ (λ o f. none_then o _ _ (λ none a h. none a (pair_entry c.args.self.now c.args.number c.args.found (L.Alternative c.args.alternative) c.args.link a refl c.in-Entry.is h)) f) c.entry_in.ensures.none
