use Rattle.std.proofs.Common.{ℕ, refl, sym, subst}
use Rattle.source_places.specs.States.{IsAlternative}
use Rattle.source_places.proofs.Stepping.{if_none, no_named, none_then, some_then}
use Rattle.source_places.proofs.sources.TypesInText.entry_named.Goals as goal

pub returns-in_err-found-clause-none : goal.returns-in_err-found-clause-none
returns-in_err-found-clause-none c = if_none c.from_residual.result _ (λ a h. c.in_err-found.ensures.none a.rule h.own h.is_alternative)

pub returns-clause-some : goal.returns-clause-some
returns-clause-some c = some_then c.first_entry.result _ _ (λ a h. record { own = c.in_ok-found.found.own; is_alternative = subst (λ (r : ℕ). IsAlternative c.args.self.now c.args.name c.args.alternative r c.in_ok-found.found.own) (sym h.rule) c.in_ok-found.ensures.some; is = record { contained = h.contained; rule = refl; round = h.round; is = h.is } }) c.first_entry.ensures.some

pub returns-clause-none : goal.returns-clause-none
returns-clause-none c = none_then c.first_entry.result _ _ (λ none a h. no_named c.args.self.now c.args.name c.args.alternative c.args.place c.in_ok-found.found.rule c.in_ok-found.found.own a c.in_ok-found.ensures.some none h) c.first_entry.ensures.none
