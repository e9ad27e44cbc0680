use Rattle.std.proofs.Common.{sym, ◌∙◌}
use Rattle.lists.proofs.Lemmas.{some_none}
use Rattle.source_places.proofs.Stepping.{any_type, if_none, no_type, none_then, some_then}
use Rattle.source_places.proofs.sources.TypesInText.type_in.Goals as goal

pub returns-in_err-origin-clause-none : goal.returns-in_err-origin-clause-none
returns-in_err-origin-clause-none c = if_none c.from_residual.result _ (λ a h. some_none (sym h.there ∙ sym c.in_err-origin.ensures))

pub returns-clause-some : goal.returns-clause-some
returns-clause-some c = some_then c.first_type.result _ _ (λ a h. any_type c.args.self.now c.args.number c.args.found c.args.link a (sym c.in_ok-origin.ensures) h.0 h.1) c.first_type.ensures.some

pub returns-clause-none : goal.returns-clause-none
returns-clause-none c = none_then c.first_type.result _ _ (λ none a h. no_type c.args.self.now c.args.number c.args.found c.args.link a (sym c.in_ok-origin.ensures) none h) c.first_type.ensures.none
