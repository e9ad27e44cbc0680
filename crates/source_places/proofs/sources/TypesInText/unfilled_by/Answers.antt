use Rattle.std.proofs.Common.{sym, ◌∙◌}
use Rattle.lists.proofs.Lemmas.{some_none}
use Rattle.source_places.proofs.Stepping.{any_unfilled, if_none, no_unfilled}
use Rattle.source_places.proofs.sources.TypesInText.unfilled_by.Goals as goal

pub returns-in_err-key-clause-none : goal.returns-in_err-key-clause-none
returns-in_err-key-clause-none c = if_none c.from_residual.result _ (λ a h. some_none (sym h.key_there ∙ sym c.in_err-key.ensures))

pub returns-in_err-piece-clause-none : goal.returns-in_err-piece-clause-none
returns-in_err-piece-clause-none c = if_none c.from_residual-in_err-piece.result _ (λ a h. no_unfilled c.args.self.now c.args.number c.args.found c.args.key c.args.link a (sym c.in_ok-key.ensures) c.in_err-piece.ensures.none h)

pub returns-clause-some : goal.returns-clause-some
returns-clause-some c = any_unfilled c.args.self.now c.args.number c.args.found c.args.key c.args.link c.asking.result c.in_ok-piece.piece (sym c.in_ok-key.ensures) (sym c.in_ok-origin_of.ensures) c.in_ok-piece.ensures.some c.asking.ensures
