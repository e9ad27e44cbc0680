use Rattle.std.proofs.Common.{Option, true≢false, sym, subst, ◌∙◌}
use Rattle.source_places.specs.States.{IsAskedIn}
use Rattle.source_pieces.specs.declared.piece.PieceAt.{PieceAt}
use Rattle.source_places.proofs.Stepping.{away_at, none_then, not_away, some_then}
use Rattle.source_places.proofs.sources.TypesInText.asked_there.Goals as goal

pub returns-then-is_away-clause-some : goal.returns-then-is_away-clause-some
returns-then-is_away-clause-some c =
    some_then c.asked_in.result _ _
    (λ a h. away_at c.args.self.now c.args.number c.args.found c.args.link c.in-Some.place c.in-Some.is (c.is_away.ensures.0 c.if-is_away.true) a (subst (λ (o : Option PieceAt). IsAskedIn c.args.self.now o c.args.link a) (sym c.in-Some.is) h))
    c.asked_in.ensures.some

pub returns-then-is_away-clause-none : goal.returns-then-is_away-clause-none
returns-then-is_away-clause-none c = none_then c.asked_in.result _ _ (λ none a h. none a (subst (λ (o : Option PieceAt). IsAskedIn c.args.self.now o c.args.link a) c.in-Some.is h.0)) c.asked_in.ensures.none

pub returns-else-is_away-clause-none : goal.returns-else-is_away-clause-none
returns-else-is_away-clause-none c = λ a h. not_away c.args.self.now c.args.number c.args.found c.args.link c.in-Some.place c.in-Some.is (λ away. true≢false (sym (c.is_away.ensures.1 away) ∙ c.if-is_away.false)) a h
