use Rattle.std.proofs.Common.{subst}
use Rattle.cddl_language.specs.Substitution.{fill}
use Rattle.source_pieces.specs.Origins.{MayBeOf}
use Rattle.source_pieces.proofs.FilledPieces.{none_filled_there, some_filled}
use Rattle.source_pieces.proofs.filling.Filling.origin.Goals as goal

pub returns-in_ok-filled-in-Some-clause-origin : goal.returns-in_ok-filled-in-Some-clause-origin
returns-in_ok-filled-in-Some-clause-origin c = λ ks ps xs places texts trees p h.
    some_filled (fill ps xs) c.args.terms.now c.own_origin.new.terms c.in-Some.origin c.in_ok-filled-in-Some.filled p (c.in_ok-filled-in-Some.ensures.origin ks ps xs places texts trees p) (subst (MayBeOf c.args.terms.now p) c.in-Some.is h)

pub returns-in-None-clause-origin : goal.returns-in-None-clause-origin
returns-in-None-clause-origin c = λ ks ps xs places texts trees p h. none_filled_there (fill ps xs) c.args.terms.now p (subst (MayBeOf c.args.terms.now p) c.in-None.is h)
