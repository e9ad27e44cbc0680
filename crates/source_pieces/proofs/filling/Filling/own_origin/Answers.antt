use Rattle.std.proofs.Common.{sym, subst}
use Rattle.cddl_language.specs.Substitution.{fill}
use Rattle.source_pieces.specs.Instances.{as_written}
use Rattle.source_pieces.specs.Origins.{IsClosedOrigin}
use Rattle.source_pieces.proofs.FilledPieces.{no_instance, none_chosen, row_filled, word_filled}
use Rattle.source_pieces.proofs.filling.Filling.own_origin.Goals as goal

pub returns-in_ok-filled-in-Row-clause-origin : goal.returns-in_ok-filled-in-Row-clause-origin
returns-in_ok-filled-in-Row-clause-origin c = λ ks ps xs places texts trees p h.
    row_filled (fill ps xs) c.args.terms.now c.row.new.terms c.in-Row.row c.in_ok-filled-in-Row.filled p (c.in_ok-filled-in-Row.ensures.term ks ps xs places texts trees) (subst (IsClosedOrigin as_written c.args.terms.now p) c.in-Row.is h)

pub returns-in-Instance-clause-origin : goal.returns-in-Instance-clause-origin
returns-in-Instance-clause-origin c = λ ks ps xs places texts trees p h. absurd (no_instance c.args.terms.now c.in-Instance.field-0 p (subst (IsClosedOrigin as_written c.args.terms.now p) c.in-Instance.is h))

pub returns-in-Chosen-clause-origin : goal.returns-in-Chosen-clause-origin
returns-in-Chosen-clause-origin c = λ ks ps xs places texts trees p h. absurd (none_chosen c.args.terms.now c.in-Chosen.field-0 p (subst (IsClosedOrigin as_written c.args.terms.now p) c.in-Chosen.is h))

pub returns-in-Word-clause-origin : goal.returns-in-Word-clause-origin
returns-in-Word-clause-origin c = λ ks ps xs places texts trees p h.
    subst (IsClosedOrigin (fill ps xs) c.args.terms.now p) (sym c.in-Word.is) (word_filled (fill ps xs) c.args.terms.now c.in-Word.field-0 p (subst (IsClosedOrigin as_written c.args.terms.now p) c.in-Word.is h))
