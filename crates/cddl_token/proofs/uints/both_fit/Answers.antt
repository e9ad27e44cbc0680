use Rattle.std.proofs.Common.{inl, inr}
use Rattle.cddl_token.proofs.uints.both_fit.Goals as goal

pub returns-then-not-fits-clause-otherwise : goal.returns-then-not-fits-clause-otherwise
returns-then-not-fits-clause-otherwise c = λ t. inl (c.fits.ensures.otherwise c.if-not-fits.true)

pub returns-clause-yes : goal.returns-clause-yes
returns-clause-yes c = λ t. (c.fits.ensures.yes c.if-not-fits.false, c.fits-2.ensures.yes t)

pub returns-clause-otherwise : goal.returns-clause-otherwise
returns-clause-otherwise c = λ t. inr (c.fits-2.ensures.otherwise t)
