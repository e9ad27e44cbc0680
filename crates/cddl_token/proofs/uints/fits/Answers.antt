use Rattle.std.proofs.Common.{◌^◌, ⊎_elim}
use Rattle.std.proofs.lemmas.Bool.{cases_lt}
use Rattle.cddl_token.proofs.uints.fits.Goals as goal

pub returns-in-Some-clause-yes : goal.returns-in-Some-clause-yes
returns-in-Some-clause-yes c = λ t n h. ⊎_elim (λ e. absurd (c.if-from-to.false e.0)) (λ u. (c.in-Some.ensures n u).0) h

pub returns-in-None-clause-otherwise : goal.returns-in-None-clause-otherwise
returns-in-None-clause-otherwise c = λ t n h. ⊎_elim (λ e. absurd (c.if-from-to.false e.0)) (λ u. ⊎_elim (λ lt. absurd (c.in-None.ensures n u lt)) (λ ge. ge) (cases_lt n (2 ^ 64))) h
